-- Worked examples: the texts of answers and of messages.
use Rattle.std.proofs.Common.{◌≡◌, refl, [], ◌∷◌, Some, None}
use Rattle.std.specs.Prelude.{codes}
use Rattle.std.specs.Fmt.{digits}
use Rattle.odht_table.specs.Answers.{line_of, value_text, former_text, pair_line, walk_text, new_text}
use Rattle.odht_tool_core.specs.Texts.{hex_digits, hex_text}
use Rattle.odht_table.specs.Messages.{fault_text, refusal_text}
use Rattle.odht_table.specs.declared.script.Fault.TheVariants.{Read, Write, Memory as no_memory}
use Rattle.odht_table.specs.declared.script.Refusal.TheVariants.{BadPercent, Capacity, Memory}

-- a line ends with a line feed
pub lines : (line_of [] ≡ codes "\n") × (line_of (codes "none") ≡ codes "none\n")
lines = (refl, refl)

-- two digits of each byte: a zero in front, digits above 9 in lower case, and the bytes in their order
pub hexadecimal : (hex_digits 0 ≡ codes "00")
    × (hex_digits 9 ≡ codes "09")
    × (hex_digits 10 ≡ codes "0a")
    × (hex_digits 0x54 ≡ codes "54")
    × (hex_digits 255 ≡ codes "ff")
    × (hex_text [] ≡ [])
    × (hex_text (0x4f ∷ 0xb7 ∷ 1 ∷ []) ≡ codes "4fb701")
hexadecimal = (refl, refl, refl, refl, refl, refl, refl)

-- the answers to `get`
pub values : (value_text None ≡ codes "none")
    × (value_text (Some 0) ≡ codes "0")
    × (value_text (Some 4294967295) ≡ codes "4294967295")
unfolding digits
values = (refl, refl, refl)

-- the answers to `put`
pub formers : (former_text None ≡ codes "none")
    × (former_text (Some 2) ≡ codes "was 2")
    × (former_text (Some 120) ≡ codes "was 120")
unfolding digits
formers = (refl, refl, refl)

-- the key, a space and the value
pub pair_lines : (pair_line (1, 2) ≡ codes "1 2\n")
    × (pair_line (18446744073709551615, 0) ≡ codes "18446744073709551615 0\n")
unfolding digits
pair_lines = (refl, refl)

-- a walk over no pair, over one and over two
pub walks : (walk_text [] ≡ codes "end\n")
    × (walk_text ((1, 2) ∷ []) ≡ codes "1 2\nend\n")
    × (walk_text ((5, 6) ∷ (3, 4) ∷ []) ≡ codes "5 6\n3 4\nend\n")
unfolding digits
walks = (refl, refl, refl)

-- the numbers of a new table
pub new_texts : (new_text 16 13 ≡ codes "slots 16 max 13") × (new_text 32 0 ≡ codes "slots 32 max 0")
unfolding digits
new_texts = (refl, refl)

-- what stops a run
pub fault_texts : (fault_text Read ≡ codes "read failed")
    × (fault_text Write ≡ codes "write failed")
    × (fault_text no_memory ≡ codes "memory")
fault_texts = (refl, refl, refl)

-- why a `new` made no table
pub refusal_texts : (refusal_text BadPercent ≡ codes "bad percent")
    × (refusal_text Capacity ≡ codes "capacity")
    × (refusal_text Memory ≡ codes "memory")
refusal_texts = (refl, refl, refl)
