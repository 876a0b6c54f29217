-- Worked examples: the table that begins with some bytes, and what bytes are a table.
use Rattle.std.proofs.Common.{◌≡◌, true, false, refl, [], ◌∷◌, ◌++◌, Some, None, take}
use Rattle.odht_base.specs.Bytes.{overwritten_at}
use Rattle.odht_header.specs.declared.error.Error.TheVariants.{TooShort, WrongLength}
use Rattle.odht_header.proofs.examples.Opened.{opened}
use Rattle.odht_tool_core.specs.Finds.{is_table, is_false, false_slots}
use Rattle.odht_tool_core.specs.Fronts.{stated_len, front_refusal, table_front, offset_failure}
use Rattle.odht_tool_core.specs.declared.failure.Failure.TheVariants.{PastEnd}
use Rattle.odht_tool_core.proofs.examples.Shapes.{one_bytes}

-- bytes after the table are not its; with a byte less its length is wrong
pub fronts : (stated_len one_bytes ≡ 192)
    × (front_refusal (one_bytes ++ (7 ∷ 9 ∷ [])) ≡ None)
    × (table_front (one_bytes ++ (7 ∷ 9 ∷ [])) ≡ one_bytes)
    × (front_refusal (take 191 one_bytes) ≡ Some (WrongLength 16 191 192))
    × (front_refusal [] ≡ Some (TooShort 0))
unfolding opened
fronts = (refl, refl, refl, refl, refl)

-- an offset at the end is none past it
pub offsets : (offset_failure (7 ∷ 9 ∷ []) 2 ≡ None) × (offset_failure (7 ∷ 9 ∷ []) 3 ≡ Some (PastEnd 3 2))
offsets = (refl, refl)

-- with another control byte, in the mirror alone too, with another item count or with padding it is none; nor is the
-- last a false header, since its header is rejected
pub tables : (is_table (one_bytes ++ (7 ∷ [])) ≡ true)
    × (is_table (overwritten_at one_bytes 165 (1 ∷ [])) ≡ false)
    × (is_table (overwritten_at one_bytes 181 (1 ∷ [])) ≡ false)
    × (is_table (overwritten_at one_bytes 8 (0 ∷ [])) ≡ false)
    × (is_false (overwritten_at one_bytes 8 (0 ∷ [])) ≡ true)
    × (is_false (overwritten_at one_bytes 30 (1 ∷ [])) ≡ false)
unfolding opened is_table is_false
tables = (refl, refl, refl, refl, refl, refl)

-- the false header at the second byte states 16 slots; those inside of a table do not count
pub false_headers : (false_slots (7 ∷ overwritten_at one_bytes 8 (0 ∷ [])) 0 [] ≡ 16) × (false_slots one_bytes 0 (0 ∷ []) ≡ 0)
unfolding opened is_false
false_headers = (refl, refl)
