-- What a script is answered with.
--     line_of text          the text with its end
--     value_text o          of `get`: the value, or `none`
--     former_text o         of `put`: `was` and the former value, or `none`
--     walk_text xs          of `walk`: a line of each key and its value, and the line `end`
--     dump_of F B           of `dump`: the text of the bytes B of a table
--     new_text s m          of `new`: the slot count s and the maximum item count m
--     IsPutAnswered c P k v t Q   t answers a `put` of the pair k and v, and Q is the table after it: P with the pair
--                           inserted, or P, where it is full for k and memory for its growth was exhausted
--     IsAnswered c P r t Q  t answers the request r of the table P, and Q is the table after it
--     IsGoodPercent p       from 1 to 100
--     IsRenewed F n p t o o'   t answers `new` for n items at p percent, after which the table o' replaces o: a fresh
--                           one, or o itself where none was made
--     MayChange r           the request r is a `put`
--     check_text F B        of `check`: `valid`, or the text of the first error of the bytes B
--     IsChecked F B t       t answers `check` of the bytes B: check_text, or `memory` when memory is exhausted
use Rattle.std.specs.Prelude.{◌≡◌, ℕ, ◌≤◌, ◌⊎◌, ⊤, List, [], ◌∷◌, ◌++◌, Option, Some, None, codes}
use Rattle.std.specs.List.{flat_map}
use Rattle.std.specs.Fmt.{decimal, debug_list}
use Rattle.odht_base.specs.Format.{Format}
use Rattle.odht_base.specs.Load.{factor_of, max_items, slots_for}
use Rattle.odht_base.specs.Table.{Table as Plain, count, walk, fresh}
use Rattle.odht_base.specs.Image.{image}
use Rattle.odht_base.specs.Insert.{insert_owned, IsFullFor}
use Rattle.odht_header.specs.Coding.{Coding, encoded, value_for}
use Rattle.odht_raw.specs.Dumps.{owned_dump_text}
use Rattle.odht_header.specs.ErrorTexts.{error_text}
use Rattle.odht_header.specs.Refusals.{IsTooLarge, check_refusal}
use Rattle.odht_header.specs.declared.error.Error.{Error}
use Rattle.odht_raw.specs.Walks.{decoded_all}
use Rattle.odht_tool_core.specs.Texts.{hex_text}
use Rattle.odht_table.specs.declared.script.command.Request.{Request}
use Rattle.odht_table.specs.declared.script.command.Request.TheVariants.{Put, Get, Len, Walk, Hex, Dump}

abbrev pub line_of : List ℕ → List ℕ
line_of text = text ++ (10 ∷ [])

abbrev pub value_text : Option ℕ → List ℕ
value_text None = codes "none"
value_text (Some value) = decimal value

abbrev pub former_text : Option ℕ → List ℕ
former_text None = codes "none"
former_text (Some value) = codes "was " ++ decimal value

abbrev pub pair_line : ℕ × ℕ → List ℕ
pair_line x = line_of (decimal x.0 ++ codes " " ++ decimal x.1)

abbrev pub walk_text : List (ℕ × ℕ) → List ℕ
walk_text xs = flat_map pair_line xs ++ line_of (codes "end")

abbrev pub dump_of : Format → List ℕ → Option (List ℕ)
dump_of F B = let bytes_text = debug_list (λ b. Some (decimal b)) in owned_dump_text F bytes_text bytes_text (codes "FxHashFn") B

abbrev pub new_text : ℕ → ℕ → List ℕ
new_text slots most = codes "slots " ++ decimal slots ++ codes " max " ++ decimal most

abbrev pub IsPutAnswered : Coding ℕ ℕ → Plain → ℕ → ℕ → List ℕ → Plain → Type 0
IsPutAnswered c P key value text Q =
    ((text ≡ line_of (former_text (value_for c P key))) × (insert_owned c.format P (encoded c key value) ≡ Some Q))
    ⊎ ((text ≡ line_of (codes "memory")) × (Q ≡ P) × IsFullFor P (c.key_bytes key))

abbrev pub IsAnswered : Coding ℕ ℕ → Plain → Request → List ℕ → Plain → Type 0
IsAnswered c P (Put key value) text Q = IsPutAnswered c P key value text Q
IsAnswered c P (Get key) text Q = (text ≡ line_of (value_text (value_for c P key))) × (Q ≡ P)
IsAnswered c P Len text Q = (text ≡ line_of (decimal (count P))) × (Q ≡ P)
IsAnswered c P Walk text Q = (text ≡ walk_text (decoded_all c (walk P))) × (Q ≡ P)
IsAnswered c P Hex text Q = (text ≡ line_of (hex_text (image c.format P))) × (Q ≡ P)
IsAnswered c P Dump text Q = (Some text ≡ dump_of c.format (image c.format P)) × (Q ≡ P)

abbrev pub IsGoodPercent : ℕ → Type 0
IsGoodPercent percent = (1 ≤ percent) × (percent ≤ 100)

pub data IsRenewed (F : Format) (items percent : ℕ) : List ℕ → Option Plain → Option Plain → Type 0 where
  bad_percent : (old : Option Plain) → ¬ (IsGoodPercent percent) → IsRenewed F items percent (codes "bad percent") old old
  capacity : (old : Option Plain) → IsGoodPercent percent → IsTooLarge F items (factor_of percent) → IsRenewed F items percent (codes "capacity") old old
  memory : (old : Option Plain) → IsGoodPercent percent → ¬ (IsTooLarge F items (factor_of percent)) → IsRenewed F items percent (codes "memory") old old
  made : (old : Option Plain) (slots : ℕ) (P : Plain) → IsGoodPercent percent
      → slots_for items (factor_of percent) ≡ Some slots → fresh items percent ≡ Some P
      → IsRenewed F items percent (new_text slots (max_items slots (factor_of percent))) old (Some P)

abbrev pub MayChange : Request → Type 0
MayChange (Put key value) = ⊤
MayChange (Get key) = ⊥
MayChange Len = ⊥
MayChange Walk = ⊥
MayChange Hex = ⊥
MayChange Dump = ⊥

abbrev pub refused_text : Option Error → List ℕ
refused_text None = codes "valid"
refused_text (Some error) = error_text error

abbrev pub check_text : Format → List ℕ → List ℕ
check_text F B = refused_text (check_refusal F B)

abbrev pub IsChecked : Format → List ℕ → List ℕ → Type 0
IsChecked F B text = (text ≡ check_text F B) ⊎ (text ≡ codes "memory")
