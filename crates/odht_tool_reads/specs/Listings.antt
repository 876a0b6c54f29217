-- What `keys`, `dump --values` and `count` do with the bytes B of a file. The first two list the side x of each pair: its
-- key, or its value.
--     side_lines f x ps    a line of this side of each of the pairs ps, where f is the text of its stored bytes
--     side_objects w x ps  a line of the object of this side of each of them, by its type and form w
--     listed x F t B is_json  for bytes of the format F in the texts t: this side of the pairs that the slots hold, in slot
--                          order, with `--json` or without
--     list_outcome x B h ks is_json  the same where the hash function h, or none, is named, and ks is said of keys and values
--     counted F o B        how many items the header states, where the check of the bytes as those of the format F, by the
--                          bound o, finds no error; else the first error
--     count_checked B h o  the same of the format that is found, where the hash function h, or none, is named
--     count_opened B       how many items the header states, where header and length have no error; else their error
--     count_outcome label B c  of `count`, where the label stands before the number: the first, where the file is checked by
--                          the hash function and the bound in c; else the second
use Rattle.std.specs.Prelude.{ℕ, Bool, List, [], ◌∷◌, ◌++◌, decimal, flat_map, Option, Some, None, Result, Ok, Err, if◌then◌else◌}
use Rattle.odht_base.specs.Decoded.{decoded_pairs, header_count}
use Rattle.odht_base.specs.Format.{Format}
use Rattle.odht_base.specs.Table.{Pair}
use Rattle.odht_header.specs.Refusals.{view_refusal, check_refusal_by}
use Rattle.odht_header.specs.declared.error.Error.{Error}
use Rattle.odht_tool_reads.specs.Outcomes.{by_shape}
use Rattle.odht_tool_core.specs.Endings.{Outcome, opened_outcome}
use Rattle.odht_tool_core.specs.Endings.Outcome.{writes, fails}
use Rattle.odht_tool_core.specs.AnyShapes.{any_format, found_any, read_any}
use Rattle.odht_tool_core.specs.InfoNumbers.{info_refusal}
use Rattle.odht_tool_core.specs.Json.{text_object}
use Rattle.odht_tool_core.specs.StoredTexts.{side_bytes, side_name, side_typed, stored_text, texts_of}
use Rattle.odht_tool_core.specs.declared.any.AnyShape.{AnyShape}
use Rattle.odht_tool_core.specs.declared.failure.Failure.{Failure}
use Rattle.odht_tool_core.specs.declared.failure.Failure.TheVariants.{Refused}
use Rattle.odht_tool_core.specs.declared.forms.GivenForms.{GivenForms}
use Rattle.odht_tool_core.specs.declared.forms.Kinds.{Kinds}
use Rattle.odht_tool_core.specs.declared.shapes.Hash.{Hash}
use Rattle.odht_tool_core.specs.declared.status.Status.TheVariants.{Done}
use Rattle.odht_tool_core.specs.declared.typed.Side.{Side}
use Rattle.odht_tool_core.specs.declared.typed.Texts.{Texts}
use Rattle.odht_tool_core.specs.declared.typed.stored.Typed.{Typed}

-- ---- one side of each pair
abbrev pub side_line : (List ℕ → List ℕ) → Side → Pair → List ℕ
side_line f x p = f (side_bytes x p) ++ (10 ∷ [])

abbrev pub side_lines : (List ℕ → List ℕ) → Side → List Pair → List ℕ
side_lines f x ps = flat_map (side_line f x) ps

abbrev pub side_object : Typed → Side → Pair → List ℕ
side_object w x p = text_object (side_name x) (stored_text w.form w.part (side_bytes x p))

abbrev pub side_objects : Typed → Side → List Pair → List ℕ
side_objects w x ps = flat_map (side_object w x) ps

abbrev pub sides_as : Bool → Typed → Side → List Pair → List ℕ
sides_as is_json w x ps = if is_json then side_objects w x ps else side_lines (stored_text w.form w.part) x ps

abbrev pub listed : Side → Format → Texts → List ℕ → Bool → Outcome
listed x F t B is_json = opened_outcome (view_refusal F B) (sides_as is_json (side_typed t x) x (decoded_pairs F B))

abbrev pub list_of_forms : Side → List ℕ → Bool → AnyShape × GivenForms → Outcome
list_of_forms x B is_json s = listed x (any_format s.0) (texts_of s.0 s.1) B is_json

abbrev pub list_outcome : Side → List ℕ → Option Hash → Kinds → Bool → Outcome
list_outcome x B h ks is_json = by_shape (read_any B h ks) (list_of_forms x B is_json)

-- ---- count
abbrev pub count_by : Option Error → ℕ → Result ℕ Failure
count_by None n = Ok n
count_by (Some error) n = Err (Refused error)

abbrev pub counted : Format → Option ℕ → List ℕ → Result ℕ Failure
counted F o B = count_by (check_refusal_by F o B) (header_count B)

abbrev pub count_line : List ℕ → ℕ → List ℕ
count_line label n = label ++ (decimal n ++ (10 ∷ []))

abbrev pub count_written : List ℕ → Result ℕ Failure → Outcome
count_written label (Ok n) = writes (count_line label n) Done
count_written label (Err failure) = fails failure

abbrev pub counted_as : Option ℕ → List ℕ → Result AnyShape Failure → Result ℕ Failure
counted_as o B (Ok s) = counted (any_format s) o B
counted_as o B (Err failure) = Err failure

abbrev pub count_checked : List ℕ → Option Hash → Option ℕ → Result ℕ Failure
count_checked B h o = counted_as o B (found_any B h)

abbrev pub count_opened : List ℕ → Result ℕ Failure
count_opened B = count_by (info_refusal B) (header_count B)

abbrev pub count_of : List ℕ → Option (Option Hash × Option ℕ) → Result ℕ Failure
count_of B (Some c) = count_checked B c.0 c.1
count_of B None = count_opened B

abbrev pub count_outcome : List ℕ → List ℕ → Option (Option Hash × Option ℕ) → Outcome
count_outcome label B c = count_written label (count_of B c)
