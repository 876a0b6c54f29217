-- Worked examples: what `get` writes and returns.
use Rattle.std.proofs.Common.{◌≡◌, ℕ, false, refl, List, [], ◌∷◌, Option, Some, None, Err}
use Rattle.std.specs.Prelude.{codes}
use Rattle.odht_header.specs.Refusals.{view_refusal}
use Rattle.odht_header.proofs.examples.Apart.{unequal_lists}
use Rattle.odht_header.proofs.examples.Opened.{opened}
use Rattle.odht_tool_reads.specs.GetLines.{all_lines, lines_of_any, lines_of_other}
use Rattle.odht_tool_reads.specs.Gets.{answered_status, words_of_types}
use Rattle.odht_tool_reads.specs.PositionLines.{lines_read_of}
use Rattle.odht_tool_core.specs.AnyShapes.{other_format, types_of}
use Rattle.odht_tool_core.specs.JsonAnswers.{printed_as}
use Rattle.odht_tool_core.specs.ReadyShapes.{shape_format}
use Rattle.odht_tool_core.specs.declared.json.answers.Printed.{Printed}
use Rattle.odht_tool_core.specs.declared.any.AnyShape.TheVariants.{Ready, Other}
use Rattle.odht_tool_core.specs.declared.forms.Form.TheVariants.{Own}
use Rattle.odht_tool_core.specs.declared.failure.Failure.TheVariants.{Memory, Read, Refused}
use Rattle.odht_tool_core.specs.declared.shapes.Hash.TheVariants.{Unhash}
use Rattle.odht_tool_core.specs.declared.generated.shapes.Shape.TheVariants.{DirectU32ToU32}
use Rattle.odht_tool_core.specs.declared.status.Status.TheVariants.{Done, NotDone}
use Rattle.odht_tool_core.proofs.examples.FoundShapes.{other, other_bytes}
use Rattle.odht_tool_core.proofs.examples.Shapes.{one_bytes}

-- pairs as text
abbrev plain : Printed
plain = printed_as false false

-- the status is `NotDone` where a key is absent
pub statuses : (answered_status {V = ℕ} (Some 7 ∷ Some 0 ∷ []) ≡ Done)
    × (answered_status {V = ℕ} (Some 7 ∷ None ∷ []) ≡ NotDone)
    × (answered_status {V = ℕ} [] ≡ Done)
statuses = (refl, refl, refl)

-- the bytes open
pub no_refusal : view_refusal (shape_format DirectU32ToU32) one_bytes ≡ None
unfolding opened
no_refusal = refl

-- so without memory nothing is written, and no error of opening is returned
pub no_memory : words_of_types (Own, Own) plain one_bytes (codes "5" ∷ []) (Some (codes "a")) (Some (codes "a")) (Err Memory) (types_of (Ready DirectU32ToU32))
no_memory = (no_refusal, refl)

pub written_without_memory : words_of_types (Own, Own) plain one_bytes (codes "5" ∷ []) (Some (codes "a")) (Some (codes "ab")) (Err Memory) (types_of (Ready DirectU32ToU32)) → ⊥
written_without_memory h = unequal_lists (codes "ab") (codes "a") refl h.1

-- ---- of other sizes
-- the bytes open as those of six and two
pub other_opens : view_refusal (other_format (other 6 2 Unhash)) other_bytes ≡ None
unfolding opened
other_opens = refl

-- so without memory nothing is written, for words as for lines
pub other_without_memory : words_of_types (Own, Own) plain other_bytes (codes "5" ∷ []) (Some (codes "a")) (Some (codes "a")) (Err Memory) (other 6 2 Unhash)
    × lines_of_other (Own, Own) plain (all_lines false) other_bytes None (Some (codes "a")) (Some (codes "a")) (Err Memory) (other 6 2 Unhash)
    × lines_of_any (Own, Own) plain (all_lines false) other_bytes None (Some (codes "a")) (Some (codes "a")) (Err Memory) (Other (other 6 2 Unhash))
other_without_memory = ((other_opens, refl), (other_opens, tt), (other_opens, tt))

pub other_written_without_memory : words_of_types (Own, Own) plain other_bytes (codes "5" ∷ []) (Some (codes "a")) (Some (codes "ab")) (Err Memory) (other 6 2 Unhash) → ⊥
other_written_without_memory h = unequal_lists (codes "ab") (codes "a") refl h.1

-- ---- by position
-- a read may fail, with nothing written, but once the bytes are opened none says that they are no table
pub read_failed : (error : _) → lines_read_of (Own, Own) plain other_bytes None None (Some (codes "a")) (Some (codes "a")) (Err (Read error)) (other 6 2 Unhash)
read_failed error = (other_opens, tt)

pub never_refused : (error : _) (input now old new : Option (List ℕ)) → lines_read_of (Own, Own) plain other_bytes input now old new (Err (Refused error)) (other 6 2 Unhash) → ⊥
never_refused error input now old new h = h.1
