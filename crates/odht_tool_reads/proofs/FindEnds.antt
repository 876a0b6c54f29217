-- How `find` ends.
use Rattle.std.proofs.Common.{◌≡◌, ◌∙◌, ℕ, List, Option, None, Result, Ok, Err, IfErr, sym}
use Rattle.std.proofs.KnownBytes.{Keeps-refl}
use Rattle.std.proofs.lemmas.Option.{none-some}
use Rattle.odht_tool_reads.specs.FindLines.{AreFound, AreTablesAsked}
use Rattle.odht_tool_core.specs.Endings.{IsOutputFailure}
use Rattle.odht_tool_core.specs.Finds.{IsFindFailure, IsRowFailure}
use Rattle.odht_tool_core.specs.InfoNumbers.{info_refusal}
use Rattle.odht_tool_core.specs.declared.failure.Failure.{Failure}
use Rattle.odht_tool_core.specs.declared.failure.Failure.TheVariants.{Output, Refused}

-- where the search fails nothing is written
pub not_found : (B : List ℕ) (t : List ℕ → List ℕ) (old : Option (List ℕ)) (f : Failure) → IsFindFailure B f → AreFound B t old old (Err f)
not_found B t old (Output error) h = absurd h
not_found B t old f h = (h, Keeps-refl old)

-- where the writer fails there were tables to write
pub not_written : (B : List ℕ) (t : List ℕ → List ℕ) (old new : Option (List ℕ)) (f : Failure) → IsOutputFailure f → AreTablesAsked B → AreFound B t old new (Err f)
not_written B t old new (Output error) h a = a
not_written B t old new f h a = absurd h

-- the line of a table that opens fails by the writer alone
pub only_writer : (T : List ℕ) (r : Result (Unit {0}) Failure) → info_refusal T ≡ None → IfErr r (IsRowFailure T) → IfErr r IsOutputFailure
only_writer T (Ok x) opens h = h
only_writer T (Err (Output error)) opens h = h
only_writer T (Err (Refused error)) opens h = absurd (none-some error (sym opens ∙ h))
only_writer T (Err failure) opens h = absurd h
