-- How a command ends.
--     Outcome                  a text is written, and the command ends with this status; or there is a failure
--     IsOutputFailure f        the failure f is that of the writer
--     IsDone o old new r       a call that took a writer from the bytes old to new and returned r did o; only the writer
--                              may have kept it from writing a text
--     IsWritten w r            a call whose writes returned w, and which did nothing else, returned r
--     failure_of e             the failure for the error e of a table
--     opened_outcome o t       the text t is written, where opening had no error o
use Rattle.std.specs.Prelude.{◌≡◌, ⊤, ℕ, List, Option, Some, None, Result, Ok, Err, MatchResult, IsErrAnd}
use Rattle.std.specs.Io.KnownBytes.{Appends, Keeps}
use Rattle.odht_header.specs.declared.error.Error.{Error}
use Rattle.odht_header.specs.declared.error.Error.TheVariants.{Memory as no_memory}
use Rattle.odht_tool_core.specs.declared.failure.Failure.{Failure}
use Rattle.odht_tool_core.specs.declared.failure.Failure.TheVariants.{Refused, Output, Memory}
use Rattle.odht_tool_core.specs.declared.status.Status.{Status}
use Rattle.odht_tool_core.specs.declared.status.Status.TheVariants.{Done}

pub data Outcome : Type 0 where
  writes : List ℕ → Status → Outcome
  fails : Failure → Outcome

abbrev pub IsOutputFailure : Failure → Type 0
IsOutputFailure (Output error) = ⊤
IsOutputFailure _ = ⊥

abbrev pub IsDone : Outcome → Option (List ℕ) → Option (List ℕ) → Result Status Failure → Type 0
IsDone (writes text status) old new r = MatchResult r (λ s. (s ≡ status) × Appends old new text) IsOutputFailure
IsDone (fails failure) old new r = (r ≡ Err failure) × Keeps old new

abbrev pub IsWritten : {E : Type 0} → Result (Unit {0}) E → Result Status Failure → Type 0
IsWritten w r = MatchResult w (λ u. r ≡ Ok Done) (λ e. IsErrAnd r IsOutputFailure)

abbrev pub failure_of : Error → Failure
failure_of no_memory = Memory
failure_of error = Refused error

abbrev pub opened_outcome : Option Error → List ℕ → Outcome
opened_outcome None text = writes text Done
opened_outcome (Some error) text = fails (Refused error)
