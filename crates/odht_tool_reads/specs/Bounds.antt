-- The bound of searches that `get` and `dump --slots` test before they search, for the bytes B of a file.
--     bound_refusal B o    where header and length fit: SearchTooLong of the least home from which a search may read more
--                          groups than the bound o. None where there is no bound
--     IsBounded e old new r P  where there is the error e, it is the result r, and nothing was written, which took the writer
--                          from the bytes old to new; else P is true
--     bounded e out        the outcome out, or this error
use Rattle.std.specs.Prelude.{◌≡◌, ℕ, List, is_none, Option, Some, None, Result, Err, if◌then◌else◌}
use Rattle.std.specs.Io.KnownBytes.{Keeps}
use Rattle.odht_header.specs.Refusals.{longer_refusal}
use Rattle.odht_header.specs.declared.error.Error.{Error}
use Rattle.odht_tool_core.specs.Endings.{Outcome}
use Rattle.odht_tool_core.specs.Endings.Outcome.{fails}
use Rattle.odht_tool_core.specs.InfoNumbers.{info_refusal, file_parts}
use Rattle.odht_tool_core.specs.declared.failure.Failure.{Failure}
use Rattle.odht_tool_core.specs.declared.failure.Failure.TheVariants.{Refused}
use Rattle.odht_tool_core.specs.declared.status.Status.{Status}

abbrev pub bound_refusal : List ℕ → Option ℕ → Option Error
bound_refusal B o = if is_none (info_refusal B) then longer_refusal (file_parts B).control o else None

abbrev pub IsBounded : Option Error → Option (List ℕ) → Option (List ℕ) → Result Status Failure → Type 0 → Type 0
IsBounded None old new r P = P
IsBounded (Some error) old new r P = (r ≡ Err (Refused error)) × Keeps old new

abbrev pub bounded : Option Error → Outcome → Outcome
bounded None out = out
bounded (Some error) out = fails (Refused error)
