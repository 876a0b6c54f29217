-- How `count` ends, by what the check finds.
use Rattle.std.proofs.Common.{◌≡◌, ℕ, Option, Some, None, Ok, Err, refl}
use Rattle.odht_header.specs.Refusals.{checked}
use Rattle.odht_header.specs.declared.error.Error.{Error}
use Rattle.odht_tool_reads.specs.Listings.{count_by}
use Rattle.odht_tool_core.specs.declared.failure.Failure.TheVariants.{Refused}

-- without an error there is the number
pub number_counted : (o : Option Error) (n : ℕ) → Ok tt ≡ checked o → Ok n ≡ count_by o n
number_counted None n h = refl
number_counted (Some x) n h = cc

-- and with one that error
pub error_counted : (o : Option Error) (n : ℕ) (e : Error) → Err e ≡ checked o → Err (Refused e) ≡ count_by o n
error_counted None n e h = cc
error_counted (Some x) n e h = cc
