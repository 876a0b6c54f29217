-- What a command does that tests the bound of searches first.
use Rattle.std.proofs.Common.{◌≡◌, ℕ, List, Option, None, Some, Err, refl, sym, subst}
use Rattle.std.specs.Prelude.{Result}
use Rattle.std.proofs.KnownBytes.{Keeps-refl}
use Rattle.odht_header.specs.declared.error.Error.{Error}
use Rattle.odht_tool_core.specs.Endings.{IsDone, Outcome}
use Rattle.odht_tool_core.specs.declared.failure.Failure.{Failure}
use Rattle.odht_tool_core.specs.declared.failure.Failure.TheVariants.{Refused}
use Rattle.odht_tool_core.specs.declared.status.Status.{Status}
use Rattle.odht_tool_reads.specs.Bounds.{IsBounded, bounded}

-- where each search keeps the bound, what follows
pub within_bound : (e : Option Error) → e ≡ None → (old new : Option (List ℕ)) (r : Result Status Failure) (P : Type 0) → P → IsBounded e old new r P
within_bound e none old new r P p = subst (λ x. IsBounded x old new r P) (sym none) p

pub done_within : (e : Option Error) → e ≡ None → (out : Outcome) (old new : Option (List ℕ)) (r : Result Status Failure) → IsDone out old new r → IsDone (bounded e out) old new r
done_within e none out old new r p = subst (λ x. IsDone (bounded x out) old new r) (sym none) p

-- else this error
pub past_bound : (e : Option Error) (error : Error) → e ≡ Some error → (old : Option (List ℕ)) (P : Type 0) → IsBounded e old old (Err (Refused error)) P
past_bound e error some old P = subst (λ x. IsBounded x old old (Err (Refused error)) P) (sym some) (refl, Keeps-refl old)

pub failed_past : (e : Option Error) (error : Error) → e ≡ Some error → (out : Outcome) (old : Option (List ℕ)) → IsDone (bounded e out) old old (Err (Refused error))
failed_past e error some out old = subst (λ x. IsDone (bounded x out) old old (Err (Refused error))) (sym some) (refl, Keeps-refl old)
