-- What is told of a former value that is written into bytes of the caller.
use Rattle.std.proofs.Common.{◌≡◌, ℕ, Bool, List, Option, Result, Ok, Err, ap}
use Rattle.std.specs.Prelude.{is_some, OnErr}
use Rattle.std.specs.Result.{result_map_both}
use Rattle.odht_raw.specs.Words.{Error}
use Rattle.odht_raw.specs.FormerWrites.{IsFormerTo}
use Rattle.odht.specs.declared.dynamic.DynError.TheVariants.{Rejected}

-- what holds where the answer is an error holds where the error is told
pub former_on_error : (X : Type 0) (a : Result (Option (List ℕ)) Error) (f : List ℕ) (r : Result Bool Error) (f' : List ℕ) → IsFormerTo a f r f' → OnErr a X → OnErr r X
former_on_error X a f (Ok b) f' h x = tt
former_on_error X (Ok o) f (Err e) f' h x = absurd (let both : ◌≡◌ {A = Result Bool Error} (Err e) (Ok (is_some o)) = h.answered in cc)
former_on_error X (Err e) f (Err e') f' h x = x

-- an error leaves the bytes of the caller
pub former_is_kept : (a : Result (Option (List ℕ)) Error) (f : List ℕ) (r : Result Bool Error) (f' : List ℕ) → IsFormerTo a f r f' → OnErr r (f' ≡ f)
former_is_kept a f (Ok b) f' h = tt
former_is_kept (Ok o) f (Err e) f' h = absurd (let both : ◌≡◌ {A = Result Bool Error} (Err e) (Ok (is_some o)) = h.answered in cc)
former_is_kept (Err e) f (Err e') f' h = h.former

-- the same is told of an answer whose error is a `Rejected`
pub former_of_rejected : (a : Result (Option (List ℕ)) Error) (f : List ℕ) (r : Result Bool Error) (f' : List ℕ) → IsFormerTo a f r f'
    → IsFormerTo (result_map_both (λ o. o) Rejected a) f (result_map_both (λ b. b) Rejected r) f'
former_of_rejected (Ok o) f r f' h = record { answered = ap (result_map_both (λ b. b) Rejected) h.answered; former = h.former }
former_of_rejected (Err e) f r f' h = record { answered = ap (result_map_both (λ b. b) Rejected) h.answered; former = h.former }
