-- What calls of `next` give where an iterator is modelled as the list of what is left.
use Rattle.std.proofs.Common.{◌≡◌, ◌∙◌, List, [], ◌∷◌, ◌++◌, Result, Ok, Err, IfOk, sym, ap, append-nil}
use Rattle.std.specs.Iterator.{YieldsFirst, Yields, DrainsIf}

-- the calls so far gave the front of the list
yielded : {A : Type 0} (s xs t : List A) → Yields (YieldsFirst (λ left. left)) s xs t → s ≡ xs ++ t
yielded s [] t h = h
yielded s (x ∷ xs) t h = h.1 ∙ ap (λ left. x ∷ left) (yielded h.0 xs t h.2)

-- and all calls all of it
pub drained : {A W : Type 0} (s xs : List A) → DrainsIf (YieldsFirst (λ left. left)) W s xs → W → xs ≡ s
drained s xs h w = sym (yielded s xs h.0 h.1 ∙ ap (λ left. xs ++ left) (h.2 w).1.0 ∙ append-nil xs)

-- what holds of an Ok holds of what follows from it
pub IfOk-more : {T E : Type 0} (P Q : T → Type 0) (r : Result T E) → ((x : T) → P x → Q x) → IfOk r P → IfOk r Q
IfOk-more P Q (Ok x) f h = f x h
IfOk-more P Q (Err e) f h = h
