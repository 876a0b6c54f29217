-- Arrays that are written from the front, element by element.
use Rattle.std.proofs.Common.{◌≡◌, ◌<◌, ◌∙◌, ◌+◌, ◌++◌, sym, ap, refl, arith, ℕ, suc, List, [], ◌∷◌, drop, set, length, map}
use Rattle.std.proofs.lemmas.List.{length-map, map-append}

-- one element more
pub set-next : {X : Type 0} (A old : List X) (v : X) → length A < length old → set (A ++ drop (length A) old) (length A) v ≡ (A ++ v ∷ []) ++ drop (suc (length A)) old
set-next [] [] v h = absurd (omega (arith, h))
set-next [] (x ∷ old) v h = refl
set-next (a ∷ A) [] v h = absurd (omega (arith, h))
set-next (a ∷ A) (x ∷ old) v h = ap (λ xs. a ∷ xs) (set-next A old v (omega (arith, h)))

-- one more of the elements that f makes of a list
pub set-next_of : {X Y : Type 0} (f : Y → X) (ys : List Y) (old now : List X) (y : Y) (w : ℕ) → w ≡ length ys → w < length old → now ≡ map f ys ++ drop w old
    → set now w (f y) ≡ map f (ys ++ y ∷ []) ++ drop (w + 1) old
set-next_of f ys old now y w n l e =
    let long : w ≡ length (map f ys) = n ∙ sym (length-map ys f) in
    let next : suc (length (map f ys)) ≡ w + 1 = omega (arith, long) in
    ap (λ xs. set xs w (f y)) e
    ∙ ap (λ m. set (map f ys ++ drop m old) m (f y)) long
    ∙ set-next (map f ys) old (f y) (omega (arith, l, long))
    ∙ ap (λ m. (map f ys ++ f y ∷ []) ++ drop m old) next
    ∙ ap (λ xs. xs ++ drop (w + 1) old) (sym (map-append f ys (y ∷ [])))
