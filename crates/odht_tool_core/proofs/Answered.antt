-- Lemmas on lines that are written one after the other.
use Rattle.std.proofs.Common.{◌≡◌, ◌∙◌, ℕ, zero, suc, ◌<◌, List, [], ◌∷◌, ◌++◌, Option, Some, None, length, take, get_or, sym, ap, arith}
use Rattle.std.specs.Io.KnownBytes.{Appends}
use Rattle.std.proofs.lemmas.List.{append_assoc, append-nil}
use Rattle.odht_tool_core.specs.Texts.{answers_by}

-- what is appended after something else is appended with it
pub appends_more : (a b c : Option (List ℕ)) (xs ys : List ℕ) → Appends a b xs → Appends b c ys → Appends a c (xs ++ ys)
appends_more None b c xs ys p q = tt
appends_more (Some x) None c xs ys p q = absurd p
appends_more (Some x) (Some y) None xs ys p q = absurd q
appends_more (Some x) (Some y) (Some z) xs ys p q = q ∙ ap (λ k. k ++ ys) p ∙ append_assoc x xs ys

-- the lines of one answer more
pub answers_take : {K V : Type 0} (l : K × Option V → List ℕ) (ks : List K) (vs : List (Option V)) (at : ℕ) (k : K) (v : Option V)
    → at < length ks → at < length vs → k ≡ get_or ks at k → v ≡ get_or vs at v
    → answers_by l (take (suc at) ks) (take (suc at) vs) ≡ answers_by l (take at ks) (take at vs) ++ l (k, v)
answers_take l [] vs at k v m n p q = absurd (omega (arith, m))
answers_take l (x ∷ ks) [] at k v m n p q = absurd (omega (arith, n))
answers_take l (x ∷ ks) (y ∷ vs) zero k v m n p q =
    append-nil (l (x, y)) ∙ ap (λ a. l (a, y)) (sym p) ∙ ap (λ b. l (k, b)) (sym q)
answers_take l (x ∷ ks) (y ∷ vs) (suc at) k v m n p q =
    ap (λ t. l (x, y) ++ t) (answers_take l ks vs at k v (omega (arith, m)) (omega (arith, n)) p q)
    ∙ sym (append_assoc (l (x, y)) (answers_by l (take at ks) (take at vs)) (l (k, v)))
