-- Keys that a table has values for, and keys that are absent.
use Rattle.std.proofs.Common.{◌≡◌, ◌<◌, ◌∙◌, ◌&&◌, ◌++◌, ℕ, zero, suc, Bool, true, false, true≢false, cond, IsTrue, List, [], ◌∷◌, Option, Some, None, length, take, map, get_or, sym, ap, refl, arith, append_assoc, append-nil}
use Rattle.std.specs.Prelude.{◌↔◌, is_some, IsSome}
use Rattle.odht_base.specs.Table.{Table}
use Rattle.odht_tool_writes.specs.Deletes.{absent_lines, has_value, have_values}
use Rattle.odht_tool_core.specs.Misreads.{absent_line}

-- whether there is a value
pub is_there : (o : Option (List ℕ)) (b : Bool) → (IsTrue b ↔ IsSome o) → is_some o ≡ b
is_there None true is = is.0 refl
is_there None false is = refl
is_there (Some v) true is = refl
is_there (Some v) false is = sym (is.1 refl)

-- one key more has a value
pub all_more : (P : Table) (ks : List (List ℕ)) (i : ℕ) (k : List ℕ) → i < length ks → k ≡ get_or ks i k → have_values P (take i ks) ≡ true → has_value P k ≡ true
    → have_values P (take (suc i) ks) ≡ true
all_more P [] i k l e all one = absurd (omega (arith, l))
all_more P (x ∷ ks) zero k l e all one = ap (λ y. has_value P y && true) (sym e) ∙ ap (λ b. b && true) one
all_more P (x ∷ ks) (suc i) k l e all one = go (has_value P x) all (λ h. all_more P ks i k (omega (arith, l)) e h one)
  where
    go : (b : Bool) → (b && have_values P (take i ks)) ≡ true → (have_values P (take i ks) ≡ true → have_values P (take (suc i) ks) ≡ true) → (b && have_values P (take (suc i) ks)) ≡ true
    go true h more = more h
    go false h more = absurd (true≢false (sym h))

-- one has none
pub one_absent : (P : Table) (ks : List (List ℕ)) (i : ℕ) (k : List ℕ) → i < length ks → k ≡ get_or ks i k → has_value P k ≡ false → have_values P ks ≡ false
one_absent P [] i k l e none = absurd (omega (arith, l))
one_absent P (x ∷ ks) zero k l e none = ap (λ y. has_value P y && have_values P ks) (sym e) ∙ ap (λ b. b && have_values P ks) none
one_absent P (x ∷ ks) (suc i) k l e none = go (has_value P x) (one_absent P ks i k (omega (arith, l)) e none)
  where
    go : (b : Bool) → have_values P ks ≡ false → (b && have_values P ks) ≡ false
    go true later = later
    go false later = refl

-- the line of one word more
pub lines_take : {X : Type 0} (f : X → List ℕ) (file : List ℕ) (P : Table) (ws : List X) (ks : List (List ℕ)) (at : ℕ) (w : X) (k : List ℕ) → at < length ws → at < length ks
    → w ≡ get_or ws at w → k ≡ get_or ks at k
    → absent_lines file P (map f (take (suc at) ws)) (take (suc at) ks) ≡ absent_lines file P (map f (take at ws)) (take at ks) ++ (cond (has_value P k) [] (absent_line file (f w)))
lines_take f file P [] ks at w k l m p q = absurd (omega (arith, l))
lines_take f file P (x ∷ ws) [] at w k l m p q = absurd (omega (arith, m))
lines_take f file P (x ∷ ws) (y ∷ ks) zero w k l m p q =
    append-nil (cond (has_value P y) [] (absent_line file (f x)))
    ∙ ap (λ z. cond (has_value P z) [] (absent_line file (f x))) (sym q)
    ∙ ap (λ z. cond (has_value P k) [] (absent_line file (f z))) (sym p)
lines_take f file P (x ∷ ws) (y ∷ ks) (suc at) w k l m p q =
    let here : List ℕ = cond (has_value P y) [] (absent_line file (f x)) in
    ap (λ t. here ++ t) (lines_take f file P ws ks at w k (omega (arith, l)) (omega (arith, m)) p q)
    ∙ sym (append_assoc here (absent_lines file P (map f (take at ws)) (take at ks)) (cond (has_value P k) [] (absent_line file (f w))))

-- no line more, where the key has a value
pub lines_same : {X : Type 0} (f : X → List ℕ) (file : List ℕ) (P : Table) (ws : List X) (ks : List (List ℕ)) (at : ℕ) (k : List ℕ) → at < length ws → at < length ks
    → k ≡ get_or ks at k → has_value P k ≡ true
    → absent_lines file P (map f (take (suc at) ws)) (take (suc at) ks) ≡ absent_lines file P (map f (take at ws)) (take at ks)
lines_same f file P [] ks at k l m q there = absurd (omega (arith, l))
lines_same f file P (x ∷ ws) [] at k l m q there = absurd (omega (arith, m))
lines_same f file P (x ∷ ws) (y ∷ ks) zero k l m q there =
    ap (λ b. cond b [] (absent_line file (f x)) ++ []) (ap (has_value P) (sym q) ∙ there)
lines_same f file P (x ∷ ws) (y ∷ ks) (suc at) k l m q there =
    ap (λ t. (cond (has_value P y) [] (absent_line file (f x))) ++ t) (lines_same f file P ws ks at k (omega (arith, l)) (omega (arith, m)) q there)
