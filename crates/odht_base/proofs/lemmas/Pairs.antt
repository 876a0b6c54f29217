-- The pairs of cells, and the map that they form.
use Rattle.std.proofs.Common.{◌≡◌, ◌<◌, ◌∙◌, ℕ, zero, suc, Bool, true, false, true≢false, cond, ◌||◌, sym, ap, refl, List, [], ◌∷◌, Some, None, length, set, find, arith, bytes_eq, IsPermutation}
use Rattle.std.specs.Prelude.{is_none, option_map, if◌then◌else◌}
use Rattle.std.proofs.lemmas.Option.{none-some}
use Rattle.std.proofs.lemmas.List.Sorted.{IsPermutation-refl, IsPermutation-cons, IsPermutation-trans, IsPermutation-middle}
use Rattle.odht_base.specs.Map.{value_in}
use Rattle.odht_base.specs.Table.{Pair, Cells, cell_at, has_key}
use Rattle.odht_base.proofs.lemmas.Counts.{pairs}
use Rattle.odht_base.proofs.lemmas.Keys.{same_bytes, key_itself}
use Rattle.odht_base.proofs.lemmas.Options.{some_same}

-- the first pair with a key gives its value
pub value_in-cons : (p : Pair) (ps : List Pair) (k : List ℕ) → value_in (p ∷ ps) k ≡ (if bytes_eq k p.key then Some p.value else value_in ps k)
value_in-cons p ps k = go (bytes_eq k p.key)
  where
    go : (b : Bool) → option_map (λ (q : Pair). q.value) (cond b (Some p) (find (λ (q : Pair). bytes_eq k q.key) ps)) ≡ cond b (Some p.value) (value_in ps k)
    go true = refl
    go false = refl

-- ---- what one written cell does to the map, the pairs and their number
swap_cond : {X : Type 0} (a b : Bool) (x y z : X) → (a ≡ true → b ≡ true → ⊥) → cond a x (cond b y z) ≡ cond b y (cond a x z)
swap_cond true true x y z h = absurd (h refl refl)
swap_cond true false x y z h = refl
swap_cond false true x y z h = refl
swap_cond false false x y z h = refl

-- a second test of one condition changes nothing
same_cond : {X : Type 0} (b : Bool) (x y z : X) → cond b x z ≡ cond b x (cond b y z)
same_cond true x y z = refl
same_cond false x y z = refl

-- a written pair changes the map at its key alone: in the first cell with the key, or in a free one with none before it
pub value_in-set : (cs : Cells) (i : ℕ) (p : Pair) (k : List ℕ) → i < length cs → ((j : ℕ) → j < i → has_key p.key (cell_at cs j) ≡ false) → (is_none (cell_at cs i) || has_key p.key (cell_at cs i)) ≡ true
    → value_in (pairs (set cs i (Some p))) k ≡ (if bytes_eq k p.key then Some p.value else value_in (pairs cs) k)
value_in-set [] i p k l before stops = absurd (omega arith)
value_in-set (None ∷ cs) zero p k l before stops = value_in-cons p (pairs cs) k
value_in-set (Some d ∷ cs) zero p k l before stops =
    let same = same_bytes p.key d.key stops in
    value_in-cons p (pairs cs) k
    ∙ same_cond (bytes_eq k p.key) (Some p.value) (Some d.value) (value_in (pairs cs) k)
    ∙ ap (λ x. cond (bytes_eq k p.key) (Some p.value) (cond (bytes_eq k x) (Some d.value) (value_in (pairs cs) k))) same
    ∙ ap (λ x. cond (bytes_eq k p.key) (Some p.value) x) (sym (value_in-cons d (pairs cs) k))
value_in-set (None ∷ cs) (suc i) p k l before stops = value_in-set cs i p k (omega arith) (λ j lt. before (suc j) (omega arith)) stops
value_in-set (Some d ∷ cs) (suc i) p k l before stops =
    value_in-cons d (pairs (set cs i (Some p))) k
    ∙ ap (λ x. cond (bytes_eq k d.key) (Some d.value) x) (value_in-set cs i p k (omega arith) (λ j lt. before (suc j) (omega arith)) stops)
    ∙ swap_cond (bytes_eq k d.key) (bytes_eq k p.key) (Some d.value) (Some p.value) (value_in (pairs cs) k)
    (λ a b. true≢false (sym (key_itself k) ∙ ap (λ x. bytes_eq x k) (same_bytes k p.key b) ∙ ap (bytes_eq p.key) (same_bytes k d.key a) ∙ before 0 (omega arith)))
    ∙ ap (λ x. cond (bytes_eq k p.key) (Some p.value) x) (sym (value_in-cons d (pairs cs) k))

-- a pair written to a free cell is added to the pairs
pub pairs-set : (cs : Cells) (i : ℕ) (p : Pair) → i < length cs → is_none (cell_at cs i) ≡ true → IsPermutation (pairs (set cs i (Some p))) (p ∷ pairs cs)
pairs-set [] i p l free = absurd (omega arith)
pairs-set (None ∷ cs) zero p l free = IsPermutation-refl (p ∷ pairs cs)
pairs-set (Some d ∷ cs) zero p l free = absurd (true≢false (sym free))
pairs-set (None ∷ cs) (suc i) p l free = pairs-set cs i p (omega arith) free
pairs-set (Some d ∷ cs) (suc i) p l free =
    IsPermutation-trans _ _ _
    (IsPermutation-cons d _ _ (pairs-set cs i p (omega arith) free))
    (IsPermutation-middle (d ∷ []) p (pairs cs))

-- ---- which keys the map has
pub has_key-None : (cs : Cells) (k : List ℕ) → value_in (pairs cs) k ≡ None → (j : ℕ) → has_key k (cell_at cs j) ≡ false
has_key-None [] k e j = refl
has_key-None (None ∷ cs) k e zero = refl
has_key-None (None ∷ cs) k e (suc j) = has_key-None cs k e j
has_key-None (Some d ∷ cs) k e j = go (bytes_eq k d.key) refl (has_key-None cs k) (sym (value_in-cons d (pairs cs) k) ∙ e) j
  where
    go : (b : Bool) → bytes_eq k d.key ≡ b → (value_in (pairs cs) k ≡ None → (j : ℕ) → has_key k (cell_at cs j) ≡ false) → cond b (Some d.value) (value_in (pairs cs) k) ≡ None → (j : ℕ) → has_key k (cell_at (Some d ∷ cs) j) ≡ false
    go true t rest f j = absurd (none-some d.value (sym f))
    go false t rest f zero = t
    go false t rest f (suc j) = rest f j

-- a key of no cell has no value
pub value_in-None : (cs : Cells) (k : List ℕ) → ((j : ℕ) → has_key k (cell_at cs j) ≡ false) → value_in (pairs cs) k ≡ None
value_in-None [] k all = refl
value_in-None (None ∷ cs) k all = value_in-None cs k (λ j. all (suc j))
value_in-None (Some d ∷ cs) k all = value_in-cons d (pairs cs) k ∙ rw (all 0) (value_in-None cs k (λ j. all (suc j)))

-- a value in the map is that of some slot's pair
pub value_in-Some : (cs : Cells) (k v : List ℕ) → value_in (pairs cs) k ≡ Some v → (i : ℕ) × (p : Pair) × (cell_at cs i ≡ Some p) × (k ≡ p.key) × (p.value ≡ v)
value_in-Some [] k v e = absurd (none-some v e)
value_in-Some (None ∷ cs) k v e = let h = value_in-Some cs k v e in (suc h.0, h.1, h.2, h.3, h.4)
value_in-Some (Some d ∷ cs) k v e = go (bytes_eq k d.key) refl (value_in-Some cs k v) (sym (value_in-cons d (pairs cs) k) ∙ e)
  where
    go : (b : Bool) → bytes_eq k d.key ≡ b → (value_in (pairs cs) k ≡ Some v → (i : ℕ) × (p : Pair) × (cell_at cs i ≡ Some p) × (k ≡ p.key) × (p.value ≡ v)) → cond b (Some d.value) (value_in (pairs cs) k) ≡ Some v
        → (i : ℕ) × (p : Pair) × (cell_at (Some d ∷ cs) i ≡ Some p) × (k ≡ p.key) × (p.value ≡ v)
    go true t rest f = (0, d, refl, same_bytes k d.key t, some_same d.value v f)
    go false t rest f = let h = rest f in (suc h.0, h.1, h.2, h.3, h.4)
