-- Tables that are the same map: as many pairs, each of the one in the other.
use Rattle.std.proofs.Common.{◌≡◌, ◌∙◌, ℕ, zero, suc, Bool, true, false, cond, bytes_eq, sym, ap, subst, refl, List, [], ◌∷◌, Option, Some, None, length, get_or, arith, inl, inr, All, Contains, IsPermutation, rules}
use Rattle.std.specs.Prelude.{option_map}
use Rattle.std.proofs.lemmas.List.Elements.{All-contains, Contains-get_or}
use Rattle.std.proofs.lemmas.List.Sorted.{IsPermutation-sym, Contains-permutation}
use Rattle.std.proofs.lemmas.Option.{none-some}
use Rattle.odht_raw.specs.Words.{count, Format, IsPlaced, map_of, Pair, Table, walk}
use Rattle.odht_base.specs.Map.{value_in, KeysApart}
use Rattle.odht_base.proofs.lemmas.DistinctKeys.{walk-KeysApart}
use Rattle.odht_base.proofs.lemmas.Keys.{same_bytes, key_itself}
use Rattle.odht_base.proofs.lemmas.Options.{some_same}
use Rattle.odht_base.proofs.lemmas.Pairs.{value_in-cons, value_in-Some}
use Rattle.odht_base.proofs.lemmas.Pigeons.{IsApart, contains_cases, pigeons, pigeons_fit}
use Rattle.odht.specs.Equality.{HasAll, IsSameMap}

abbrev pair : List ℕ → List ℕ → Pair
pair k v = record { key = k; value = v }

-- ---- lists of pairs
-- a list has the pair whose value it gives for a key
in_list : (ps : List Pair) (k v : List ℕ) → value_in ps k ≡ Some v → Contains ps (pair k v)
in_list [] k v e = absurd (none-some v e)
in_list (p ∷ ps) k v e = go (bytes_eq k p.key) refl (in_list ps k v)
  where
    go : (b : Bool) → bytes_eq k p.key ≡ b → (value_in ps k ≡ Some v → Contains ps (pair k v)) → Contains (p ∷ ps) (pair k v)
    go true t rest =
        let key : k ≡ p.key = same_bytes k p.key t in
        let value : p.value ≡ v = some_same _ _ (sym (value_in-cons p ps k ∙ ap (λ b. cond b (Some p.value) (value_in ps k)) t) ∙ e) in
        let same : p ≡ pair k v = λ i. pair (sym key i) (value i) in
        (0, omega arith, same)
    go false t rest =
        let h = rest (sym (value_in-cons p ps k ∙ ap (λ b. cond b (Some p.value) (value_in ps k)) t) ∙ e) in
        (suc h.0, omega (arith, h.1), h.2)

-- the first pair is found at its key
found_first : (p : Pair) (ps : List Pair) → value_in (p ∷ ps) p.key ≡ Some p.value
found_first p ps = value_in-cons p ps p.key ∙ ap (λ b. cond b (Some p.value) (value_in ps p.key)) (key_itself p.key)

-- and a later one, whose key the first has not
found_later : (q : Pair) (qs : List Pair) (p : Pair) → value_in qs q.key ≡ None → value_in qs p.key ≡ Some p.value → value_in (q ∷ qs) p.key ≡ Some p.value
found_later q qs p apart rest = value_in-cons q qs p.key ∙ go (bytes_eq p.key q.key) refl
  where
    go : (b : Bool) → bytes_eq p.key q.key ≡ b → cond b (Some q.value) (value_in qs p.key) ≡ Some p.value
    go true t = absurd (none-some p.value (sym apart ∙ ap (value_in qs) (sym (same_bytes p.key q.key t)) ∙ rest))
    go false t = rest

-- of different keys each pair is found
found : (ps : List Pair) → KeysApart ps → (p : Pair) → Contains ps p → value_in ps p.key ≡ Some p.value
found [] apart p h = absurd (omega (arith, h.1))
found (q ∷ qs) apart p h = elim (contains_cases q qs p h) [
  | inl same ↦ subst (λ (r : Pair). value_in (q ∷ qs) r.key ≡ Some r.value) same (found_first q qs)
  | inr later ↦ found_later q qs p apart.0 (found qs apart.1 p later)
]

-- and no pair is there twice
apart_pairs : (ps : List Pair) → KeysApart ps → IsApart ps
apart_pairs [] apart i j d lt l = absurd (omega (arith, l))
apart_pairs (p ∷ ps) apart zero zero d lt l = absurd (omega (arith, lt))
apart_pairs (p ∷ ps) apart zero (suc j) d lt l = λ same. (
    let there = found ps apart.1 (get_or ps j d) (Contains-get_or ps j d (omega (arith, l))) in
    none-some (get_or ps j d).value (sym apart.0 ∙ ap (λ (q : Pair). value_in ps q.key) same ∙ there))
apart_pairs (p ∷ ps) apart (suc i) zero d lt l = absurd (omega (arith, lt))
apart_pairs (p ∷ ps) apart (suc i) (suc j) d lt l = apart_pairs ps apart.1 i j d (omega (arith, lt)) (omega (arith, l))

-- ---- tables
module _ (F : Format) (P Q : Table) (p_ok : IsPlaced F P) (q_ok : IsPlaced F Q) where
  p_apart : KeysApart (walk P)
  p_apart = walk-KeysApart F P p_ok

  q_apart : KeysApart (walk Q)
  q_apart = walk-KeysApart F Q q_ok

  -- the pairs that a table has are in its walk
  contained : HasAll Q (walk P) → All (Contains (walk Q)) (walk P)
  contained all i d l = let p = get_or (walk P) i d in in_list (walk Q) p.key p.value (all i d l)

  -- the same map has all pairs
  pub all-same : IsSameMap P Q → HasAll Q (walk P)
  all-same same i d l =
      let p = get_or (walk P) i d in
      sym (same p.key) ∙ found (walk P) p_apart p (Contains-get_or (walk P) i d l)

  -- as many pairs, each of them in the other table, are the same map
  pub same-all : count P ≡ count Q → HasAll Q (walk P) → IsSameMap P Q
  same-all counts all k = go (map_of P k) (map_of Q k) refl refl
    where
      moved : IsPermutation (walk Q) (walk P)
      moved = IsPermutation-sym _ _ (pigeons (walk P) (walk Q) (apart_pairs (walk P) p_apart) (contained all) (omega (arith, counts)))

      go : (a b : Option (List ℕ)) → map_of P k ≡ a → map_of Q k ≡ b → a ≡ b
      go None None e f = refl
      go None (Some w) e f = absurd (none-some w (sym e ∙ found (walk P) p_apart (pair k w) (Contains-permutation _ _ _ moved (in_list (walk Q) k w f))))
      go (Some v) b e f = sym (All-contains (λ (p : Pair). map_of Q p.key ≡ Some p.value) (walk P) (pair k v) all (in_list (walk P) k v e)) ∙ f

-- the same map has as many pairs
pub same-count : (F : Format) (P Q : Table) → IsPlaced F P → IsPlaced F Q → IsSameMap P Q → count P ≡ count Q
same-count F P Q p_ok q_ok same =
    let few = pigeons_fit (walk P) (walk Q) (apart_pairs (walk P) (p_apart F P Q p_ok q_ok)) (contained F P Q p_ok q_ok (all-same F P Q p_ok q_ok same)) in
    let many = pigeons_fit (walk Q) (walk P) (apart_pairs (walk Q) (q_apart F P Q p_ok q_ok)) (contained F Q P q_ok p_ok (all-same F Q P q_ok p_ok (λ k. sym (same k)))) in
    omega (arith, few, many)

-- ---- what a find says of a pair
-- Q has the pair
abbrev pub Holds : Table → Pair → Type 0
Holds Q p = map_of Q p.key ≡ Some p.value

-- where nothing is found, it has not
pub absent_value : {V : Type 0} (f : List ℕ → V) (Q : Table) (p : Pair) → None ≡ option_map f (map_of Q p.key) → Holds Q p → ⊥
absent_value f Q p none holds = none-some (f p.value) (none ∙ ap (option_map f) holds)

-- a found value that differs is not the pair's
pub other_value : {V : Type 0} (f : List ℕ → V) (g : V → List ℕ) (Q : Table) (p : Pair) (v : V) → Some v ≡ option_map f (map_of Q p.key) → g (f p.value) ≡ p.value → (g v ≡ p.value → ⊥) → Holds Q p → ⊥
other_value f g Q p v is kept differs holds =
    let same : v ≡ f p.value = some_same _ _ (is ∙ ap (option_map f) holds) in
    differs (ap g same ∙ kept)

-- one that is the same is the pair's, where the values of the table are kept
pub same_value : {V : Type 0} (f : List ℕ → V) (g : V → List ℕ) (Q : Table) (p : Pair) (v : V) → Some v ≡ option_map f (map_of Q p.key) → ((w : List ℕ) → map_of Q p.key ≡ Some w → g (f w) ≡ w) → g v ≡ p.value → Holds Q p
same_value f g Q p v is kept same = go (map_of Q p.key) refl
  where
    go : (o : Option (List ℕ)) → map_of Q p.key ≡ o → o ≡ Some p.value
    go None e = absurd (none-some v (sym (is ∙ ap (option_map f) e)))
    go (Some w) e = ap Some (sym (kept w e) ∙ ap g (sym (some_same _ _ (is ∙ ap (option_map f) e))) ∙ same)

-- a value of the table has the length of the format
pub value_long : (F : Format) (Q : Table) → IsPlaced F Q → (k w : List ℕ) → map_of Q k ≡ Some w → length w ≡ F.value_len
value_long F Q ok k w e =
    let at = value_in-Some Q.cells k w e in
    ap length (sym at.4) ∙ (ok.pairs at.0 at.1 at.2).value.len

-- false is not true
pub not_true : false ≡ true → ⊥
not_true t = search rules
