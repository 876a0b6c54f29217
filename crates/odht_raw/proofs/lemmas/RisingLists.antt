-- Lists of different items, and lists of numbers that rise, which are known by their items.
use Rattle.std.proofs.Common.{◌≡◌, ◌<◌, ◌≤◌, ◌-◌, ◌∙◌, inl, inr, ℕ, suc, sym, ap, subst, refl, List, [], ◌∷◌, ◌++◌, length, get_or, remove, arith, All, AllPairs, Contains, IsPermutation, IsSorted}
use Rattle.std.specs.Ordering.{nat_cmp}
use Rattle.odht_raw.proofs.lemmas.Below.{cases_lt, Contains-get_or, Contains-permutation, contains_cases, get_or-append_right, get_or-remove_below, get_or_append_left, get_or_default, IsApart, IsNonDecreasingBy-from_sort, IsPermutation-remove, length-append, length_permutation, pigeons_fit}

-- a list whose items are those of a list of different ones, in another order, is of different ones too
pub apart_moved : {X : Type 0} (xs ys : List X) → IsPermutation xs ys → IsApart xs → IsApart ys
apart_moved xs ys moved apart i j d lt l same =
    let out = IsPermutation-remove ys j (get_or ys j d) l (get_or_default ys j d (get_or ys j d) l) in
    let shorter = length_permutation ys (get_or ys j d ∷ remove ys j) out in
    let all : All (Contains (remove ys j)) xs = λ k e m. elim (contains_cases (get_or ys j d) (remove ys j) (get_or xs k e) (Contains-permutation ys _ _ out (Contains-permutation xs ys _ moved (Contains-get_or xs k e m)))) [
      | inl is ↦ subst (Contains (remove ys j)) (get_or-remove_below ys j d i lt l ∙ same ∙ is) (Contains-get_or (remove ys j) i d (omega (arith, shorter, lt, l)))
      | inr found ↦ found
    ] in
    omega (arith, l, shorter, pigeons_fit xs (remove ys j) apart all, length_permutation xs ys moved)

-- different numbers in order rise
pub rising_if_sorted : (xs : List ℕ) → IsApart xs → IsSorted nat_cmp xs → AllPairs (λ a b. a < b) xs
rising_if_sorted xs apart sorted i j d lt l =
    let low = IsNonDecreasingBy-from_sort (λ x. x) xs sorted i j d (omega (arith, lt)) l in
    let differ = apart i j d lt l in
    omega (arith, low, differ)

-- the numbers behind the first rise
rising_rest : (x : ℕ) (xs : List ℕ) → AllPairs (λ a b. a < b) (x ∷ xs) → AllPairs (λ a b. a < b) xs
rising_rest x xs rise i j d lt l = rise (suc i) (suc j) d (omega (arith, lt)) (omega (arith, l))

-- and are above it
rising_above : (x : ℕ) (xs : List ℕ) → AllPairs (λ a b. a < b) (x ∷ xs) → (z : ℕ) → Contains xs z → x < z
rising_above x xs rise z h = omega (arith, rise 0 (suc h.0) z (omega arith) (omega (arith, h.1)), h.2)

-- so none is below the first
rising_least : (x : ℕ) (xs : List ℕ) → AllPairs (λ a b. a < b) (x ∷ xs) → (z : ℕ) → Contains (x ∷ xs) z → x ≤ z
rising_least x xs rise z h = elim (contains_cases x xs z h) [ inl is ↦ omega (arith, is) | inr later ↦ omega (arith, rising_above x xs rise z later) ]

-- an item behind the first is an item
contains_behind : (x : ℕ) (xs : List ℕ) (z : ℕ) → Contains xs z → Contains (x ∷ xs) z
contains_behind x xs z h = (suc h.0, omega (arith, h.1), h.2)

-- the items behind equal first ones
contains_rest : (x y : ℕ) (xs ys : List ℕ) → x ≡ y → AllPairs (λ a b. a < b) (x ∷ xs) → ((z : ℕ) → Contains (x ∷ xs) z → Contains (y ∷ ys) z) → (z : ℕ) → Contains xs z → Contains ys z
contains_rest x y xs ys same rise in' z h = elim (contains_cases y ys z (in' z (contains_behind x xs z h))) [
  | inl is ↦ absurd (omega (arith, same, is, rising_above x xs rise z h))
  | inr found ↦ found
]

-- lists that rise and have the same items are the same
pub rising_same : (xs ys : List ℕ) → AllPairs (λ a b. a < b) xs → AllPairs (λ a b. a < b) ys → ((z : ℕ) → Contains xs z → Contains ys z) → ((z : ℕ) → Contains ys z → Contains xs z) → xs ≡ ys
rising_same [] [] r s f g = refl
rising_same [] (y ∷ ys) r s f g = absurd (omega (arith, (g y (0, omega arith, refl)).1))
rising_same (x ∷ xs) [] r s f g = absurd (omega (arith, (f x (0, omega arith, refl)).1))
rising_same (x ∷ xs) (y ∷ ys) r s f g =
    let low = rising_least y ys s x (f x (0, omega arith, refl)) in
    let high = rising_least x xs r y (g y (0, omega arith, refl)) in
    let same : x ≡ y = omega (arith, low, high) in
    let rest = rising_same xs ys (rising_rest x xs r) (rising_rest y ys s) (contains_rest x y xs ys same r f) (contains_rest y x ys xs (sym same) s g) in
    ap (λ a. a ∷ xs) same ∙ ap (λ zs. y ∷ zs) rest

-- a list that rises, followed by a higher one that does
pub rising_append : (xs ys : List ℕ) (n : ℕ) → AllPairs (λ a b. a < b) xs → AllPairs (λ a b. a < b) ys → All (λ x. x < n) xs → All (λ y. n ≤ y) ys → AllPairs (λ a b. a < b) (xs ++ ys)
rising_append xs ys n r s low high i j d lt l =
    let size = length-append xs ys in
    elim (cases_lt j (length xs)) [
      | inl jx ↦
          let ix : i < length xs = omega (arith, lt, jx) in
          omega (arith, r i j d lt jx, get_or_append_left xs ys d i ix, get_or_append_left xs ys d j jx)
      | inr jy ↦
          let js = get_or-append_right xs ys (length xs) j d refl jy in
          let jl : j - length xs < length ys = omega (arith, l, size, jy) in
          elim (cases_lt i (length xs)) [
            | inl ix ↦ omega (arith, js, get_or_append_left xs ys d i ix, low i d ix, high (j - length xs) d jl)
            | inr iy ↦ omega (arith, js, get_or-append_right xs ys (length xs) i d refl iy, s (i - length xs) (j - length xs) d (omega (arith, lt, iy)) jl)
          ]
    ]
