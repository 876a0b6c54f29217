-- Counts of numbers of groups.
use Rattle.std.proofs.Common.{◌≡◌, ◌∙◌, ℕ, ◌+◌, ◌-◌, ◌<◌, ◌≤◌, ◌==◌, ◌≢◌, min, max, Bool, true, false, cond, List, [], ◌∷◌, ◌++◌, length, get_or, set, replicate, refl, sym, ap, arith, length-set, eqb-true, eq-eqb}
use Rattle.std.specs.List.{count_by}
use Rattle.std.proofs.lemmas.Bool.{false≢true}
use Rattle.std.proofs.lemmas.Grind.{same_number_lists}
use Rattle.std.proofs.lemmas.List.{get_or-set_same, get_or-set_other}
use Rattle.std.proofs.lemmas.List.FromFn.{length-map-range_with_len, get_or-map-range_with_len}
use Rattle.std.proofs.lemmas.List.Sums.{sum_by-append, count_by-le-length, fold-append}
use Rattle.odht_tool_core.specs.InfoNumbers.{tallies, largest}

-- there are 64 counts
pub length-tallies : (xs : List ℕ) → length (tallies xs) ≡ 64
unfolding tallies
length-tallies xs = length-map-range_with_len (λ g. count_by (λ x. min x 64 == g) xs) 1 64

-- the first is that of 1
pub get_or-tallies : (xs : List ℕ) (i : ℕ) → i < 64 → get_or (tallies xs) i 0 ≡ count_by (λ x. min x 64 == (i + 1)) xs
unfolding tallies
get_or-tallies xs i low = get_or-map-range_with_len (λ g. count_by (λ x. min x 64 == g) xs) 1 64 i (i + 1) 0 low (omega arith)

-- none is above the number of all
pub tallies-le : (xs : List ℕ) (i : ℕ) → i < 64 → get_or (tallies xs) i 0 ≤ length xs
tallies-le xs i low = let n = count_by-le-length (λ x. min x 64 == (i + 1)) xs in omega (arith, n, get_or-tallies xs i low)

-- one number more
count_by-more : (p : ℕ → Bool) (xs : List ℕ) (g : ℕ) (t : Bool) → p g ≡ t → count_by p (xs ++ (g ∷ [])) ≡ count_by p xs + cond t 1 0
count_by-more p xs g t e =
    let one : count_by p (g ∷ []) ≡ cond t 1 0 = ap (λ b. 0 + cond b 1 0) e ∙ zeros t in
    sum_by-append (λ x. cond (p x) 1 0) xs (g ∷ []) ∙ ap (λ n. count_by p xs + n) one
  where
    zeros : (b : Bool) → 0 + cond b 1 0 ≡ cond b 1 0
    zeros true = refl
    zeros false = refl

-- it is one more of its count
module _ (xs : List ℕ) (g m : ℕ) (is : min g 64 ≡ m) (some : 1 ≤ m) (few : m ≤ 64) where
  at_count : (i : ℕ) → i < 64 → (t : Bool) → (min g 64 == (i + 1)) ≡ t → get_or (tallies (xs ++ (g ∷ []))) i 0 ≡ get_or (set (tallies xs) (m - 1) (get_or (tallies xs) (m - 1) 0 + 1)) i 0
  at_count i low true e =
      let here : i ≡ m - 1 = omega (arith, is, eqb-true (min g 64) (i + 1) e) in
      let inside : m - 1 < length (tallies xs) = omega (arith, length-tallies xs) in
      get_or-tallies (xs ++ (g ∷ [])) i low ∙ count_by-more (λ x. min x 64 == (i + 1)) xs g true e ∙ ap (λ n. n + 1) (sym (get_or-tallies xs i low))
      ∙ ap (λ j. get_or (tallies xs) j 0 + 1) here
      ∙ sym (get_or-set_same (tallies xs) (m - 1) (get_or (tallies xs) (m - 1) 0 + 1) 0 inside)
      ∙ ap (λ j. get_or (set (tallies xs) (m - 1) (get_or (tallies xs) (m - 1) 0 + 1)) j 0) (sym here)
  at_count i low false e =
      let apart : i ≢ m - 1 = λ h. false≢true (sym e ∙ eq-eqb (min g 64) (i + 1) (omega (arith, is, h))) in
      let count : count_by (λ x. min x 64 == (i + 1)) (xs ++ (g ∷ [])) ≡ count_by (λ x. min x 64 == (i + 1)) xs = omega (arith, count_by-more (λ x. min x 64 == (i + 1)) xs g false e) in
      get_or-tallies (xs ++ (g ∷ [])) i low ∙ count ∙ sym (get_or-tallies xs i low)
      ∙ sym (get_or-set_other (tallies xs) (m - 1) i (get_or (tallies xs) (m - 1) 0 + 1) 0 apart)

  pub tallies-more : tallies (xs ++ (g ∷ [])) ≡ set (tallies xs) (m - 1) (get_or (tallies xs) (m - 1) 0 + 1)
  tallies-more =
      same_number_lists (tallies (xs ++ (g ∷ []))) (set (tallies xs) (m - 1) (get_or (tallies xs) (m - 1) 0 + 1))
      (length-tallies (xs ++ (g ∷ [])) ∙ sym (length-set (tallies xs) (m - 1) (get_or (tallies xs) (m - 1) 0 + 1) ∙ length-tallies xs))
      (λ i l. at_count i (omega (arith, length-tallies (xs ++ (g ∷ [])))) (min g 64 == (i + 1)) refl)

-- and the largest of all is it or the largest before
pub largest-more : (xs : List ℕ) (g : ℕ) → largest (xs ++ (g ∷ [])) ≡ max (largest xs) g
unfolding largest
largest-more xs g = fold-append max 0 xs (g ∷ [])

-- of none
pub tallies-none : tallies [] ≡ replicate 64 0
unfolding tallies
tallies-none = refl

pub largest-none : largest [] ≡ 0
unfolding largest
largest-none = refl
