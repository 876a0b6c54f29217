-- The positions of the true answers in a list, as a mask marks them.
use Rattle.std.proofs.Common.{◌≡◌, ℕ, zero, suc, ◌+◌, ◌-◌, ◌<◌, ◌≤◌, Bool, true, false, cond, List, [], ◌∷◌, length, map, filter, get_or, refl, sym, ap₂, ◌∙◌, arith, subst, nat_eq, nat_lt}
use Rattle.std.specs.Prelude.{slice_index_or}
use Rattle.std.specs.List.{Contains}
use Rattle.std.specs.List.Sorted.{IsStrictlyIncreasing}
use borrow.Author.Tests.{eqb-true, eq-eqb}
use mathlib.Core.Bool.{true≢false}
use Rattle.std.specs.List.{range_with_len}
use Rattle.odht_base.specs.Decoded.{counts_as_free}
use Rattle.odht_base.specs.Groups.{equal, free_in, occupied, IsReport}

-- the positions of the true answers, counted from i on
abbrev pub positions_of : ℕ → List Bool → List ℕ
positions_of i [] = []
positions_of i (b ∷ bs) = cond b (i ∷ positions_of (i + 1) bs) (positions_of (i + 1) bs)

-- the indices that pass a test of their elements are the positions where it is true
filter-positions : (p q : ℕ → Bool) (i : ℕ) (g : List ℕ) → ((k : ℕ) → k < length g → q (i + k) ≡ p (get_or g k 0)) → filter q (range_with_len i (length g)) ≡ positions_of i (map p g)
filter-positions p q i [] h = refl
filter-positions p q i (x ∷ g) h =
    let first : q i ≡ p x = (let at : i + 0 ≡ i = omega arith in rw at at (h 0 (omega arith))) in
    let rest = filter-positions p q (i + 1) g (λ k l. let at : i + suc k ≡ i + 1 + k = omega arith in rw at at (h (suc k) (omega arith))) in
    ap₂ (λ b xs. cond b (i ∷ xs) xs) first rest

-- the indices of a byte are the positions where it is
pub equal-positions : (g : List ℕ) (h : ℕ) → equal g h ≡ positions_of 0 (map (λ x. nat_eq x h) g)
equal-positions g h = filter-positions (λ x. nat_eq x h) (λ i. nat_eq (get_or g i 0) h) 0 g (λ k l. let at : 0 + k ≡ k = omega arith in rw at refl)

-- and so are those of the bytes that count as free, and of the others
pub free-positions : (g : List ℕ) → free_in g ≡ positions_of 0 (map counts_as_free g)
free-positions g = filter-positions counts_as_free (λ i. counts_as_free (get_or g i 0)) 0 g (λ k l. let at : 0 + k ≡ k = omega arith in rw at refl)

pub occupied-positions : (g : List ℕ) → occupied g ≡ positions_of 0 (map (λ x. nat_lt x 128) g)
occupied-positions g = filter-positions (λ x. nat_lt x 128) (λ i. nat_lt (get_or g i 0) 128) 0 g (λ k l. let at : 0 + k ≡ k = omega arith in rw at refl)

-- no position is below the first count
above : (i : ℕ) (bs : List Bool) (k : ℕ) → k < length (positions_of i bs) → i ≤ get_or (positions_of i bs) k 0
above i [] k l = absurd (omega arith)
above i (true ∷ bs) zero l = omega arith
above i (true ∷ bs) (suc k) l = let e : k < length (positions_of (i + 1) bs) = omega arith in omega (arith, above (i + 1) bs k e)
above i (false ∷ bs) k l = omega (arith, above (i + 1) bs k l)

-- positions rise
pub rising : (i : ℕ) (bs : List Bool) → IsStrictlyIncreasing (positions_of i bs)
rising i [] k l = absurd (omega arith)
rising i (true ∷ bs) zero l = let e : 0 < length (positions_of (i + 1) bs) = omega arith in omega (arith, above (i + 1) bs 0 e)
rising i (true ∷ bs) (suc k) l =
    let e : k + 1 < length (positions_of (i + 1) bs) = omega arith in
    let next : get_or (positions_of (i + 1) bs) k 0 < get_or (positions_of (i + 1) bs) (k + 1) 0 = rising (i + 1) bs k e in
    let at : suc k + 1 ≡ suc (k + 1) = omega arith in
    rw at next
rising i (false ∷ bs) k l = rising (i + 1) bs k l

-- at a position that is listed the answer is true
holds : (i : ℕ) (bs : List Bool) (x k : ℕ) → k < length (positions_of i bs) → slice_index_or (positions_of i bs) k x ≡ x → (i ≤ x) × (get_or bs (x - i) false ≡ true)
holds i [] x k l e = absurd (omega arith)
holds i (true ∷ bs) x zero l e =
    let at : x - i ≡ 0 = omega arith in
    (omega arith, rw at refl)
holds i (true ∷ bs) x (suc k) l e =
    let ih = holds (i + 1) bs x k (let l' : k < length (positions_of (i + 1) bs) = omega arith in l') e in
    let at : x - i ≡ suc (x - (i + 1)) = omega (arith, ih.0) in
    (omega (arith, ih.0), rw at ih.1)
holds i (false ∷ bs) x k l e =
    let ih = holds (i + 1) bs x k l e in
    let at : x - i ≡ suc (x - (i + 1)) = omega (arith, ih.0) in
    (omega (arith, ih.0), rw at ih.1)

-- what a list holds, a longer one holds
further : (x y : ℕ) (xs : List ℕ) → Contains xs x → Contains (y ∷ xs) x
further x y xs h = (suc h.0, omega (arith, h.1), h.2)

-- the position of a true answer is listed
has : (i : ℕ) (bs : List Bool) (k : ℕ) → get_or bs k false ≡ true → Contains (positions_of i bs) (i + k)
has i [] k e = absurd (true≢false (sym e))
has i (true ∷ bs) zero e = (0, omega arith, omega arith)
has i (true ∷ bs) (suc k) e =
    let same : i + suc k ≡ i + 1 + k = omega arith in
    rw same (further (i + 1 + k) i (positions_of (i + 1) bs) (has (i + 1) bs k e))
has i (false ∷ bs) zero e = absurd (true≢false (sym e))
has i (false ∷ bs) (suc k) e = let same : i + suc k ≡ i + 1 + k = omega arith in rw same (has (i + 1) bs k e)

-- the last two, counted from 0
pub true_at : (bs : List Bool) (x : ℕ) → Contains (positions_of 0 bs) x → get_or bs x false ≡ true
true_at bs x h = let at : x - 0 ≡ x = omega arith in rw at at (holds 0 bs x h.0 h.1 h.2).1

pub position_at : (bs : List Bool) (k : ℕ) → get_or bs k false ≡ true → Contains (positions_of 0 bs) k
position_at bs k e = let same : 0 + k ≡ k = omega arith in rw same at (has 0 bs k e)

-- where a test of an element is true, and back
map_at : (p : ℕ → Bool) (g : List ℕ) (i : ℕ) → get_or (map p g) i false ≡ true → (i < length g) × (p (get_or g i 0) ≡ true)
map_at p [] i e = absurd (true≢false (sym e))
map_at p (x ∷ g) zero e = (omega arith, e)
map_at p (x ∷ g) (suc i) e = let ih = map_at p g i e in (omega (arith, ih.0), ih.1)

at_map : (p : ℕ → Bool) (g : List ℕ) (i : ℕ) → i < length g → p (get_or g i 0) ≡ true → get_or (map p g) i false ≡ true
at_map p [] i l e = absurd (omega arith)
at_map p (x ∷ g) zero l e = e
at_map p (x ∷ g) (suc i) l e = at_map p g i (omega arith) e

-- the indices of a tag are a report
pub report_from_equal : (g : List ℕ) (h : ℕ) (xs : List ℕ) → h < 128 → xs ≡ equal g h → IsReport g h xs
report_from_equal g h xs small e =
    let test : ℕ → Bool = λ x. nat_eq x h in
    let whole : IsReport g h (positions_of 0 (map test g)) = record {
      rising = rising 0 (map test g);
      complete = λ i l same. position_at (map test g) i (at_map test g i l (eq-eqb (get_or g i 0) h same));
      occupied = λ i c. let t = map_at test g i (true_at (map test g) i c) in (t.0, omega (arith, eqb-true (get_or g i 0) h t.1));
    } in
    subst (λ ys. IsReport g h ys) (sym (e ∙ equal-positions g h)) whole
