-- The pairs of cells, how many they are, and how many after a cell is set.
use Rattle.std.proofs.Common.{◌≡◌, ℕ, zero, suc, ◌+◌, ◌<◌, ◌≤◌, refl, ap, ◌∙◌, arith, Bool, true, false, true≢false, cond, if◌then◌else◌, List, [], ◌∷◌, length, set, replicate, filter_map, Some, None, is_none}
use Rattle.odht_base.specs.Table.{Pair, Cells, cell_at, is_free}

-- the pairs of the cells, in slot order
abbrev pub pairs : Cells → List Pair
pairs cs = filter_map (λ c. c) cs

abbrev pub count_of : Cells → ℕ
count_of cs = length (pairs cs)

-- no more than there are cells
pub count_of-le : (cs : Cells) → count_of cs ≤ length cs
count_of-le [] = omega arith
count_of-le (None ∷ cs) = let h = count_of-le cs in omega arith
count_of-le (Some d ∷ cs) = let h = count_of-le cs in omega arith

-- fewer pairs than cells leave a free cell
pub free_cell : (cs : Cells) → count_of cs < length cs → (i : ℕ) × (i < length cs) × (is_free cs i ≡ true)
free_cell [] l = absurd (omega arith)
free_cell (None ∷ cs) l = (0, omega arith, refl)
free_cell (Some d ∷ cs) l = let h = free_cell cs (omega arith) in (suc h.0, omega (arith, h.1), h.2)

-- ---- empty tables
pub cell_at-free : (s i : ℕ) → cell_at (replicate s None) i ≡ None
cell_at-free zero i = refl
cell_at-free (suc s) zero = refl
cell_at-free (suc s) (suc i) = cell_at-free s i

-- free cells have no pairs
pub pairs-free : (s : ℕ) → pairs (replicate s None) ≡ []
pairs-free zero = refl
pairs-free (suc s) = pairs-free s

pub count_fresh : (n : ℕ) → count_of (replicate n None) ≡ 0
count_fresh n = ap length (pairs-free n)

-- ---- a cell set
-- a pair set in a free cell is one more, and in an occupied one none
pub count_set : (cs : Cells) (i : ℕ) (p : Pair) → i < length cs → count_of (set cs i (Some p)) ≡ (if is_none (cell_at cs i) then count_of cs + 1 else count_of cs)
count_set [] i p l = absurd (omega arith)
count_set (None ∷ cs) zero p l = omega arith
count_set (Some d ∷ cs) zero p l = refl
count_set (None ∷ cs) (suc i) p l = count_set cs i p (omega arith)
count_set (Some d ∷ cs) (suc i) p l = ap suc (count_set cs i p (omega arith)) ∙ go (is_none (cell_at cs i)) (count_of cs)
  where
    go : (b : Bool) (n : ℕ) → suc (cond b (n + 1) n) ≡ cond b (suc n + 1) (suc n)
    go true n = omega arith
    go false n = refl

-- in an occupied cell
pub count_set_again : (cs : Cells) (x : ℕ) (p : Pair) → is_none (cell_at cs x) ≡ false → count_of (set cs x (Some p)) ≡ count_of cs
count_set_again [] x p f = refl
count_set_again (None ∷ cs) zero p f = absurd (true≢false f)
count_set_again (Some d ∷ cs) zero p f = refl
count_set_again (None ∷ cs) (suc x) p f = count_set_again cs x p f
count_set_again (Some d ∷ cs) (suc x) p f = ap suc (count_set_again cs x p f)
