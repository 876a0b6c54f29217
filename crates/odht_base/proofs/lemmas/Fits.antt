-- Cells whose pairs are of the format, or have its lengths, after a cell is set or cells are left out; sized tables.
use Rattle.std.proofs.Common.{◌∙◌, ◌≡◌, ◌<◌, ◌≤◌, ◌^◌, ℕ, zero, suc, sym, subst, List, [], ◌∷◌, Option, Some, None, length, take, set, arith}
use Rattle.std.proofs.lemmas.List.{length-replicate}
use Rattle.odht_base.specs.Format.{Format, IsFormat, tag}
use Rattle.odht_base.specs.Load.{IsSlotCount}
use Rattle.odht_base.specs.Numbers.{IsBytes}
use Rattle.odht_base.specs.Table.{Pair, Cells, Table, cell_at, empty, slot_count}
use Rattle.odht_base.specs.Valid.{IsPlaced, IsPairOf, HasPairsOf}
use Rattle.odht_base.proofs.lemmas.Counts.{cell_at-free}
use Rattle.odht_base.proofs.lemmas.Options.{some_same}
use Rattle.odht_base.proofs.lemmas.SlotCounts.{slots_fit}
use Rattle.std.proofs.lemmas.Option.{none-some}

-- ---- the lengths alone
-- each key and each value has its length
pub record HasLengths (F : Format) (cs : Cells) : Type 0 where
  pub keys : (i : ℕ) (p : Pair) → cell_at cs i ≡ Some p → length p.key ≡ F.key_len
  pub values : (i : ℕ) (p : Pair) → cell_at cs i ≡ Some p → length p.value ≡ F.value_len

-- the image has the lengths of its slot count, which fits its eight bytes
pub record IsSized (F : Format) (P : Table) : Type 0 where
  pub lengths : HasLengths F P.cells
  pub enough : 16 ≤ slot_count P
  pub few : slot_count P < 256 ^ 8

-- bytes have their lengths
pub HasLengths-HasPairsOf : (F : Format) (cs : Cells) → HasPairsOf F cs → HasLengths F cs
HasLengths-HasPairsOf F cs h = record { keys = λ i p g. (h i p g).key.len; values = λ i p g. (h i p g).value.len }

-- a placed table has the lengths
pub HasLengths-IsPlaced : (F : Format) (P : Table) → IsPlaced F P → HasLengths F P.cells
HasLengths-IsPlaced F P h = HasLengths-HasPairsOf F P.cells h.pairs

-- without the first cell
pub HasLengths-tail : (F : Format) (c : Option Pair) (cs : Cells) → HasLengths F (c ∷ cs) → HasLengths F cs
HasLengths-tail F c cs h = record { keys = λ i. h.keys (suc i); values = λ i. h.values (suc i) }

cell_at-take : (n : ℕ) (cs : Cells) (i : ℕ) (p : Pair) → cell_at (take n cs) i ≡ Some p → cell_at cs i ≡ Some p
cell_at-take zero cs i p g = absurd (none-some p g)
cell_at-take (suc n) [] i p g = g
cell_at-take (suc n) (c ∷ cs) zero p g = g
cell_at-take (suc n) (c ∷ cs) (suc i) p g = cell_at-take n cs i p g

-- the first n cells
pub HasLengths-take : (F : Format) (n : ℕ) (cs : Cells) → HasLengths F cs → HasLengths F (take n cs)
HasLengths-take F n cs h = record { keys = λ i p g. h.keys i p (cell_at-take n cs i p g); values = λ i p g. h.values i p (cell_at-take n cs i p g) }

-- each pair of a list with one cell set is that pair or one from before
at_set : (Q : Pair → Type 0) (cs : Cells) (i : ℕ) (q : Pair) → ((j : ℕ) (p : Pair) → cell_at cs j ≡ Some p → Q p) → Q q → (j : ℕ) (p : Pair) → cell_at (set cs i (Some q)) j ≡ Some p → Q p
at_set Q [] i q h here j p g = absurd (none-some p g)
at_set Q (c ∷ cs) zero q h here zero p g = subst Q (some_same q p g) here
at_set Q (c ∷ cs) zero q h here (suc j) p g = h (suc j) p g
at_set Q (c ∷ cs) (suc i) q h here zero p g = h 0 p g
at_set Q (c ∷ cs) (suc i) q h here (suc j) p g = at_set Q cs i q (λ k. h (suc k)) here j p g

-- with a pair of the format set
pub HasPairsOf-set : (F : Format) (cs : Cells) (i : ℕ) (q : Pair) → HasPairsOf F cs → IsPairOf F q → HasPairsOf F (set cs i (Some q))
HasPairsOf-set F cs i q h fits = at_set (IsPairOf F) cs i q h fits

-- an empty table holds no pair
pub HasPairsOf-empty : (F : Format) (s f : ℕ) → HasPairsOf F (empty s f).cells
HasPairsOf-empty F s f i p g = absurd (none-some p (sym (cell_at-free s i) ∙ g))

-- a control byte of a key is below 128
pub tag-lt : (F : Format) (k : List ℕ) → IsFormat F → IsBytes F.key_len k → tag F k < 128
tag-lt F k f h = let small = f.hash_small k h in omega (arith, small)

-- a placed table is sized
pub IsSized-IsPlaced : (F : Format) (P : Table) → IsPlaced F P → IsSized F P
IsSized-IsPlaced F P h = record { lengths = HasLengths-IsPlaced F P h; enough = h.slots.least; few = slots_fit (slot_count P) h.slots }

-- an empty table of a slot count is sized
pub IsSized-empty : (F : Format) (s f : ℕ) → IsSlotCount s → IsSized F (empty s f)
IsSized-empty F s f h =
    let n : slot_count (empty s f) ≡ s = length-replicate s None in
    record { lengths = HasLengths-HasPairsOf F (empty s f).cells (HasPairsOf-empty F s f); enough = omega (arith, n, h.least); few = omega (arith, n, slots_fit s h) }
