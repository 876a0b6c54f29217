-- The occupied slots of a table: which they are, and how many.
use Rattle.std.proofs.Common.{◌≡◌, ◌≢◌, ◌<◌, ◌+◌, ◌∙◌, ℕ, zero, suc, Bool, true, false, true≢false, cond, sym, ap, refl, List, [], ◌∷◌, Option, Some, None, length, filter, get_or, arith, Contains, ◌↔◌}
use Rattle.std.specs.Prelude.{is_some}
use Rattle.std.specs.List.{range_with_len}
use Rattle.std.proofs.lemmas.List.Elements.{All-contains, filter_passes}
use Rattle.std.proofs.lemmas.List.FromFn.{length-range_with_len, get_or-range_with_len}
use Rattle.std.proofs.lemmas.List.Kept.{AllPairs-filter}
use Rattle.odht_base.specs.Made.{occupied}
use Rattle.odht_base.specs.Table.{Pair, Table, Cells, slot_count, cell_at, count}
use Rattle.odht_base.specs.Valid.{HoldsPair}
use Rattle.odht_base.proofs.lemmas.Counts.{count_of}
use Rattle.odht_base.proofs.lemmas.Keys.{cell_at-within}
use Rattle.odht_base.proofs.lemmas.Pigeons.{IsApart}

-- a kept item is in the list
pub contains_filter : (t : ℕ → Bool) (xs : List ℕ) (x : ℕ) → Contains xs x → t x ≡ true → Contains (filter t xs) x
contains_filter t [] x h e = absurd (omega (arith, h.1))
contains_filter t (y ∷ ys) x h e = go h.0 h.1 h.2 (λ g. contains_filter t ys x g e) (t y) refl
  where
    go : (k : ℕ) → k < length (y ∷ ys) → get_or (y ∷ ys) k x ≡ x → (Contains ys x → Contains (filter t ys) x) → (b : Bool) → t y ≡ b → Contains (cond b (y ∷ filter t ys) (filter t ys)) x
    go zero l is rest true f = (0, omega arith, is)
    go zero l is rest false f = absurd (true≢false (sym (ap t is ∙ e) ∙ f))
    go (suc k) l is rest true f = let g = rest (k, omega arith, is) in (suc g.0, omega (arith, g.1), g.2)
    go (suc k) l is rest false f = rest (k, omega arith, is)

module _ (P : Table) where
  -- the test of an occupied slot
  abbrev holds_some : ℕ → Bool
  holds_some i = is_some (cell_at P.cells i)

  -- a slot is listed exactly where it holds a pair
  pub occupied-Contains : (i : ℕ) → Contains (occupied P) i ↔ ((p : Pair) × HoldsPair P i p)
  occupied-Contains i = (
    λ h. some (cell_at P.cells i) (All-contains (λ x. holds_some x ≡ true) (occupied P) i (filter_passes holds_some (range_with_len 0 (slot_count P))) h),
    λ h.
        let l = cell_at-within P.cells i h.0 h.1 in
        contains_filter holds_some (range_with_len 0 (slot_count P)) i
        (i, omega (arith, l, length-range_with_len 0 (slot_count P)), get_or-range_with_len 0 (slot_count P) i i l ∙ omega arith)
        (ap is_some h.1),
  )
    where
      some : (c : Option Pair) → is_some c ≡ true → (p : Pair) × (c ≡ Some p)
      some None e = absurd (true≢false (sym e))
      some (Some p) e = (p, refl)

  -- none is listed twice
  pub occupied-apart : IsApart (occupied P)
  occupied-apart = AllPairs-filter (λ i j. i ≢ j) holds_some (range_with_len 0 (slot_count P)) (λ i j d lt l e.
      let n = length-range_with_len 0 (slot_count P) in
      omega (arith, lt, l, sym (get_or-range_with_len 0 (slot_count P) i d (omega arith)) ∙ e ∙ get_or-range_with_len 0 (slot_count P) j d (omega arith)))

-- cs are the cells from slot a on
abbrev IsFrom : Table → ℕ → Cells → Type 0
IsFrom P a cs = (i : ℕ) → cell_at P.cells (a + i) ≡ cell_at cs i

-- they are as many as the pairs
pub length-occupied : (P : Table) → length (occupied P) ≡ count P
length-occupied P = go 0 P.cells (λ i. let e : 0 + i ≡ i = omega arith in ap (cell_at P.cells) e)
  where
    first : (a : ℕ) (c : Option Pair) (cs : Cells) → IsFrom P a (c ∷ cs) → cell_at P.cells a ≡ c
    first a c cs same = let e : a ≡ a + 0 = omega arith in ap (cell_at P.cells) e ∙ same 0

    rest : (a : ℕ) (c : Option Pair) (cs : Cells) → IsFrom P a (c ∷ cs) → IsFrom P (a + 1) cs
    rest a c cs same i = let e : a + 1 + i ≡ a + suc i = omega arith in ap (cell_at P.cells) e ∙ same (suc i)

    go : (a : ℕ) (cs : Cells) → IsFrom P a cs → length (filter (λ i. is_some (cell_at P.cells i)) (range_with_len a (length cs))) ≡ count_of cs
    go a [] same = refl
    go a (None ∷ cs) same = rw (first a None cs same) (go (a + 1) cs (rest a None cs same))
    go a (Some p ∷ cs) same = rw (first a (Some p) cs same) (ap suc (go (a + 1) cs (rest a (Some p) cs same)))
