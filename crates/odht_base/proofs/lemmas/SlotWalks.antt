-- A walk that begins at a slot, and one that goes on where another stopped.
use Rattle.std.proofs.Common.{◌≡◌, ◌≤◌, ◌+◌, ◌∙◌, ℕ, zero, suc, sym, ap, refl, List, [], ◌∷◌, Some, None, map, drop, arith, get_or, get_or-drop}
use Rattle.std.proofs.lemmas.List.{drop-drop, drop-map, drop_all}
use Rattle.std.specs.Prelude.{filter_map}
use Rattle.odht_base.specs.SlotWalks.{walk_from, numbered, slots_from}
use Rattle.odht_base.specs.Table.{Pair, Cells, Table, slot_count, cell_at, walk}

-- a walk from the first slot on is the whole walk
pub walk_from-start : (P : Table) → walk_from P 0 ≡ walk P
walk_from-start P = refl

-- numbered pairs without their numbers are the pairs
pub pairs-numbered : (i : ℕ) (cs : Cells) → map (λ (x : ℕ × Pair). x.1) (numbered i cs) ≡ filter_map (λ c. c) cs
pairs-numbered i [] = refl
pairs-numbered i (None ∷ cs) = pairs-numbered (i + 1) cs
pairs-numbered i (Some p ∷ cs) = ap (λ ps. p ∷ ps) (pairs-numbered (i + 1) cs)

pub pairs-slots_from : (P : Table) (i : ℕ) → map (λ (x : ℕ × Pair). x.1) (slots_from P i) ≡ walk_from P i
pairs-slots_from P i = pairs-numbered i (drop i P.cells)

-- cells from that of a numbered pair on
pub record BeginsAt (i : ℕ) (cs : Cells) (s : ℕ) (p : Pair) (rest : List (ℕ × Pair)) : Type 0 where
  pub passed : ℕ
  pub slot : s ≡ i + passed
  pub behind : Cells
  pub cells : drop passed cs ≡ Some p ∷ behind
  pub left : numbered (s + 1) behind ≡ rest

begins_at : (i : ℕ) (cs : Cells) (n s : ℕ) (p : Pair) (rest : List (ℕ × Pair)) → drop n (numbered i cs) ≡ (s, p) ∷ rest → BeginsAt i cs s p rest
begins_at i [] zero s p rest e = absurd (let both : [] ≡ (s, p) ∷ rest = e in cc)
begins_at i [] (suc n) s p rest e = absurd (let both : [] ≡ (s, p) ∷ rest = e in cc)
begins_at i (None ∷ cs) n s p rest e =
    let h = begins_at (i + 1) cs n s p rest e in
    record { passed = suc h.passed; slot = omega (arith, h.slot); behind = h.behind; cells = h.cells; left = h.left }
begins_at i (Some q ∷ cs) zero s p rest e =
    let both : (i, q) ∷ numbered (i + 1) cs ≡ (s, p) ∷ rest = e in
    let first : (i, q) ≡ (s, p) = cc in
    let slot : i ≡ s = ap (λ (x : ℕ × Pair). x.0) first in
    let pair : q ≡ p = ap (λ (x : ℕ × Pair). x.1) first in
    let more : numbered (i + 1) cs ≡ rest = cc in
    record {
      passed = 0;
      slot = omega (arith, slot);
      behind = cs;
      cells = ap (λ x. Some x ∷ cs) pair;
      left = ap (λ m. numbered (m + 1) cs) (sym slot) ∙ more;
    }
begins_at i (Some q ∷ cs) (suc n) s p rest e =
    let h = begins_at (i + 1) cs n s p rest e in
    record { passed = suc h.passed; slot = omega (arith, h.slot); behind = h.behind; cells = h.cells; left = h.left }

module _ (P : Table) (i n s : ℕ) (p : Pair) (rest : List (ℕ × Pair)) (e : drop n (slots_from P i) ≡ (s, p) ∷ rest) where
  there : BeginsAt i (drop i P.cells) s p rest
  there = begins_at i (drop i P.cells) n s p rest e

  cells_there : drop s P.cells ≡ Some p ∷ there.behind
  cells_there =
      ap (λ m. drop m P.cells) there.slot ∙ sym (drop-drop there.passed i P.cells) ∙ there.cells

  -- a walk from a slot that another walk reached continues as that one
  pub slots_from-goes_on : slots_from P s ≡ (s, p) ∷ rest
  slots_from-goes_on = ap (numbered s) cells_there ∙ ap (λ xs. (s, p) ∷ xs) there.left

  -- and the slot holds the pair
  pub holds_there : cell_at P.cells s ≡ Some p
  holds_there =
      let here : s + 0 ≡ s = omega arith in
      sym (ap (λ m. get_or P.cells m None) here) ∙ sym (get_or-drop s P.cells 0 None) ∙ ap (λ cs. get_or cs 0 None) cells_there

  pub walk_from-goes_on : walk_from P s ≡ drop n (walk_from P i)
  walk_from-goes_on =
      sym (pairs-slots_from P s) ∙ ap (map (λ (x : ℕ × Pair). x.1)) (slots_from-goes_on ∙ sym e)
      ∙ sym (drop-map (λ (x : ℕ × Pair). x.1) n (slots_from P i)) ∙ ap (drop n) (pairs-slots_from P i)

-- past the last slot nothing is left
pub slots_from-end : (P : Table) (i : ℕ) → slot_count P ≤ i → slots_from P i ≡ []
slots_from-end P i past = ap (numbered i) (drop_all i P.cells past)
