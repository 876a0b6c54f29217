-- The probe order: its positions, that it lists each slot exactly once, and the first slot of it that passes a test.
use Rattle.std.proofs.Common.{◌≡◌, ℕ, ◌<◌, ◌*◌, ◌+◌, ◌/◌, ◌%◌, inl, inr, sym, ap, subst, ◌∙◌, arith, Bool, true, false, length, Some, None, find, position, slice_get, get_or, Contains, IsPermutation}
use Rattle.std.specs.List.{range_with_len}
use Rattle.std.proofs.lemmas.Bool.{cases_lt}
use Rattle.std.proofs.lemmas.Option.{slice_get_within, slice_get-get_or}
use Rattle.std.proofs.lemmas.List.FromFn.{length-map-range_with_len, get_or-map-range_with_len, length-range_with_len, get_or-range_with_len}
use Rattle.std.proofs.lemmas.List.Sorted.{IsPermutation-sym, Contains-permutation}
use Rattle.odht_base.specs.Load.{IsSlotCount}
use Rattle.odht_base.specs.Probe.{probe_slot, order}
use Rattle.odht_base.proofs.lemmas.Distinct.{probe_slot-injective}
use Rattle.odht_base.proofs.lemmas.FirstMatch.{position_is, position_none, find_is, find_none, find-Some, find-None}
use Rattle.odht_base.proofs.lemmas.Options.{some_same}
use Rattle.odht_base.proofs.lemmas.Pigeons.{pigeons}
use Rattle.odht_base.proofs.lemmas.SlotCounts.{slots_pos}

-- ---- positions
-- the slot at a position is one of the table
pub probe_slot-lt : (b s p : ℕ) → 0 < s → probe_slot b s p < s
probe_slot-lt b s p pos = omega arith

-- position i of group j
pub probe_slot-group : (b s j i : ℕ) → i < 16 → probe_slot b s (16 * j + i) ≡ (b + 8 * j * (j + 1) + i) % s
probe_slot-group b s j i l =
    let d : (16 * j + i) / 16 ≡ j = omega arith in
    let m : (16 * j + i) % 16 ≡ i = omega arith in
    rw (d, m)

-- positions of one slot are one position
pub probe_slot-apart : (b s p q : ℕ) → IsSlotCount s → p < s → q < s → probe_slot b s p ≡ probe_slot b s q → p ≡ q
probe_slot-apart b s p q c lp lq e = elim (cases_lt p q) [
  | inl before ↦ absurd (probe_slot-injective b s p q c before lq e)
  | inr other ↦ elim (cases_lt q p) [
    | inl after ↦ absurd (probe_slot-injective b s q p c after lp (sym e))
    | inr same ↦ omega arith
  ]
]

-- ---- the whole order
-- it has s positions
pub length-order : (b s : ℕ) → length (order b s) ≡ s
unfolding order
length-order b s = length-map-range_with_len (λ p. probe_slot b s p) 0 s

-- the item at position p
pub get_or-order : (b s p d : ℕ) → p < s → get_or (order b s) p d ≡ probe_slot b s p
unfolding order
get_or-order b s p d l = get_or-map-range_with_len (λ q. probe_slot b s q) 0 s p p d l (omega arith)

-- the same as an answer
pub slice_get-order : (b s p : ℕ) → p < s → slice_get (order b s) p ≡ Some (probe_slot b s p)
slice_get-order b s p l = slice_get-get_or (order b s) p 0 (omega (arith, length-order b s)) ∙ ap Some (get_or-order b s p 0 l)

-- each slot below s is in the order exactly once
pub order-IsPermutation : (b s : ℕ) → IsSlotCount s → IsPermutation (order b s) (range_with_len 0 s)
order-IsPermutation b s c =
    let pos = slots_pos s c in
    let len = length-order b s in
    pigeons (order b s) (range_with_len 0 s)
    (λ i j d lt l e. let z = probe_slot-apart b s i j c (omega arith) (omega arith) (sym (get_or-order b s i d (omega arith)) ∙ e ∙ get_or-order b s j d (omega arith)) in omega arith)
    (λ k d l.
    let low : k < s = omega arith in
    let at = get_or-order b s k d low in
    let lt = probe_slot-lt b s k pos in
    (get_or (order b s) k d, omega (arith, at, lt, length-range_with_len 0 s), get_or-range_with_len 0 s (get_or (order b s) k d) (get_or (order b s) k d) (omega (arith, at, lt)) ∙ omega arith))
    (omega (arith, len, length-range_with_len 0 s))

-- so each slot has a position
pub probe_slot-onto : (b s x : ℕ) → IsSlotCount s → x < s → (p : ℕ) × (p < s) × (probe_slot b s p ≡ x)
probe_slot-onto b s x c l =
    let all : Contains (range_with_len 0 s) x = (x, omega (arith, length-range_with_len 0 s), get_or-range_with_len 0 s x x l ∙ omega arith) in
    let h = Contains-permutation (range_with_len 0 s) (order b s) x (IsPermutation-sym _ _ (order-IsPermutation b s c)) all in
    let low : h.0 < s = omega (arith, h.1, length-order b s) in
    (h.0, low, sym (get_or-order b s h.0 x low) ∙ h.2)

-- ---- the first slot of an order that passes a test
module _ (t : ℕ → Bool) (b s : ℕ) where
  at_position : (p : ℕ) (x : Bool) → p < s → t (probe_slot b s p) ≡ x → t (get_or (order b s) p 0) ≡ x
  at_position p x l e = ap t (get_or-order b s p 0 l) ∙ e

  -- each position before the first that passes fails
  earlier : (p : ℕ) → p < s → ((q : ℕ) → q < p → t (probe_slot b s q) ≡ false) → (q : ℕ) → q < p → t (get_or (order b s) q 0) ≡ false
  earlier p l before q lt = at_position q false (omega arith) (before q lt)

  pub find-order : (p : ℕ) → p < s → t (probe_slot b s p) ≡ true → ((q : ℕ) → q < p → t (probe_slot b s q) ≡ false) → find t (order b s) ≡ Some (probe_slot b s p)
  find-order p l here before = find_is t (order b s) p 0 (omega (arith, length-order b s)) (earlier p l before) (at_position p true l here) ∙ ap Some (get_or-order b s p 0 l)

  pub position-order : (p : ℕ) → p < s → t (probe_slot b s p) ≡ true → ((q : ℕ) → q < p → t (probe_slot b s q) ≡ false) → position t (order b s) ≡ Some p
  position-order p l here before = position_is t (order b s) p 0 (omega (arith, length-order b s)) (earlier p l before) (at_position p true l here)

  -- no position of the order passes
  none_passes : ((q : ℕ) → q < s → t (probe_slot b s q) ≡ false) → (q : ℕ) → q < length (order b s) → t (get_or (order b s) q 0) ≡ false
  none_passes all q lt = let l : q < s = omega (arith, lt, length-order b s) in at_position q false l (all q l)

  pub find-order_none : ((q : ℕ) → q < s → t (probe_slot b s q) ≡ false) → find t (order b s) ≡ None
  find-order_none all = find_none t (order b s) 0 (none_passes all)

  pub position-order_none : ((q : ℕ) → q < s → t (probe_slot b s q) ≡ false) → position t (order b s) ≡ None
  position-order_none all = position_none t (order b s) 0 (none_passes all)

  order_item : (q y : ℕ) → slice_get (order b s) q ≡ Some y → (q < s) × (probe_slot b s q ≡ y)
  order_item q y g =
      let l : q < s = subst (λ n. q < n) (length-order b s) (slice_get_within (order b s) q y g) in
      (l, some_same _ _ (sym (slice_get-order b s q l) ∙ g))

  -- what a search in an order finds is the first slot of it that passes
  pub record IsFirstIn (x : ℕ) : Type 0 where
    pub position : ℕ
    pub within : position < s
    pub slot_is : probe_slot b s position ≡ x
    pub passes : t x ≡ true
    pub before : (q : ℕ) → q < position → t (probe_slot b s q) ≡ false

  -- where a search answers x, x is the first that passes
  pub find-order_some : (x : ℕ) → find t (order b s) ≡ Some x → IsFirstIn x
  find-order_some x e =
      let f = find-Some t (order b s) x e in
      let h = order_item f.position x f.is in
      record {
        position = f.position;
        within = h.0;
        slot_is = h.1;
        passes = f.passes;
        before = λ q l. let lq : q < s = omega (arith, h.0) in f.before q (probe_slot b s q) l (slice_get-order b s q lq);
      }

  -- where it answers none, no position passes
  pub find-order_all : find t (order b s) ≡ None → (q : ℕ) → q < s → t (probe_slot b s q) ≡ false
  find-order_all e q l = find-None t (order b s) e q (probe_slot b s q) (slice_get-order b s q l)
