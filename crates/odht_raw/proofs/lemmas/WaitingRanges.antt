-- Whether one of some adjacent slots waits, by a list of slots that rises.
use Rattle.std.proofs.Common.{◌≡◌, ◌<◌, ◌≤◌, ◌+◌, ◌-◌, ◌%◌, ◌^◌, ◌↔◌, ◌∙◌, inl, inr, ℕ, true, false, sym, ap, subst, List, length, get_or, ltb, arith, Contains}
use Rattle.std.specs.List.Sorted.{IsPartitionPoint}
use Rattle.odht_raw.proofs.lemmas.Below.{add-mod_right, cases_lt, cases_order, get_or_default, ltb-false, ltb-true, mod-eq_of_lt}
use Rattle.odht_raw.specs.Waiting.{waiting, slot_of, AreRising, WaitsWithin, WaitsBehind, IsLeft}
use Rattle.odht_raw.proofs.lemmas.PlacedFirst.{slot_of_waiting}
use Rattle.odht_raw.proofs.lemmas.WaitingSlots.{slot_of-waiting, slots_rise}

-- of the items before the index n, none waits with a slot from a on
abbrev pub NoneBefore : List ℕ → ℕ → ℕ → Type 0
NoneBefore ns a n = (k : ℕ) → k < n → 2 ^ 63 ≤ get_or ns k 0 → slot_of (get_or ns k 0) < a

-- the slots of the items from the index n on are not below b
abbrev pub AllFrom : List ℕ → ℕ → ℕ → Type 0
AllFrom ns b n = (k : ℕ) → n ≤ k → k < length ns → b ≤ slot_of (get_or ns k 0)

-- so it is before the first item whose slot is not below a
pub none_before_point : (ns : List ℕ) (a n : ℕ) → IsPartitionPoint (λ m. ltb (slot_of m) a ≡ true) (λ m. ltb (slot_of m) a ≡ false) ns n → n ≤ length ns → NoneBefore ns a n
none_before_point ns a n point few k l high = ltb-true _ _ (point.0 k 0 (omega (arith, l, few)) l)

pub from_point : (ns : List ℕ) (a n : ℕ) → IsPartitionPoint (λ m. ltb (slot_of m) a ≡ true) (λ m. ltb (slot_of m) a ≡ false) ns n → AllFrom ns a n
from_point ns a n point k l m = ltb-false _ _ (point.1 k 0 l m)

module _ (ns : List ℕ) (up : AreRising ns) where
  -- the items behind an item have no lower slots
  pub from_item : (n b : ℕ) → n < length ns → b ≤ slot_of (get_or ns n 0) → AllFrom ns b n
  from_item n b l high k m within = elim (cases_order n k) [
    | inl same ↦ omega (arith, high, ap (λ i. slot_of (get_or ns i 0)) same)
    | inr differ ↦ elim differ [
      | inl before ↦ omega (arith, high, slots_rise ns up n k 0 before within)
      | inr after ↦ absurd (omega (arith, after, m))
    ]
  ]

  -- an item that waits
  pub waits_at : (a b n : ℕ) → n < length ns → get_or ns n 0 < 2 ^ 64 → 2 ^ 63 ≤ get_or ns n 0 → a ≤ slot_of (get_or ns n 0) → slot_of (get_or ns n 0) < b → WaitsWithin ns a b
  waits_at a b n l fits high low below =
      let is : waiting (slot_of (get_or ns n 0)) ≡ get_or ns n 0 = omega (arith, slot_of_waiting (get_or ns n 0) high fits, high) in
      (slot_of (get_or ns n 0), low, below, (n, l, get_or_default ns n (waiting (slot_of (get_or ns n 0))) 0 l ∙ sym is))

  -- none does, where those before an index are too low or placed, and those from there on are too high
  pub waits_nowhere : (a b n : ℕ) → b ≤ 2 ^ 63 → NoneBefore ns a n → AllFrom ns b n → WaitsWithin ns a b → ⊥
  waits_nowhere a b n small before from w =
      let k = w.3.0 in
      let here : get_or ns k 0 ≡ waiting w.0 = get_or_default ns k 0 (waiting w.0) w.3.1 ∙ w.3.2 in
      let its : slot_of (get_or ns k 0) ≡ w.0 = ap slot_of here ∙ slot_of-waiting w.0 (omega (arith, w.2, small)) in
      elim (cases_order k n) [
        | inl same ↦ omega (arith, from k (omega (arith, same)) w.3.1, its, w.2)
        | inr differ ↦ elim differ [
          | inl low ↦ omega (arith, before k low (omega (arith, here)), its, w.1)
          | inr past ↦ omega (arith, from k (omega (arith, past)) w.3.1, its, w.2)
        ]
      ]

-- ---- slots around the end of s slots
module _ (ns : List ℕ) (s b n : ℕ) where
  -- the slots before the end
  pub behind_inside : b + n ≤ s → WaitsBehind ns s b n ↔ WaitsWithin ns b (b + n)
  behind_inside inside = (
    λ w.
        let is : (b + w.0) % s ≡ b + w.0 = mod-eq_of_lt {n = b + w.0} {m = s} (omega (arith, w.1)) in
        (b + w.0, omega arith, omega (arith, w.1), subst (λ i. Contains ns (waiting i)) is w.2),
    λ w.
        let sum : b + (w.0 - b) ≡ w.0 = omega (arith, w.1) in
        let is : (b + (w.0 - b)) % s ≡ w.0 = ap (λ i. i % s) sum ∙ mod-eq_of_lt {n = w.0} {m = s} (omega (arith, w.2)) in
        (w.0 - b, omega (arith, w.1, w.2), subst (λ i. Contains ns (waiting i)) (sym is) w.3),
  )

  -- from where none waits there is none
  pub behind_left : (i m : ℕ) → IsLeft ns i m → i < s → m ≤ b → b + n ≤ i → WaitsBehind ns s b n → ⊥
  behind_left i m left l low high w =
      let h = (behind_inside (omega (arith, l, high))).0 w in left.none h.0 (omega (arith, low, h.1)) (omega (arith, high, h.2)) h.3

  module _ (past : s < b + n) (low : b < s) (few : n ≤ s) where
    -- the last slots and the first
    pub behind_last : WaitsWithin ns b s → WaitsBehind ns s b n
    behind_last w =
        let sum : b + (w.0 - b) ≡ w.0 = omega (arith, w.1) in
        let is : (b + (w.0 - b)) % s ≡ w.0 = ap (λ i. i % s) sum ∙ mod-eq_of_lt {n = w.0} {m = s} w.2 in
        (w.0 - b, omega (arith, w.1, w.2, past), subst (λ i. Contains ns (waiting i)) (sym is) w.3)

    pub behind_first : WaitsWithin ns 0 (b + n - s) → WaitsBehind ns s b n
    behind_first w =
        let sum : b + (w.0 + s - b) ≡ w.0 + s = omega (arith, low) in
        let is : (b + (w.0 + s - b)) % s ≡ w.0 =
        ap (λ i. i % s) sum ∙ add-mod_right w.0 s ∙ mod-eq_of_lt {n = w.0} {m = s} (omega (arith, w.2, low, few, past)) in
        (w.0 + s - b, omega (arith, w.2, low, past), subst (λ i. Contains ns (waiting i)) (sym is) w.3)

    pub behind_around : WaitsBehind ns s b n → (WaitsWithin ns b s → ⊥) → WaitsWithin ns 0 (b + n - s)
    behind_around w none = elim (cases_lt (b + w.0) s) [
      | inl inside ↦
          let is : (b + w.0) % s ≡ b + w.0 = mod-eq_of_lt {n = b + w.0} {m = s} inside in
          absurd (none (b + w.0, omega arith, inside, subst (λ i. Contains ns (waiting i)) is w.2))
      | inr outside ↦
          let sum : b + w.0 ≡ b + w.0 - s + s = omega (arith, outside) in
          let is : (b + w.0) % s ≡ b + w.0 - s =
          ap (λ i. i % s) sum ∙ add-mod_right (b + w.0 - s) s ∙ mod-eq_of_lt {n = b + w.0 - s} {m = s} (omega (arith, w.1, low, few)) in
          (b + w.0 - s, omega arith, omega (arith, w.1, outside), subst (λ i. Contains ns (waiting i)) is w.2)
    ]
