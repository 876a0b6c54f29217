-- The last slot that a pass has left to wait.
use Rattle.std.proofs.Common.{◌≡◌, ◌<◌, ◌≤◌, ◌≢◌, ◌+◌, ◌-◌, ◌^◌, ◌∙◌, inl, inr, ℕ, ap, List, length, get_or, set, arith, Contains, get_or-set_other, get_or-set_same}
use Rattle.odht_raw.proofs.lemmas.Below.{cases_lt, cases_order, get_or_default}
use Rattle.odht_raw.specs.Waiting.{waiting, slot_of, AreRising, IsLeft}
use Rattle.odht_raw.proofs.lemmas.PlacedFirst.{slot_of_waiting}
use Rattle.odht_raw.proofs.lemmas.WaitingSlots.{slot_of-waiting, slots_rise}

-- of the items of a list before the index `at`, none waits with a slot from m on; and where m is not 0, one waits with the
-- slot before m
pub record IsLeftBefore (ns : List ℕ) (at m : ℕ) : Type 0 where
  pub below : (k : ℕ) → k < at → 2 ^ 63 ≤ get_or ns k 0 → get_or ns k 0 < 2 ^ 63 + m
  pub last : 0 < m → (k : ℕ) × (k < at) × (get_or ns k 0 ≡ waiting (m - 1))

-- before the first
pub left_none : (ns : List ℕ) → IsLeftBefore ns 0 0
left_none ns = record { below = λ k l. absurd (omega (arith, l)); last = λ l. absurd (omega (arith, l)) }

-- an item that is placed
pub left_placed : (ns : List ℕ) (at m i : ℕ) → IsLeftBefore ns at m → at < length ns → i < 2 ^ 63 → IsLeftBefore (set ns at i) (at + 1) m
left_placed ns at m i left l low = record {
  below = λ k b high. elim (cases_lt k at) [
    | inl before ↦
        let ne : k ≢ at = omega (arith, before) in
        let kept : get_or (set ns at i) k 0 ≡ get_or ns k 0 = rw get_or-set_other in
        omega (arith, kept, left.below k before (omega (arith, high, kept)))
    | inr past ↦
        let here : at ≡ k = omega (arith, past, b) in
        let is : get_or (set ns at i) at 0 ≡ i = rw get_or-set_same in
        absurd (omega (arith, low, is, high, ap (λ n. get_or (set ns at i) n 0) here))
  ];
  last = λ some.
      let w = left.last some in
      let before : w.0 < at = w.1 in
      let ne : w.0 ≢ at = omega (arith, before) in
      let kept : get_or (set ns at i) w.0 0 ≡ get_or ns w.0 0 = rw get_or-set_other in
      (w.0, omega (arith, before), kept ∙ w.2);
}

module _ (ns : List ℕ) (rise : AreRising ns) (at m : ℕ) (left : IsLeftBefore ns at m) (fit : (k : ℕ) → k < length ns → get_or ns k 0 < 2 ^ 64)
    (l : at < length ns) (waits : 2 ^ 63 ≤ get_or ns at 0) where
  -- the slot of the next item
  abbrev next : ℕ
  next = get_or ns at 0 - 2 ^ 63

  next_is : slot_of (get_or ns at 0) ≡ next
  next_is = slot_of_waiting (get_or ns at 0) waits (fit at l)

  -- that one is below it
  left_low : m ≤ next
  left_low = elim (cases_lt 0 m) [
    | inl some ↦
        let w = left.last some in
        let here : slot_of (get_or ns w.0 0) ≡ m - 1 = ap slot_of w.2 ∙ slot_of-waiting (m - 1) (omega (arith, fit w.0 (omega (arith, w.1, l)), w.2)) in
        omega (arith, here, slots_rise ns rise w.0 at 0 w.1 l, next_is)
    | inr none ↦ omega (arith, none)
  ]

  -- and it is the last below it that waits
  pub left_below : IsLeft ns next m
  left_below = record {
    low = left_low;
    last = λ some.
        let w = left.last some in
        let inside : w.0 < length ns = omega (arith, w.1, l) in
        (w.0, inside, get_or_default ns w.0 (waiting (m - 1)) 0 inside ∙ w.2);
    none = λ j from below w.
        let here : get_or ns w.0 0 ≡ waiting j = get_or_default ns w.0 0 (waiting j) w.1 ∙ w.2 in
        let its : slot_of (get_or ns w.0 0) ≡ j = ap slot_of here ∙ slot_of-waiting j (omega (arith, fit w.0 w.1, here)) in
        elim (cases_order w.0 at) [
          | inl same ↦ omega (arith, its, next_is, below, ap (λ k. slot_of (get_or ns k 0)) same)
          | inr differ ↦ elim differ [
            | inl before ↦ omega (arith, left.below w.0 before (omega (arith, here)), here, from)
            | inr after ↦ omega (arith, slots_rise ns rise at w.0 0 after w.1, its, next_is, below)
          ]
        ];
  }

  -- the next item waits
  pub next_listed : Contains ns (waiting next)
  next_listed = (at, l, get_or_default ns at (waiting next) 0 l ∙ omega (arith, waits))

  -- where it is left, it is the last
  pub left_next : IsLeftBefore ns (at + 1) (next + 1)
  left_next = record {
    below = λ k b high. elim (cases_lt k at) [
      | inl before ↦ omega (arith, left.below k before high, left_low)
      | inr past ↦ let here : k ≡ at = omega (arith, past, b) in omega (arith, ap (λ n. get_or ns n 0) here, waits)
    ];
    last = λ some. (at, omega arith, omega (arith, waits));
  }
