-- In which group of a probe order a slot is.
use Rattle.std.proofs.Common.{◌≡◌, ◌∙◌, ◌⊎◌, inl, inr, ℕ, ◌+◌, ◌-◌, ◌*◌, ◌/◌, ◌%◌, ◌<◌, ◌≤◌, ◌==◌, sym, ap, arith, eq-eqb, ne_eqb}
use Rattle.std.proofs.Math.Nat.{add-mod_right, mod-eq_of_lt}
use Rattle.std.proofs.lemmas.Bool.{cases_lt}
use Rattle.std.specs.Option.{option_map_or}
use Rattle.odht_base.specs.Load.{IsSlotCount}
use Rattle.odht_base.specs.Probe.{probe_slot}
use Rattle.odht_base.proofs.lemmas.Orders.{probe_slot-lt, probe_slot-apart, probe_slot-onto, position-order}
use Rattle.odht_raw.proofs.lemmas.ProbeSteps.{probe_slot-step}
use Rattle.odht_tool_core.specs.GroupNumbers.{groups_to}

-- the group of the position where the slot is
pub groups_at : (h s i p : ℕ) → IsSlotCount s → p < s → probe_slot (h % s) s p ≡ i → groups_to h s i ≡ p / 16 + 1
unfolding groups_to
groups_at h s i p slots low at =
    let here = position-order (λ j. j == i) (h % s) s p low (eq-eqb (probe_slot (h % s) s p) i at)
    (λ q l. ne_eqb (probe_slot (h % s) s q) i (λ e. let same = probe_slot-apart (h % s) s q p slots (omega arith) low (e ∙ sym at) in omega arith)) in
    ap (λ o. option_map_or (λ p. p / 16 + 1) o (s / 16)) here

-- a sum of two numbers below s, modulo s
wrapped : (a x s : ℕ) → a < s → x < s → ((a + x) % s ≡ a + x) ⊎ ((a + x) % s + s ≡ a + x)
wrapped a x s la lx = elim (cases_lt (a + x) s) [
  | inl low ↦ inl (mod-eq_of_lt low)
  | inr high ↦ inr (
      let cut : a + x ≡ (a + x - s) + s = omega arith in
      let rest : (a + x - s) % s ≡ a + x - s = mod-eq_of_lt (let l : a + x - s < s = omega arith in l) in
      let whole = ap (λ n. n % s) cut ∙ add-mod_right (a + x - s) s ∙ rest in
      omega (arith, whole))
]

-- two steps from one slot to the same slot are equal
pub same_steps : (a x y s : ℕ) → a < s → x < s → y < s → (a + x) % s ≡ (a + y) % s → x ≡ y
same_steps a x y s la lx ly e = elim (wrapped a x s la lx) [
  | inl p ↦ elim (wrapped a y s la ly) [ inl q ↦ omega (arith, p, q, e) | inr q ↦ omega (arith, p, q, e) ]
  | inr p ↦ elim (wrapped a y s la ly) [ inl q ↦ omega (arith, p, q, e) | inr q ↦ omega (arith, p, q, e) ]
]

-- a few steps behind the first slot of group g is a slot of that group
pub in_group : (h s g n i : ℕ) → n < 16 → (probe_slot h s (16 * g) + n) % s ≡ i → probe_slot h s (16 * g + n) ≡ i
in_group h s g n i few at = sym (probe_slot-step h s (16 * g) n (omega arith)) ∙ at

-- and sixteen or more behind it is none
pub out_of_group : (h s g n i j : ℕ) → IsSlotCount s → n < s → 16 ≤ n → (probe_slot h s (16 * g) + n) % s ≡ i → j < 16 → probe_slot h s (16 * g + j) ≡ i → ⊥
out_of_group h s g n i j slots low many at few e =
    let start = probe_slot-lt h s (16 * g) (omega (arith, slots.least)) in
    let same = same_steps (probe_slot h s (16 * g)) j n s start (omega (arith, slots.least)) low (probe_slot-step h s (16 * g) j (omega arith) ∙ e ∙ sym at) in
    omega (arith, same)

-- no position of the groups before this one has the slot
abbrev pub IsNotBefore : ℕ → ℕ → ℕ → ℕ → Type 0
IsNotBefore h s i g = (p : ℕ) → p < 16 * g → probe_slot (h % s) s p ≡ i → ⊥

-- then none of one group more
pub not_before_next : (h s i g n : ℕ) → IsSlotCount s → n < s → 16 ≤ n → (probe_slot (h % s) s (16 * g) + n) % s ≡ i → IsNotBefore h s i g → IsNotBefore h s i (g + 1)
not_before_next h s i g n slots low many at before p l e = elim (cases_lt p (16 * g)) [
  | inl earlier ↦ before p earlier e
  | inr here ↦ (
      let place : p ≡ 16 * g + (p - 16 * g) = omega arith in
      out_of_group (h % s) s g n i (p - 16 * g) slots low many at (omega arith) (ap (probe_slot (h % s) s) (sym place) ∙ e))
]

-- but some position of all has it
pub not_before_all : (h s i g : ℕ) → IsSlotCount s → i < s → s ≤ 16 * g → IsNotBefore h s i g → ⊥
not_before_all h s i g slots l all before = let p = probe_slot-onto (h % s) s i slots l in before p.0 (omega (arith, p.1)) p.2
