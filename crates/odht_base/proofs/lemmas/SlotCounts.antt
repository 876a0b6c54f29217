-- Slot counts: the powers of two from 16 to 2 ^ 63.
use Rattle.std.proofs.Common.{◌≡◌, ℕ, ◌^◌, ◌<◌, ◌≤◌, ◌*◌, ◌+◌, ◌-◌, ◌%◌, ◌==◌, bit_and, inl, inr, sym, ap, ◌∙◌, arith, true, eqb-true, get_or, pow_mono, pow-add}
use Rattle.std.proofs.lemmas.Bool.{cases_lt, eq-eqb}
use Rattle.std.proofs.lemmas.Nat.{and_mask}
use Rattle.std.proofs.lemmas.List.FromFn.{length-map-range_with_len, get_or-map-range_with_len}
use Rattle.std.proofs.lemmas.List.Folds.{Any-from_list_any, list_any_at}
use Rattle.odht_base.specs.Load.{is_power_of_two, IsSlotCount, powers_of_two}

-- what passes the test is a power of two up to 2 ^ 63
pub is_power_of_two-true : (s : ℕ) → is_power_of_two s ≡ true → (e : ℕ) × (e < 64) × (s ≡ 2 ^ e)
unfolding is_power_of_two
is_power_of_two-true s h =
    let a = Any-from_list_any (λ t. s == t) powers_of_two h in
    let low : a.0 < 64 = omega (arith, a.2, length-map-range_with_len (λ e. 2 ^ e) 0 64) in
    (a.0, low, eqb-true s a.1 a.4 ∙ sym a.3 ∙ get_or-map-range_with_len (λ e. 2 ^ e) 0 64 a.0 a.0 a.1 low (omega arith))

-- and each of these passes
pub is_power_of_two-pow : (s e : ℕ) → e < 64 → s ≡ 2 ^ e → is_power_of_two s ≡ true
unfolding is_power_of_two
is_power_of_two-pow s e low is =
    let n = length-map-range_with_len (λ d. 2 ^ d) 0 64 in
    let at = get_or-map-range_with_len (λ d. 2 ^ d) 0 64 e e 0 low (omega arith) in
    list_any_at (λ t. s == t) powers_of_two e 0 (omega arith) (eq-eqb s (get_or powers_of_two e 0) (is ∙ sym at))

-- the exponent of a slot count
pub exponent : (s : ℕ) → IsSlotCount s → (e : ℕ) × (4 ≤ e) × (e < 64) × (s ≡ 2 ^ e)
exponent s c =
    let p = is_power_of_two-true s c.power in
    elim (cases_lt p.0 4) [
      | inl small ↦ absurd (let m : 2 ^ p.0 ≤ 2 ^ 3 = pow_mono {i = p.0} {j = 3} (omega arith) in omega (arith, c.least, p.2))
      | inr large ↦ (p.0, large, p.1, p.2)
    ]

-- a power of two from 2 ^ 4 to 2 ^ 63 is a slot count
pub IsSlotCount-pow : (s e : ℕ) → 4 ≤ e → e < 64 → s ≡ 2 ^ e → IsSlotCount s
IsSlotCount-pow s e lo hi is = record {
  power = is_power_of_two-pow s e hi is;
  least = let m : 2 ^ 4 ≤ 2 ^ e = pow_mono {i = 4} {j = e} lo in omega arith;
}

-- a slot count is a number of whole groups
pub sixteens : (s : ℕ) → IsSlotCount s → (m : ℕ) × (m < 60) × (s ≡ 16 * 2 ^ m)
sixteens s c =
    let x = exponent s c in
    let e : x.0 ≡ 4 + (x.0 - 4) = omega (arith, x.1) in
    (x.0 - 4, omega (arith, x.1, x.2), x.3 ∙ ap (λ n. 2 ^ n) e ∙ pow-add 2 4 (x.0 - 4))

-- so there is a slot
pub slots_pos : (s : ℕ) → IsSlotCount s → 0 < s
slots_pos s c = let h = c.least in omega arith

-- a slot count is at most 2 ^ 63
pub few_slots : (s : ℕ) → IsSlotCount s → s ≤ 2 ^ 63
few_slots s c = let x = exponent s c in let h : 2 ^ x.0 ≤ 2 ^ 63 = pow_mono {i = x.0} {j = 63} (omega (arith, x.2)) in omega (arith, x.3)

-- so it fits 8 bytes
pub slots_fit : (s : ℕ) → IsSlotCount s → s < 256 ^ 8
slots_fit s c = let h = few_slots s c in omega arith

-- ---- by a mask
-- a mask of the slot count less one keeps the number modulo the slot count
pub bit_and-slots : (x s : ℕ) → IsSlotCount s → bit_and x (s - 1) ≡ x % s
bit_and-slots x s c =
    let e = exponent s c in
    let mask : s - 1 ≡ 2 ^ e.0 - 1 = omega (arith, e.3) in
    ap (bit_and x) mask ∙ and_mask x e.0 ∙ ap (λ m. x % m) (sym e.3)
