-- The slot at a position of a probe order, computed in 64 bits.
use Rattle.std.proofs.Common.{◌≡◌, ◌+◌, ◌-◌, ◌*◌, ◌/◌, ◌%◌, ◌^◌, ◌∙◌, ℕ, bit_and, sym, ap, arith, pow-add}
use Rattle.odht_raw.proofs.lemmas.Below.{bit_and-slots, dvd-mul_right, exponent, mod-add-mod, mod-mod_of_dvd}
use Rattle.odht_raw.specs.Words.{IsSlotCount, probe_slot}

-- sums that wrap leave the same remainder
module _ (h x i s : ℕ) (c : IsSlotCount s) where
  kept : (a : ℕ) → a % 2 ^ 64 % s ≡ a % s
  kept a =
      let e = exponent s c in
      let sum : 64 ≡ e.0 + (64 - e.0) = omega (arith, e.2) in
      let whole : s * 2 ^ (64 - e.0) ≡ 2 ^ 64 = ap (λ n. n * 2 ^ (64 - e.0)) e.3 ∙ sym (pow-add 2 e.0 (64 - e.0)) ∙ ap (λ n. 2 ^ n) (sym sum) in
      ap (λ m. a % m % s) (sym whole) ∙ mod-mod_of_dvd s {b = s * 2 ^ (64 - e.0)} a (dvd-mul_right s (2 ^ (64 - e.0)))

  front : ((h + x % 2 ^ 64) % 2 ^ 64) % s ≡ (h + x) % s
  front =
      let turn : h + x % 2 ^ 64 ≡ x % 2 ^ 64 + h = omega arith in
      let back : x + h ≡ h + x = omega arith in
      kept (h + x % 2 ^ 64) ∙ ap (λ y. y % s) turn ∙ sym (mod-add-mod (x % 2 ^ 64) s h)
      ∙ ap (λ y. (y + h) % s) (kept x) ∙ mod-add-mod x s h ∙ ap (λ y. y % s) back

  wrapped : ((h + x % 2 ^ 64) % 2 ^ 64 + i) % 2 ^ 64 % s ≡ (h + x + i) % s
  wrapped =
      kept ((h + x % 2 ^ 64) % 2 ^ 64 + i) ∙ sym (mod-add-mod ((h + x % 2 ^ 64) % 2 ^ 64) s i)
      ∙ ap (λ y. (y + i) % s) front ∙ mod-add-mod (h + x) s i

-- so this is the slot
pub probed_slot_is : (h s p : ℕ) → IsSlotCount s → bit_and (((h + 8 * (p / 16) * (p / 16 + 1) % 2 ^ 64) % 2 ^ 64 + p % 16) % 2 ^ 64) (s - 1) ≡ probe_slot h s p
probed_slot_is h s p c = bit_and-slots (((h + 8 * (p / 16) * (p / 16 + 1) % 2 ^ 64) % 2 ^ 64 + p % 16) % 2 ^ 64) s c ∙ wrapped h (8 * (p / 16) * (p / 16 + 1)) (p % 16) s c

-- the first slot of a group of the probe order of a hash, whose home is what a mask leaves of it
pub group_begins : (h s g r : ℕ) → IsSlotCount s → r ≡ probe_slot (bit_and h (s - 1)) s (g * 16) → r ≡ probe_slot (h % s) s (16 * g)
group_begins h s g r c is =
    let at : g * 16 ≡ 16 * g = omega arith in
    is ∙ ap (λ b. probe_slot b s (g * 16)) (bit_and-slots h s c) ∙ ap (probe_slot (h % s) s) at
