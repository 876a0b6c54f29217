-- The positions of the probe order, a piece of a group at a time.
use Rattle.std.proofs.Common.{inl, inr, mul-le-mul_left, ◌≡◌, ℕ, zero, suc, ◌+◌, ◌-◌, ◌*◌, ◌/◌, ◌%◌, ◌^◌, ◌<◌, ◌≤◌, refl, sym, ap, ◌∙◌, arith, bit_and}
use Rattle.odht_raw.proofs.lemmas.Below.{add-mod_right, bit_and-slots, cases_lt, dvd_of_mod-eq-zero, few_slots, mod-add-mod, mod-eq_of_lt, mod-mod_of_dvd, probe_slot-group, probe_slot-lt, zero-mod}
use Rattle.odht_raw.specs.Words.{IsSlotCount, probe_slot}
use Rattle.odht_raw.specs.ProbeSeqs.{IsProbe}

-- the mask of a slot count is a remainder
pub bit_and-mask : (x m : ℕ) → IsSlotCount (m + 1) → bit_and x m ≡ x % (m + 1)
bit_and-mask x m c = let e : m ≡ m + 1 - 1 = omega arith in ap (bit_and x) e ∙ bit_and-slots x (m + 1) c

-- the slots of a group follow each other, around the end
pub probe_slot-step : (b s p i : ℕ) → p % 16 + i < 16 → (probe_slot b s p + i) % s ≡ probe_slot b s (p + i)
probe_slot-step b s p i l =
    let j : (p + i) / 16 ≡ p / 16 = omega arith in
    let r : (p + i) % 16 ≡ p % 16 + i = omega arith in
    mod-add-mod (b + 8 * (p / 16) * (p / 16 + 1) + p % 16) s i
    ∙ ap (λ x. x % s) (sum (b + 8 * (p / 16) * (p / 16 + 1)) (p % 16))
    ∙ sym (ap (λ x. (b + 8 * x * (x + 1) + (p + i) % 16) % s) j ∙ ap (λ x. (b + 8 * (p / 16) * (p / 16 + 1) + x) % s) r)
  where
    sum : (x y : ℕ) → x + y + i ≡ x + (y + i)
    sum x y = omega arith

-- the first slot of a group
first_slot : (b s j : ℕ) → probe_slot b s (16 * j) ≡ (b + 8 * j * (j + 1)) % s
first_slot b s j =
    let e : 16 * j ≡ 16 * j + 0 = omega arith in
    let z : b + 8 * j * (j + 1) + 0 ≡ b + 8 * j * (j + 1) = omega arith in
    ap (probe_slot b s) e ∙ probe_slot-group b s j 0 (omega arith) ∙ ap (λ x. x % s) z

-- and that of the next group
pub next_group : (b s j : ℕ) → (probe_slot b s (16 * j) + (16 * j + 16)) % s ≡ probe_slot b s (16 * (j + 1))
next_group b s j =
    ap (λ x. (x + (16 * j + 16)) % s) (first_slot b s j)
    ∙ mod-add-mod (b + 8 * j * (j + 1)) s (16 * j + 16)
    ∙ ap (λ x. x % s) (omega arith)
    ∙ sym (first_slot b s (j + 1))

-- a multiple of g below another is at least g below it
step_within : (g x y : ℕ) → 0 < g → x % g ≡ 0 → y % g ≡ 0 → x < y → x + g ≤ y
step_within g x y pos ex ey l =
    let qx : x ≡ g * (x / g) = omega arith in
    let qy : y ≡ g * (y / g) = omega arith in
    elim (cases_lt (x / g) (y / g)) [
      | inl below ↦ let h : g * (x / g + 1) ≤ g * (y / g) = mul-le-mul_left g (omega arith) in omega arith
      | inr above ↦ absurd (let h : g * (y / g) ≤ g * (x / g) = mul-le-mul_left g above in omega arith)
    ]

-- what divides sixteen is not zero
pub divisor_pos : (g : ℕ) → 16 % g ≡ 0 → 0 < g
divisor_pos zero e = absurd (omega arith)
divisor_pos (suc g) e = omega arith

-- a home slot is a slot to begin at
pub at_home : (g h m : ℕ) → IsSlotCount (m + 1) → 16 % g ≡ 0 → h < m + 1 → IsProbe g h m 0 h h 0 0
at_home g h m slots divides l =
    let zero_mod : 0 % g ≡ 0 = zero-mod g in
    let here : h ≡ probe_slot h (m + 1) 0 = sym (first_slot h (m + 1) 0 ∙ ap (λ x. x % (m + 1)) (let e : h + 8 * 0 * (0 + 1) ≡ h = omega arith in e) ∙ mod-eq_of_lt {n = h} {m = m + 1} l) in
    record {
      slots = slots;
      divides = divides;
      aligned = zero_mod;
      home_within = l;
      within = omega arith;
      slot_is = here;
      base_is = here;
      chunk_is = refl;
      stride_is = refl;
    }

module _ (g h m p i b c s : ℕ) (at : IsProbe g h m p i b c s) where
  -- a piece stays in its group
  pub room : p % 16 + g ≤ 16
  room = step_within g (p % 16) 16 (divisor_pos g at.divides) (mod-mod_of_dvd g p (dvd_of_mod-eq-zero g at.divides) ∙ at.aligned) at.divides (omega arith)

  -- and so is the first of its group
  pub base_low : b < m + 1
  base_low = omega (arith, at.base_is, probe_slot-lt h (m + 1) (16 * (p / 16)) (omega arith))

  -- the slot is one of the table
  pub slot_low : i < m + 1
  slot_low = omega (arith, at.slot_is, probe_slot-lt h (m + 1) p (omega arith))

  -- the sums of a step fit
  pub stride_fits : b + (s + 16) < 2 ^ 64
  stride_fits = let few = few_slots (m + 1) at.slots in let l = at.within in let e = at.stride_is in omega (arith, base_low)

  -- and so does a short way on from a slot
  pub chunk_fits : (x n : ℕ) → x < m + 1 → n ≤ 16 → x + n < 2 ^ 64
  chunk_fits x n l k = let few = few_slots (m + 1) at.slots in omega arith

  -- on to the next group
  pub to_next_group : p + g < m + 1 → p % 16 + g ≡ 16 → IsProbe g h m (p + g) (bit_and (bit_and (b + (s + 16)) m + 0) m) (bit_and (b + (s + 16)) m) 0 (s + 16)
  to_next_group l full =
      let j : (p + g) / 16 ≡ p / 16 + 1 = omega arith in
      let first : 16 * ((p + g) / 16) ≡ p + g = omega arith in
      let base : bit_and (b + (s + 16)) m ≡ probe_slot h (m + 1) (16 * ((p + g) / 16)) =
      bit_and-mask (b + (s + 16)) m at.slots
      ∙ ap (λ x. (x + (s + 16)) % (m + 1)) at.base_is
      ∙ ap (λ x. (probe_slot h (m + 1) (16 * (p / 16)) + (x + 16)) % (m + 1)) at.stride_is
      ∙ next_group h (m + 1) (p / 16)
      ∙ ap (λ x. probe_slot h (m + 1) (16 * x)) (sym j) in
      record {
        slots = at.slots;
        divides = at.divides;
        aligned = add-mod_right p g ∙ at.aligned;
        home_within = at.home_within;
        within = l;
        slot_is = bit_and-mask (bit_and (b + (s + 16)) m + 0) m at.slots
            ∙ mod-eq_of_lt {n = bit_and (b + (s + 16)) m + 0} {m = m + 1} (omega (arith, base, probe_slot-lt h (m + 1) (16 * ((p + g) / 16)) (omega arith)))
            ∙ (let e : bit_and (b + (s + 16)) m + 0 ≡ bit_and (b + (s + 16)) m = omega arith in e)
            ∙ base ∙ ap (probe_slot h (m + 1)) first;
        base_is = base;
        chunk_is = omega arith;
        stride_is = omega (arith, at.stride_is);
      }

  -- on within the group
  pub to_next_piece : p + g < m + 1 → p % 16 + g < 16 → IsProbe g h m (p + g) (bit_and (b + (c + g)) m) b (c + g) s
  to_next_piece l more =
      let j : (p + g) / 16 ≡ p / 16 = omega arith in
      let r : c + g ≡ (p + g) % 16 = omega (arith, at.chunk_is) in
      let base : b ≡ probe_slot h (m + 1) (16 * ((p + g) / 16)) = at.base_is ∙ ap (λ x. probe_slot h (m + 1) (16 * x)) (sym j) in
      let whole : 16 * ((p + g) / 16) + (p + g) % 16 ≡ p + g = omega arith in
      record {
        slots = at.slots;
        divides = at.divides;
        aligned = add-mod_right p g ∙ at.aligned;
        home_within = at.home_within;
        within = l;
        slot_is = bit_and-mask (b + (c + g)) m at.slots
            ∙ ap (λ x. (x + (c + g)) % (m + 1)) base
            ∙ ap (λ x. (probe_slot h (m + 1) (16 * ((p + g) / 16)) + x) % (m + 1)) r
            ∙ probe_slot-step h (m + 1) (16 * ((p + g) / 16)) ((p + g) % 16) (omega arith)
            ∙ ap (probe_slot h (m + 1)) whole;
        base_is = base;
        chunk_is = r;
        stride_is = omega (arith, at.stride_is);
      }
