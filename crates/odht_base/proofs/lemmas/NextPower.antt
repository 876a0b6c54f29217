-- The least slot count of n items is the next power of two from the fewest slots that hold them.
use Rattle.std.proofs.Common.{◌≡◌, ◌<◌, ◌≤◌, ◌*◌, ◌/◌, ◌^◌, ℕ, suc, inl, inr, arith, pow_mono, pow-suc, mul-le-mul_right, None}
use Rattle.std.specs.Prelude.{max}
use Rattle.std.specs.Int.{div_ceil}
use Rattle.std.proofs.Math.Nat.{le-max_left, le-max_right}
use Rattle.std.proofs.lemmas.Bool.{cases_lt}
use Rattle.odht_base.specs.Load.{slots_for, IsSlotCount, IsLeastSlots}
use Rattle.odht_base.proofs.lemmas.Least.{slots_for-none}
use Rattle.odht_base.proofs.lemmas.SlotCounts.{exponent, IsSlotCount-pow, few_slots}

-- a quotient rounded up is enough
pub div_ceil-enough : (x d : ℕ) → 1 ≤ d → x ≤ div_ceil x d * d
div_ceil-enough x d pos = grind arith

-- and the least that is
pub div_ceil-least : (x d n : ℕ) → 1 ≤ d → x ≤ n * d → div_ceil x d ≤ n
div_ceil-least x d n pos h = grind arith

-- the exponents of powers of two are in their order
pow-lt : (d e : ℕ) → 2 ^ d < 2 ^ e → d < e
pow-lt d e h = elim (cases_lt d e) [ inl l ↦ l | inr m ↦ absurd (let p : 2 ^ e ≤ 2 ^ d = pow_mono {i = e} {j = d} m in omega arith) ]

module _ (n f : ℕ) (pos : 1 ≤ f) where
  -- the fewest slots that hold the items
  abbrev occupied : ℕ
  occupied = div_ceil (n * 65536) f

  -- as many slots hold them
  occupied-holds : (s : ℕ) → occupied ≤ s → 65536 * n ≤ s * f
  occupied-holds s h =
      let enough = div_ceil-enough (n * 65536) f pos in
      let more : occupied * f ≤ s * f = mul-le-mul_right f h in
      omega arith

  -- and no fewer do
  occupied-least : (t : ℕ) → 65536 * n ≤ t * f → occupied ≤ t
  occupied-least t h = div_ceil-least (n * 65536) f t pos (omega arith)

  pub next-IsLeastSlots : (e s : ℕ) → s ≡ 2 ^ e → max occupied 16 ≤ s → s / 2 < max 1 (max occupied 16) → occupied ≤ 2 ^ 63 → IsLeastSlots n f s
  next-IsLeastSlots e s is low high few = record {
    is_count = IsSlotCount-pow s e four sixty_four is;
    holds = occupied-holds s (omega (arith, le-max_left occupied 16));
    least = least;
  }
    where
      four : 4 ≤ e
      four = pow-lt 3 e (omega (arith, le-max_right occupied 16))

      -- half of a higher power is as large
      half : (d : ℕ) → d < e → 2 ^ d ≤ s / 2
      half d l =
          let p : 2 ^ suc d ≤ 2 ^ e = pow_mono {i = suc d} {j = e} (omega arith) in
          let q = pow-suc 2 d in
          omega (arith, is)

      sixty_four : e < 64
      sixty_four = elim (cases_lt e 64) [ inl l ↦ l | inr m ↦ absurd (let h = half 63 (omega arith) in omega arith) ]

      least : (t : ℕ) → IsSlotCount t → 65536 * n ≤ t * f → s ≤ t
      least t c h =
          let x = exponent t c in
          elim (cases_lt x.0 e) [
            | inl l ↦ absurd (let p = half x.0 l in let m = occupied-least t h in omega (arith, x.3, c.least))
            | inr m ↦ let p : 2 ^ e ≤ 2 ^ x.0 = pow_mono {i = e} {j = x.0} m in omega (arith, is, x.3)
          ]

  -- more than 2 ^ 63 are in no slot count
  pub next_none : 2 ^ 63 < occupied → slots_for n f ≡ None
  next_none many = slots_for-none n f (λ t c h. let m = occupied-least t h in let k = few_slots t c in omega arith)
