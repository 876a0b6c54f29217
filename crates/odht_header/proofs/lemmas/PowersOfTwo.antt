-- std's test for a power of two, by the digits that are set, is that of a slot count.
use Rattle.std.proofs.Common.{◌≡◌, ◌<◌, ◌+◌, ◌*◌, ◌/◌, ◌%◌, ◌^◌, ◌∙◌, ◌==◌, ℕ, zero, suc, Bool, true, false, sym, ap, arith, refl, inl, inr, count_ones, eqb-true, eq-eqb, true≢false, lit<}
use Rattle.std.specs.Int.Count.{ones, ones_in}
use Rattle.std.proofs.lemmas.Bool.{cases_lt, false_from_ne_true}
use Rattle.std.proofs.lemmas.Nat.{ones_cat, zero_from_ones}
use Rattle.odht_base.specs.Load.{is_power_of_two}
use Rattle.odht_base.proofs.lemmas.SlotCounts.{is_power_of_two-true, is_power_of_two-pow}

-- one digit is its own count
ones_digit : (r : ℕ) → r < 2 → count_ones r ≡ r
unfolding ones ones_in
ones_digit zero h = refl
ones_digit (suc zero) h = refl
ones_digit (suc (suc r)) h = absurd (omega arith)

-- the lowest digit and those of the half
ones_half : (n : ℕ) → count_ones n ≡ count_ones (n / 2) + n % 2
ones_half n =
    let is : n ≡ n / 2 * 2 ^ 1 + n % 2 = omega arith in
    ap count_ones is ∙ ones_cat 1 (n / 2) (n % 2) (omega arith) ∙ ap (λ r. count_ones (n / 2) + r) (ones_digit (n % 2) (omega arith))

-- a power of two has one digit
ones_pow : (e : ℕ) → count_ones (2 ^ e) ≡ 1
unfolding ones ones_in
ones_pow zero = refl
ones_pow (suc e) =
    let half : 2 ^ suc e / 2 ≡ 2 ^ e = omega arith in
    let even : 2 ^ suc e % 2 ≡ 0 = omega arith in
    ones_half (2 ^ suc e) ∙ (λ i. count_ones (half i) + even i) ∙ omega (arith, ones_pow e)

-- a number of one digit is a power of two
pow_ones : (d n : ℕ) → n < 2 ^ d → count_ones n ≡ 1 → (e : ℕ) × (e < d) × (n ≡ 2 ^ e)
pow_ones zero n h one = absurd (let none : n ≡ 0 = omega arith in let z : count_ones n ≡ 0 = ap count_ones none ∙ ones_digit 0 (lit< tt) in omega (arith, one, z))
pow_ones (suc d) n h one = elim (cases_lt (n % 2) 1) [
  | inl even ↦
      let half = ones_half n in
      let p = pow_ones d (n / 2) (omega (arith, h)) (omega (arith, one, half, even)) in
      (suc p.0, omega (arith, p.1), omega (arith, p.2, even))
  | inr odd ↦
      let half = ones_half n in
      let none = zero_from_ones (n / 2) (omega (arith, one, half, odd)) in
      (0, omega arith, omega (arith, none, odd))
]

-- the two tests agree on words
pub same_test : (n : ℕ) → n < 2 ^ 64 → (count_ones n == 1) ≡ is_power_of_two n
same_test n h = go (count_ones n == 1) refl
  where
    go : (b : Bool) → (count_ones n == 1) ≡ b → b ≡ is_power_of_two n
    go true e = let p = pow_ones 64 n h (eqb-true (count_ones n) 1 e) in sym (is_power_of_two-pow n p.0 p.1 p.2)
    go false e = sym (false_from_ne_true _ (λ t.
        let p = is_power_of_two-true n t in
        true≢false (sym (eq-eqb (count_ones n) 1 (ap count_ones p.2 ∙ ones_pow p.0)) ∙ e)))
