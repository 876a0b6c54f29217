-- The digits of a number, two and four at a time.
use Rattle.std.proofs.Common.{inl, inr, drop, ◌≡◌, ◌∙◌, ℕ, zero, suc, ◌+◌, ◌-◌, ◌/◌, ◌%◌, ◌^◌, ◌<◌, ◌≤◌, List, ◌∷◌, ◌++◌, sym, ap, refl, arith}
use Rattle.std.specs.Fmt.{decimal}
use Rattle.std.proofs.lemmas.Bool.{cases_lt}
use Rattle.odht_tool_core.specs.Digits.{four_digits}
use Rattle.std.proofs.lemmas.Fmt.{decimal_digit, decimal_step}
use Rattle.std.proofs.lemmas.List.{append_assoc}

-- a number of one digit, and of two
pub one_digit : (n : ℕ) (rest : List ℕ) → n < 10 → (48 + n) ∷ rest ≡ decimal n ++ rest
one_digit n rest l = ap (λ ds. ds ++ rest) (sym (decimal_digit n l))

pub two_digits : (n : ℕ) (rest : List ℕ) → 10 ≤ n → n < 100 → (48 + n / 10) ∷ (48 + n % 10) ∷ rest ≡ decimal n ++ rest
two_digits n rest low l = rw (decimal_step n low (omega arith), decimal_digit (n / 10) (omega arith)) refl

-- the last two digits, and those in front
pub last_two : (n : ℕ) (rest : List ℕ) → 100 ≤ n → n < 2 ^ 64 → decimal (n / 100) ++ ((48 + n % 100 / 10) ∷ (48 + n % 100 % 10) ∷ rest) ≡ decimal n ++ rest
last_two n rest low l =
    let front : n / 10 / 10 ≡ n / 100 = omega arith in
    let tens : n / 10 % 10 ≡ n % 100 / 10 = omega arith in
    let ones : n % 10 ≡ n % 100 % 10 = omega arith in
    rw (decimal_step n (omega arith) l, decimal_step (n / 10) (omega arith) (omega arith), append_assoc, append_assoc, front, tens, ones) refl

-- the last four
pub last_four : (n : ℕ) (rest : List ℕ) → 10000 ≤ n → n < 2 ^ 64
    → decimal (n / 10000) ++ ((48 + n % 10000 / 100 / 10) ∷ (48 + n % 10000 / 100 % 10) ∷ (48 + n % 10000 % 100 / 10) ∷ (48 + n % 10000 % 100 % 10) ∷ rest) ≡ decimal n ++ rest
last_four n rest low l =
    let m = n / 100 in
    let front : m / 100 ≡ n / 10000 = omega arith in
    let high : m % 100 ≡ n % 10000 / 100 = omega arith in
    let last : n % 100 ≡ n % 10000 % 100 = omega arith in
    rw (← front, ← high, ← last) (last_two m _ (omega arith) (omega arith) ∙ last_two n rest (omega arith) l)

-- without a zero in front they are all, of one digit or two
pub one_or_two : (n k : ℕ) (rest : List ℕ) → n < 100 → (10 ≤ n → k ≡ 1) → (n < 10 → k ≡ 0) → drop (1 - k) ((48 + n / 10) ∷ (48 + n % 10) ∷ rest) ≡ decimal n ++ rest
one_or_two n k rest l two one =
    elim (cases_lt n 10) [
      | inl few ↦
          let left : 1 - k ≡ 1 = omega (arith, one few) in
          let last : n % 10 ≡ n = omega arith in
          rw (left, last) (one_digit n rest few)
      | inr more ↦
          let left : 1 - k ≡ 0 = omega (arith, two more) in
          rw left (two_digits n rest more l)
    ]

-- or of three or four
pub three_or_four : (n k : ℕ) (rest : List ℕ) → 100 ≤ n → n < 10000 → (1000 ≤ n → k ≡ 1) → (n < 1000 → k ≡ 0) → drop (1 - k) (four_digits n ++ rest) ≡ decimal n ++ rest
three_or_four n k rest m l four three =
    elim (cases_lt n 1000) [
      | inl few ↦
          let left : 1 - k ≡ 1 = omega (arith, three few) in
          let first : n / 100 % 10 ≡ n / 100 = omega arith in
          rw (left, first) (one_digit (n / 100) _ (omega arith) ∙ last_two n rest m (omega arith))
      | inr more ↦
          let left : 1 - k ≡ 0 = omega (arith, four more) in
          rw left (two_digits (n / 100) _ (omega arith) (omega arith) ∙ last_two n rest m (omega arith))
    ]

-- a quotient by a hundred has two digits fewer, and by ten thousand four
pub two_fewer : (n end : ℕ) → 100 ≤ n → n < 10 ^ end → (3 ≤ end) × (n / 100 < 10 ^ (end - 2))
two_fewer n zero low l = absurd (omega arith)
two_fewer n (suc zero) low l = absurd (omega arith)
two_fewer n (suc (suc zero)) low l = absurd (omega arith)
two_fewer n (suc (suc (suc k))) low l =
    let left : suc (suc (suc k)) - 2 ≡ suc k = omega arith in
    (omega arith, rw left (omega arith))

pub four_fewer : (n end : ℕ) → 10000 ≤ n → n < 10 ^ end → (5 ≤ end) × (n / 10000 < 10 ^ (end - 4))
four_fewer n end low l =
    let once = two_fewer n end (omega arith) l in
    let twice = two_fewer (n / 100) (end - 2) (omega arith) once.1 in
    let left : end - 2 - 2 ≡ end - 4 = omega arith in
    let same : n / 100 / 100 ≡ n / 10000 = omega arith in
    (omega (arith, twice.0), rw (same, left) at twice.1)
