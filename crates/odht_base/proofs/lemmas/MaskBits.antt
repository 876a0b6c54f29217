-- The set bits of a mask.
use Rattle.std.proofs.Common.{◌≡◌, ℕ, zero, suc, ◌+◌, ◌-◌, ◌*◌, ◌/◌, ◌%◌, ◌^◌, ◌<◌, ◌≤◌, Bool, true, false, cond, not, List, [], ◌∷◌, length, map, drop, IsTrue, ◌↔◌, true≢false, refl, sym, ap, ◌∙◌, arith, Some, None, bit_and, nat_eq, nat_lt}
use Rattle.std.proofs.lemmas.Option.{none-some}
use Rattle.std.specs.Prelude.{slice_get}
use Rattle.std.specs.List.{position, position_or_len}
use lib.Bits.{and_step, and_self, and_zero_l}
use lib.Count.{count_trailing_zeros, under}
use lib.Lanes.{mask_l}
use borrow.Author.Tests.{lt-ltb, le-ltb, ltb-true, ltb-false, ne_eqb}
use Rattle.odht_base.specs.Masks.{bits_from, set_bits}
use Rattle.odht_base.proofs.lemmas.MarkedPositions.{positions_of}

-- an even mask has its lowest bit clear
pub even_step : (k i n m : ℕ) → n ≡ 2 * m → bits_from (suc k) i n ≡ bits_from k (i + 1) m
unfolding bits_from
even_step k i n m e =
    let low : n % 2 ≡ 0 = omega arith in
    let rest : n / 2 ≡ m = omega arith in
    rw (low, rest) refl

-- an odd mask has its lowest bit set
pub odd_step : (k i n m : ℕ) → n ≡ 2 * m + 1 → bits_from (suc k) i n ≡ i ∷ bits_from k (i + 1) m
unfolding bits_from
odd_step k i n m e =
    let low : n % 2 ≡ 1 = omega arith in
    let rest : n / 2 ≡ m = omega arith in
    rw (low, rest) refl

-- no bit of zero is set
pub no_bits : (k i : ℕ) → bits_from k i 0 ≡ []
unfolding bits_from
no_bits zero i = refl
no_bits (suc k) i = no_bits k (i + 1)

-- the first position, by the lowest bit
low_by : (k i n d : ℕ) → n % 2 ≡ d → 0 < n → (0 < n / 2 → slice_get (bits_from k (i + 1) (n / 2)) 0 ≡ Some (i + 1 + count_trailing_zeros k (n / 2)))
    → slice_get (cond (nat_eq d 1) (i ∷ bits_from k (i + 1) (n / 2)) (bits_from k (i + 1) (n / 2))) 0 ≡ Some (i + under d (count_trailing_zeros k (n / 2)))
low_by k i n zero e p ih = ih (omega arith) ∙ ap Some (omega arith)
low_by k i n (suc zero) e p ih = ap Some (omega arith)
low_by k i n (suc (suc d)) e p ih = absurd (omega arith)

-- the first position is the count of trailing zeros
pub lowest : (k i n : ℕ) → 0 < n → n < 2 ^ k → slice_get (bits_from k i n) 0 ≡ Some (i + count_trailing_zeros k n)
unfolding bits_from count_trailing_zeros
lowest zero i n p q = absurd (omega arith)
lowest (suc k) i n p q = low_by k i n (n % 2) refl p (λ h. lowest k (i + 1) (n / 2) h (omega arith))

-- so a mask is empty exactly where it is zero
pub none_set : (n : ℕ) → n < 2 ^ 64 → IsTrue (nat_eq n 0) ↔ (set_bits n ≡ [])
none_set zero l = (λ t. no_bits 64 0, λ e. refl)
none_set (suc n) l = (
  λ t. absurd (true≢false (sym t ∙ ne_eqb (suc n) 0 (λ e. absurd (omega (arith, e))))),
  λ e. absurd (none-some _ (sym (ap (λ xs. slice_get xs 0) e) ∙ lowest 64 0 (suc n) (omega arith) l)),
)

-- the positions that are left, by the lowest bit
rest_by : (k i n d : ℕ) → n % 2 ≡ d → 0 < n → (0 < n / 2 → bits_from k (i + 1) (bit_and (n / 2) (n / 2 - 1)) ≡ drop 1 (bits_from k (i + 1) (n / 2)))
    → bits_from (suc k) i (bit_and n (n - 1)) ≡ drop 1 (cond (nat_eq d 1) (i ∷ bits_from k (i + 1) (n / 2)) (bits_from k (i + 1) (n / 2)))
rest_by k i n zero e p ih =
    let half : (n - 1) / 2 ≡ n / 2 - 1 = omega arith in
    let both : bit_and n (n - 1) ≡ 2 * bit_and (n / 2) (n / 2 - 1) = and_step n (n - 1) ∙ rw half (omega arith) in
    even_step k i (bit_and n (n - 1)) (bit_and (n / 2) (n / 2 - 1)) both ∙ ih (omega arith)
rest_by k i n (suc zero) e p ih =
    let half : (n - 1) / 2 ≡ n / 2 = omega arith in
    let both : bit_and n (n - 1) ≡ 2 * (n / 2) = and_step n (n - 1) ∙ rw (half, and_self (n / 2)) (omega arith) in
    even_step k i (bit_and n (n - 1)) (n / 2) both
rest_by k i n (suc (suc d)) e p ih = absurd (omega arith)

-- a mask that is not zero, and-ed with the number below, loses its first position
rest_of : (k i n : ℕ) → 0 < n → n < 2 ^ k → bits_from k i (bit_and n (n - 1)) ≡ drop 1 (bits_from k i n)
unfolding bits_from
rest_of zero i n p q = absurd (omega arith)
rest_of (suc k) i n p q = rest_by k i n (n % 2) refl p (λ h. rest_of k (i + 1) (n / 2) h (omega arith))

-- so does a mask of 64 bits, where the number below wraps
pub without_lowest : (n : ℕ) → n < 2 ^ 64 → set_bits (bit_and n ((n + 18446744073709551615) % 18446744073709551616)) ≡ drop 1 (set_bits n)
without_lowest zero l = rw (and_zero_l 18446744073709551615, no_bits 64 0) refl
without_lowest (suc n) l =
    let e : (suc n + 18446744073709551615) % 18446744073709551616 ≡ suc n - 1 = omega arith in
    rw e (rest_of 64 0 (suc n) (omega arith) l)

-- so does a mask of sixteen bits
pub without_lowest_lane : (n : ℕ) → n < 2 ^ 16 → set_bits (bit_and n ((n + 65535) % 65536)) ≡ drop 1 (set_bits n)
without_lowest_lane zero l = rw (and_zero_l 65535, no_bits 64 0) refl
without_lowest_lane (suc n) l =
    let e : (suc n + 65535) % 65536 ≡ suc n - 1 = omega arith in
    rw e (rest_of 64 0 (suc n) (omega arith) (omega arith))

-- ---- a mask of lanes
-- a mask of answers has the positions of the true ones
pub bits_mask : (k i : ℕ) (bs : List Bool) → length bs ≤ k → bits_from k i (mask_l bs) ≡ positions_of i bs
bits_mask k i [] l = no_bits k i
bits_mask zero i (b ∷ bs) l = absurd (omega arith)
bits_mask (suc k) i (true ∷ bs) l = odd_step k i (mask_l (true ∷ bs)) (mask_l bs) (omega arith) ∙ ap (λ r. i ∷ r) (bits_mask k (i + 1) bs (omega arith))
bits_mask (suc k) i (false ∷ bs) l = even_step k i (mask_l (false ∷ bs)) (mask_l bs) (omega arith) ∙ bits_mask k (i + 1) bs (omega arith)

-- ---- the first position
-- the first position, by the first answer
first_by : (b : Bool) (i r n : ℕ) (rest : List ℕ) → slice_get rest 0 ≡ cond (nat_lt r n) (Some (i + 1 + r)) None
    → slice_get (cond b (i ∷ rest) rest) 0 ≡ cond (nat_lt (cond (not b) (1 + r) 0) (suc n)) (Some (i + cond (not b) (1 + r) 0)) None
first_by true i r n rest e = rw (lt-ltb 0 (suc n) (omega arith)) (ap Some (omega arith))
first_by false i r n rest e =
    let same : i + 1 + r ≡ i + (1 + r) = omega arith in
    let test : nat_lt r n ≡ nat_lt (1 + r) (suc n) = grind (arith, lt-ltb, le-ltb, ltb-true, ltb-false) in
    e ∙ rw (same, test) refl

-- the first position of a true answer, counted from i on
first_position : {X : Type 0} (p : X → Bool) (i : ℕ) (xs : List X) → slice_get (positions_of i (map p xs)) 0 ≡ cond (nat_lt (position_or_len p xs) (length xs)) (Some (i + position_or_len p xs)) None
first_position p i [] = refl
first_position p i (x ∷ xs) = first_by (p x) i (position_or_len p xs) (length xs) (positions_of (i + 1) (map p xs)) (first_position p (i + 1) xs)

-- the first position where a test passes
pub first_is_position : {X : Type 0} (p : X → Bool) (xs : List X) → slice_get (positions_of 0 (map p xs)) 0 ≡ position p xs
first_is_position p xs = first_position p 0 xs ∙ rw (let e : 0 + position_or_len p xs ≡ position_or_len p xs = omega arith in e) refl
