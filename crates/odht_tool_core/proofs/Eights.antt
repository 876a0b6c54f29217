-- Eight digits in a word, and in the lanes of a vector.
use Rattle.std.proofs.Common.{◌≡◌, ◌∙◌, ℕ, zero, suc, ◌+◌, ◌-◌, ◌*◌, ◌/◌, ◌%◌, ◌^◌, ◌<◌, ◌≤◌, Bool, true, false, cond, List, [], ◌∷◌, length, map, replicate, nat_lt, sym, ap, ap₂, refl, arith, w8, w64, le-ltb}
use Rattle.std.specs.Char.{digit_value}
use Rattle.std.specs.Int.{from_le_bytes}
use Rattle.std.specs.Str.Parse.{AllDigits, digits_value}
use Rattle.std.proofs.lemmas.Bool.{ltb-false}
use Rattle.std.proofs.lemmas.Simd.{bitmask_splat, mask_l-mod}
use Rattle.std.proofs.lemmas.List.{length-map}
use Rattle.std.proofs.lemmas.Str.{digit_value_digit}
use Rattle.std.proofs.lemmas.Str.Parse.{digit_from_value}
use Rattle.odht_tool_core.specs.Digits.{pairs_of, eight_value}
use lib.Lanes.{mask_l, zip2, top}

-- ---- in a word
-- a number by its two lowest bytes and the rest
two_bytes : (n p q r : ℕ) → n ≡ p + 256 * (q + 256 * r) → p < 256 → q < 256 → (n % 256 ≡ p) × (n / 65536 ≡ r)
two_bytes n p q r e l m = (omega (arith, e), omega (arith, e))

-- what is read of eight digits
pub record AreRead (bytes : List ℕ) : Type 0 where
  pub low : 0x3030303030303030 ≤ from_le_bytes w64 bytes
  pub high : from_le_bytes w64 bytes ≤ 0x3939393939393939
  pub value : eight_value (from_le_bytes w64 bytes) ≡ digits_value 10 bytes

-- a digit and its value
digit_is : (c : ℕ) → digit_value c < 10 → digit_value c + 48 ≡ c
digit_is c l = digit_value_digit c (digit_from_value c l)

-- the value of a word of eight digits
of_digits : (word a b c d e f g h : ℕ) → a < 10 → b < 10 → c < 10 → d < 10 → e < 10 → f < 10 → g < 10 → h < 10
    → word ≡ a + 256 * (b + 256 * (c + 256 * (d + 256 * (e + 256 * (f + 256 * (g + 256 * h)))))) + 0x3030303030303030
    → eight_value word ≡ 10000000 * a + 1000000 * b + 100000 * c + 10000 * d + 1000 * e + 100 * f + 10 * g + h
of_digits word a b c d e f g h la lb lc ld le lf lg lh is =
    let digits = word - 0x3030303030303030 in
    let rest = b + 256 * (c + 256 * (d + 256 * (e + 256 * (f + 256 * (g + 256 * h))))) in
    let whole : digits ≡ a + 256 * rest = omega (arith, is) in
    let tenth : digits / 256 ≡ rest = omega (arith, whole) in
    let pairs = pairs_of word in
    let sum : pairs ≡ (10 * a + b) + 256 * ((10 * b + c) + 256 * ((10 * c + d) + 256 * ((10 * d + e) + 256 * ((10 * e + f) + 256 * ((10 * f + g) + 256 * ((10 * g + h) + 256 * (10 * h))))))) = omega (arith, whole, tenth) in
    let first = two_bytes pairs (10 * a + b) (10 * b + c) ((10 * c + d) + 256 * ((10 * d + e) + 256 * ((10 * e + f) + 256 * ((10 * f + g) + 256 * ((10 * g + h) + 256 * (10 * h)))))) sum (omega arith) (omega arith) in
    let second = two_bytes (pairs / 65536) (10 * c + d) (10 * d + e) ((10 * e + f) + 256 * ((10 * f + g) + 256 * ((10 * g + h) + 256 * (10 * h)))) first.1 (omega arith) (omega arith) in
    let third = two_bytes (pairs / 65536 / 65536) (10 * e + f) (10 * f + g) ((10 * g + h) + 256 * (10 * h)) second.1 (omega arith) (omega arith) in
    let last : pairs / 65536 / 65536 / 65536 % 256 ≡ 10 * g + h = omega (arith, third.1) in
    let four : pairs / 65536 / 65536 ≡ pairs / 0x100000000 = omega arith in
    let six : pairs / 65536 / 65536 / 65536 ≡ pairs / 0x1000000000000 = omega arith in
    omega (arith, first.0, second.0, third.0, last, ap (λ n. n % 256) four, ap (λ n. n % 256) six)

pub eight_read : (bytes : List ℕ) → length bytes ≡ 8 → AllDigits 10 bytes → AreRead bytes
eight_read (a ∷ b ∷ c ∷ d ∷ e ∷ f ∷ g ∷ h ∷ []) l k =
    let da = digit_is a k.0 in
    let db = digit_is b k.1.0 in
    let dc = digit_is c k.1.1.0 in
    let dd = digit_is d k.1.1.1.0 in
    let de = digit_is e k.1.1.1.1.0 in
    let df = digit_is f k.1.1.1.1.1.0 in
    let dg = digit_is g k.1.1.1.1.1.1.0 in
    let dh = digit_is h k.1.1.1.1.1.1.1.0 in
    let word = from_le_bytes w64 (a ∷ b ∷ c ∷ d ∷ e ∷ f ∷ g ∷ h ∷ []) in
    let sum : word ≡ digit_value a + 256 * (digit_value b + 256 * (digit_value c + 256 * (digit_value d + 256 * (digit_value e + 256 * (digit_value f + 256 * (digit_value g + 256 * digit_value h)))))) + 0x3030303030303030 = omega (arith, da, db, dc, dd, de, df, dg, dh) in
    let value = of_digits word (digit_value a) (digit_value b) (digit_value c) (digit_value d) (digit_value e) (digit_value f) (digit_value g) (digit_value h)
    k.0 k.1.0 k.1.1.0 k.1.1.1.0 k.1.1.1.1.0 k.1.1.1.1.1.0 k.1.1.1.1.1.1.0 k.1.1.1.1.1.1.1.0 sum in
    record { low = omega (arith, sum); high = omega (arith, sum, k.0, k.1.0, k.1.1.0, k.1.1.1.0, k.1.1.1.1.0, k.1.1.1.1.1.0, k.1.1.1.1.1.1.0, k.1.1.1.1.1.1.1.0); value = omega (arith, value) }
eight_read bytes l k = absurd (omega (arith, l))

-- ---- in lanes
-- an empty mask has no bit
empty_parts : (b : Bool) (m : ℕ) → cond b 1 0 + 2 * m ≡ 0 → (b ≡ false) × (m ≡ 0)
empty_parts true m e = absurd (omega (arith, e))
empty_parts false m e = (refl, omega (arith, e))

digits_from_masks : (ds : List ℕ) → mask_l (map (λ x. nat_lt x 48) ds) ≡ 0 → mask_l (map (λ x. nat_lt 57 x) ds) ≡ 0 → AllDigits 10 ds
digits_from_masks [] h k = tt
digits_from_masks (c ∷ cs) h k =
    let below = empty_parts (nat_lt c 48) (mask_l (map (λ x. nat_lt x 48) cs)) h in
    let above = empty_parts (nat_lt 57 c) (mask_l (map (λ x. nat_lt 57 x) cs)) k in
    let low : 48 ≤ c = ltb-false c 48 below.0 in
    let high : c ≤ 57 = ltb-false 57 c above.0 in
    let digit = digit_value_digit c (omega arith) in
    (omega (arith, digit, high), digits_from_masks cs below.1 above.1)

-- and digits have empty masks
mask_of_digits : (t : ℕ → Bool) (ds : List ℕ) → ((c : ℕ) → digit_value c < 10 → t c ≡ false) → AllDigits 10 ds → mask_l (map t ds) ≡ 0
mask_of_digits t [] f h = refl
mask_of_digits t (c ∷ cs) f h = ap (λ b. cond b 1 0 + 2 * mask_l (map t cs)) (f c h.0) ∙ omega (arith, mask_of_digits t cs f h.1)

abbrev below_mask : List ℕ → ℕ
below_mask bytes = mask_l (map (top 7) (zip2 (λ a b. cond (nat_lt a b) (2 ^ 8 - 1) 0) bytes (replicate 8 48))) % 2 ^ 64

abbrev above_mask : List ℕ → ℕ
above_mask bytes = mask_l (map (top 7) (zip2 (λ a b. cond (nat_lt a b) (2 ^ 8 - 1) 0) (replicate 8 57) bytes)) % 2 ^ 64

-- a lane's highest bit is its answer
top_byte : (b : Bool) → top 7 (cond b 255 0) ≡ b
top_byte true = refl
top_byte false = refl

-- lanes with which one byte is compared
tests_left : (x n : ℕ) (ys : List ℕ) → length ys ≡ n → map (top 7) (zip2 (λ a b. cond (nat_lt a b) 255 0) (replicate n x) ys) ≡ map (λ y. nat_lt x y) ys
tests_left x zero [] l = refl
tests_left x (suc n) [] l = absurd (omega (arith, l))
tests_left x zero (y ∷ ys) l = absurd (omega (arith, l))
tests_left x (suc n) (y ∷ ys) l = ap₂ (λ b bs. b ∷ bs) (top_byte (nat_lt x y)) (tests_left x n ys (omega (arith, l)))

above_is : (bytes : List ℕ) → length bytes ≡ 8 → above_mask bytes ≡ mask_l (map (λ y. nat_lt 57 y) bytes)
above_is bytes long =
    let tests = map (λ y. nat_lt 57 y) bytes in
    let few : length tests ≤ 64 = omega (arith, length-map bytes (λ y. nat_lt 57 y)) in
    ap (λ bs. mask_l bs % 2 ^ 64) (tests_left 57 8 bytes long) ∙ mask_l-mod tests 64 few

module _ (bytes : List ℕ) (long : length bytes ≡ 8) where
  pub digits_in_lanes : below_mask bytes ≡ 0 → above_mask bytes ≡ 0 → AllDigits 10 bytes
  digits_in_lanes h k =
      digits_from_masks bytes (sym (bitmask_splat w8 (λ a b. nat_lt a b) bytes 8 48 long (omega arith)) ∙ h) (sym (above_is bytes long) ∙ k)

  pub none_below : AllDigits 10 bytes → below_mask bytes ≡ 0
  none_below h =
      bitmask_splat w8 (λ a b. nat_lt a b) bytes 8 48 long (omega arith)
      ∙ mask_of_digits (λ x. nat_lt x 48) bytes (λ c l. let digit = digit_from_value c l in le-ltb c 48 (omega arith)) h

  pub none_above : AllDigits 10 bytes → above_mask bytes ≡ 0
  none_above h =
      above_is bytes long
      ∙ mask_of_digits (λ x. nat_lt 57 x) bytes (λ c l. let digit = digit_from_value c l in le-ltb 57 c (omega arith)) h
