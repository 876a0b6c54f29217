-- Worked examples: digits of numbers, some at a time.
use Rattle.std.proofs.Common.{◌≡◌, refl, sym, lit<, arith, true≢false}
use Rattle.std.specs.Prelude.{codes}
use Rattle.odht_header.proofs.examples.Apart.{unequal_lists}
use Rattle.odht_tool_core.specs.Digits.{eight_value, four_digits, IsValueOf}

-- ---- eight digits
-- `12345678`: the lowest byte of the word is the first digit
pub eight : eight_value 0x3837363534333231 ≡ 12345678
eight = refl

-- `10000000`, and `00000001`
pub first_and_last : (eight_value 0x3030303030303031 ≡ 10000000) × (eight_value 0x3130303030303030 ≡ 1)
first_and_last = (refl, refl)

-- the least and the greatest
pub least_and_greatest : (eight_value 0x3030303030303030 ≡ 0) × (eight_value 0x3939393939393939 ≡ 99999999)
least_and_greatest = (refl, refl)

-- the highest byte is not the first digit
pub read_backwards : eight_value 0x3837363534333231 ≡ 87654321 → ⊥
read_backwards e = omega (arith, e)

-- nor is a digit left out
pub seven_digits : eight_value 0x3837363534333231 ≡ 1234567 → ⊥
seven_digits e = omega (arith, e)

-- ---- four digits
-- zeros in front, where the number has fewer
pub four : (four_digits 1234 ≡ codes "1234")
    × (four_digits 9999 ≡ codes "9999")
    × (four_digits 50 ≡ codes "0050")
    × (four_digits 0 ≡ codes "0000")
four = (refl, refl, refl, refl)

-- they are not left out
pub without_zeros : four_digits 50 ≡ codes "50" → ⊥
without_zeros = unequal_lists _ _ refl

-- nor is the last digit the first
pub four_backwards : four_digits 1234 ≡ codes "4321" → ⊥
four_backwards = unequal_lists _ _ refl

-- ---- a hexadecimal digit
-- of either case
pub values : IsValueOf 48 0 × IsValueOf 57 9 × IsValueOf 97 10 × IsValueOf 65 10 × IsValueOf 102 15 × IsValueOf 70 15
values = (
  (lit< tt, refl, refl),
  (lit< tt, refl, refl),
  (lit< tt, refl, refl),
  (lit< tt, refl, refl),
  (lit< tt, refl, refl),
  (lit< tt, refl, refl),
)

-- `g`, and the colon after `9`, are none
pub no_digits : (IsValueOf 103 16 → ⊥) × (IsValueOf 103 0 → ⊥) × (IsValueOf 58 10 → ⊥)
no_digits = (λ h. omega (arith, h.0), λ h. true≢false (sym h.1), λ h. true≢false (sym h.1))

-- `b` is not 10, and `A` not 65
pub other_values : (IsValueOf 98 10 → ⊥) × (IsValueOf 65 65 → ⊥)
other_values = (λ h. omega (arith, h.2), λ h. omega (arith, h.0))
