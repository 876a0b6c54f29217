-- Digits of numbers, some at a time, in private contracts.
--     eight_value word    the number that eight digits write, which are the bytes of a word, the first of them the lowest
--     four_digits n       the digits of a number below 10,000, zeros in front where it has fewer than four
--     IsValueOf c v       v is the value of the hexadecimal digit c, of either case
use Rattle.std.specs.Prelude.{◌≡◌, ℕ, ◌+◌, ◌-◌, ◌*◌, ◌/◌, ◌%◌, ◌<◌, true, false, List, [], ◌∷◌}
use Rattle.std.specs.Char.{is_ascii_hexdigit, to_ascii_lowercase}
use Rattle.std.specs.Fmt.{digit_glyph}

abbrev pub pairs_of : ℕ → ℕ
pairs_of word = let digits = word - 0x3030303030303030 in 10 * digits + digits / 0x100

abbrev pub eight_value : ℕ → ℕ
eight_value word =
    let pairs = pairs_of word in
    1000000 * (pairs % 0x100) + 10000 * (pairs / 0x10000 % 0x100) + 100 * (pairs / 0x100000000 % 0x100) + pairs / 0x1000000000000 % 0x100

abbrev pub four_digits : ℕ → List ℕ
four_digits n = (48 + n / 100 / 10) ∷ (48 + n / 100 % 10) ∷ (48 + n % 100 / 10) ∷ (48 + n % 100 % 10) ∷ []

abbrev pub IsValueOf : ℕ → ℕ → Type 0
IsValueOf digit value = (value < 16) × (is_ascii_hexdigit digit ≡ true) × (to_ascii_lowercase digit ≡ digit_glyph false value)
