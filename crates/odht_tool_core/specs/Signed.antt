-- Numbers with a sign, of which the two's complement is stored: m numbers in all, those from m / 2 on below zero.
--     signed_text m n      the text of the number of which n is the two's complement
--     is_negative word     the word begins with a hyphen
--     IsSignedWord m word  the word is decimal digits, one or more, of a number below m / 2, or a hyphen and those of a
--                          number up to m / 2
--     signed_value m word  the two's complement of the number that the word writes
-- A hyphen is the byte 45. No other sign is one; digits may begin with zeros, and zero may have a hyphen.
use Rattle.std.specs.Prelude.{Bool, true, false, ℕ, ◌+◌, ◌-◌, ◌/◌, ◌%◌, ◌==◌, nat_lt, List, [], ◌∷◌, drop, decimal, if◌then◌else◌}
use Rattle.std.specs.Str.Parse.{digits_value}
use Rattle.odht_tool_core.specs.Texts.{IsNumberWord}

abbrev pub signed_text : ℕ → ℕ → List ℕ
signed_text m n = if nat_lt n (m / 2) then decimal n else 45 ∷ decimal (m - n)

abbrev pub is_negative : List ℕ → Bool
is_negative [] = false
is_negative (c ∷ rest) = c == 45

-- of the size of a number, behind its hyphen where it has one
abbrev pub IsSizeWord : Bool → ℕ → List ℕ → Type 0
IsSizeWord true half word = IsNumberWord (half + 1) (drop 1 word)
IsSizeWord false half word = IsNumberWord half word

abbrev pub IsSignedWord : ℕ → List ℕ → Type 0
IsSignedWord m word = IsSizeWord (is_negative word) (m / 2) word

abbrev pub signed_value : ℕ → List ℕ → ℕ
signed_value m word = if is_negative word then (m - digits_value 10 (drop 1 word)) % m else digits_value 10 word
