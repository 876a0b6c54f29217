-- The texts of keys and of values, and the lines that are made of them.
--     IsNumberWord m word     the word is decimal digits, one or more, that write a number below m
--     hex_digits b            the two digits of a byte in base 16, letters in lower case
--     hex_text bytes          those of each byte in turn
--     IsHexWord n word        the word is two hexadecimal digits, of either case, for each of n bytes
--     WritesBytes word bytes  the digits, letters in either case, are the two of each byte in turn
--     pair_line f g x         a line of a key and its value, with the texts f and g, and a tab between them
--     pairs_text f g xs       the line of each pair in turn
--     answer_line f g x       the same of a value that may be absent: then the key alone
--     answers_by l ks os      the line, by l, of each key and its value in turn
--     answers_text f g ks os  the same of these lines
-- A tab is the byte 9, the end of a line the byte 10. A sign is no digit; digits may begin with zeros.
use Rattle.std.specs.Prelude.{◌≡◌, ℕ, ◌*◌, ◌/◌, ◌%◌, ◌<◌, false, List, [], ◌∷◌, ◌++◌, Option, Some, None, length}
use Rattle.std.specs.Char.{is_ascii_hexdigit}
use Rattle.std.specs.Fmt.{digit_glyph}
use Rattle.std.specs.List.{AllPass, flat_map}
use Rattle.std.specs.Str.{str_to_ascii_lowercase}
use Rattle.std.specs.Str.Parse.{IsNumeral, digits_value}

abbrev pub IsNumberWord : ℕ → List ℕ → Type 0
IsNumberWord m word = IsNumeral 10 word × (digits_value 10 word < m)

abbrev pub hex_digits : ℕ → List ℕ
hex_digits b = digit_glyph false (b / 16) ∷ digit_glyph false (b % 16) ∷ []

abbrev pub hex_text : List ℕ → List ℕ
hex_text bytes = flat_map hex_digits bytes

abbrev pub IsHexWord : ℕ → List ℕ → Type 0
IsHexWord n word = (length word ≡ 2 * n) × AllPass is_ascii_hexdigit word

abbrev pub WritesBytes : List ℕ → List ℕ → Type 0
WritesBytes word bytes = str_to_ascii_lowercase word ≡ hex_text bytes

abbrev pub pair_line : {K V : Type 0} → (K → List ℕ) → (V → List ℕ) → K × V → List ℕ
pair_line f g x = f x.0 ++ (9 ∷ (g x.1 ++ (10 ∷ [])))

abbrev pub pairs_text : {K V : Type 0} → (K → List ℕ) → (V → List ℕ) → List (K × V) → List ℕ
pairs_text f g xs = flat_map (pair_line f g) xs

abbrev pub answer_line : {K V : Type 0} → (K → List ℕ) → (V → List ℕ) → K × Option V → List ℕ
answer_line f g (key, Some value) = pair_line f g (key, value)
answer_line f g (key, None) = f key ++ (10 ∷ [])

abbrev pub answers_by : {K V : Type 0} → (K × Option V → List ℕ) → List K → List (Option V) → List ℕ
answers_by l [] values = []
answers_by l (key ∷ keys) [] = []
answers_by l (key ∷ keys) (value ∷ values) = l (key, value) ++ answers_by l keys values

abbrev pub answers_text : {K V : Type 0} → (K → List ℕ) → (V → List ℕ) → List K → List (Option V) → List ℕ
answers_text f g keys values = answers_by (answer_line f g) keys values
