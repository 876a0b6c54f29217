-- Texts of JSON.
--     json_byte b          the byte b in a string: a quote or a backslash behind a backslash, a byte below 32 by its number in
--                          base 16, as `\u` and four digits, and any other as it is
--     json_string t        the string of the text t
--     json_field x         a field of an object: its name, and its value
--     more_fields xs       these fields, with a comma before each
--     json_object xs       the object of these fields
--     number_field name n  the field of this name that is the number n, in decimal digits
--     string_field name t  the field of this name that is the string of the text t
--     text_field name t    the same of a text of any bytes: where it is no UTF-8, `_hex` stands behind the name, and the
--                          string has the two digits of each byte in base 16
--     truth b              true or false
--     is_simple b          the byte b is a character of ASCII that stands for itself in a string
--     text_object name t   a line of the object of the field of this name that is a text of any bytes
--     pair_fields f g x    the fields of a key and its value, with the texts f and g
--     pair_object f g x    a line of the object of these
--     pair_objects f g xs  that of each pair in turn
-- A quote is the byte 34, a backslash 92, a colon 58, a comma 44; braces are 123 and 125. The strings of texts in UTF-8 are
-- strings of JSON, whatever their characters are.
use Rattle.std.specs.Prelude.{ℕ, Bool, List, [], ◌∷◌, ◌++◌, codes, decimal, flat_map, nat_lt, ◌==◌, ◌||◌, ◌&&◌, not, if◌then◌else◌}
use Rattle.std.specs.Str.{is_utf8}
use Rattle.odht_tool_core.specs.Texts.{hex_digits, hex_text}

abbrev pub json_byte : ℕ → List ℕ
json_byte b =
    if b == 34 || b == 92 then 92 ∷ b ∷ []
    else if nat_lt b 32 then codes "\\u00" ++ hex_digits b
    else b ∷ []

abbrev pub json_string : List ℕ → List ℕ
json_string text = 34 ∷ (flat_map json_byte text ++ (34 ∷ []))

abbrev pub json_field : List ℕ × List ℕ → List ℕ
json_field x = 34 ∷ (x.0 ++ (34 ∷ 58 ∷ x.1))

abbrev pub more_fields : List (List ℕ × List ℕ) → List ℕ
more_fields xs = flat_map (λ x. 44 ∷ json_field x) xs

abbrev pub json_object : List (List ℕ × List ℕ) → List ℕ
json_object [] = 123 ∷ 125 ∷ []
json_object (x ∷ xs) = 123 ∷ (json_field x ++ (more_fields xs ++ (125 ∷ [])))

-- ---- values
abbrev pub number_field : List ℕ → ℕ → List ℕ × List ℕ
number_field name n = (name, decimal n)

abbrev pub string_field : List ℕ → List ℕ → List ℕ × List ℕ
string_field name text = (name, json_string text)

abbrev pub text_field : List ℕ → List ℕ → List ℕ × List ℕ
text_field name text = if is_utf8 text then string_field name text else string_field (name ++ codes "_hex") (hex_text text)

abbrev pub truth : Bool → List ℕ
truth b = if b then codes "true" else codes "false"

abbrev pub is_simple : ℕ → Bool
is_simple b = nat_lt 31 b && (nat_lt b 128 && (not (b == 34) && not (b == 92)))

unfoldable pub text_object : List ℕ → List ℕ → List ℕ
text_object name text = json_object (text_field name text ∷ []) ++ (10 ∷ [])

-- ---- pairs
abbrev pub pair_fields : {K V : Type 0} → (K → List ℕ) → (V → List ℕ) → K × V → List (List ℕ × List ℕ)
pair_fields f g x = text_field (codes "key") (f x.0) ∷ text_field (codes "value") (g x.1) ∷ []

-- the fields, and the end of the object and of its line
abbrev pub pair_fields_text : {K V : Type 0} → (K → List ℕ) → (V → List ℕ) → K × V → List ℕ
pair_fields_text f g x =
    json_field (text_field (codes "key") (f x.0)) ++ (44 ∷ (json_field (text_field (codes "value") (g x.1)) ++ (125 ∷ 10 ∷ [])))

unfoldable pub pair_object : {K V : Type 0} → (K → List ℕ) → (V → List ℕ) → K × V → List ℕ
pair_object f g x = json_object (pair_fields f g x) ++ (10 ∷ [])

abbrev pub pair_objects : {K V : Type 0} → (K → List ℕ) → (V → List ℕ) → List (K × V) → List ℕ
pair_objects f g xs = flat_map (pair_object f g) xs
