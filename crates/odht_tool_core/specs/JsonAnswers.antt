-- Keys that were looked up, and their values, as `get` writes them.
--     answer_object f g x  a line of the object of a key and its value, with the texts f and g: that of a pair; where the
--                          value is absent it is null, as no value that is there is
--     no_key_text w        the text of a word w that is the text of no key: w itself, or where it has a tab, NUL or line
--                          end, as messages show it
--     word_in j w          the line of such a word: with j an object, in which the value is null, and else this text
--     pair_in j f g x      the line of a key and its value: with j this object, and else their texts
--     absent_line j        the line of a value that is absent: with j an object, in which it is null, and else an empty line
--     value_line j g o     the line of a value, which may be absent: with j the object of it, and else its text
--     value_in j g x       the same of the value of a key
--     printed_as j v       what is printed: with j objects of JSON, with v values without their keys
--     no_key_line p w      the line of a word that is the text of no key, with what p says is printed of it
--     answer_in p f g x    the same of a key and its value
use Rattle.std.specs.Prelude.{ℕ, Bool, true, false, List, [], ◌∷◌, ◌++◌, codes, Option, Some, None, if◌then◌else◌}
use Rattle.odht_tool_core.specs.Json.{json_object, pair_object, text_field, text_object}
use Rattle.std.specs.List.{list_all}
use Rattle.odht_tool_core.specs.PlainTexts.{is_plain}
use Rattle.odht_tool_core.specs.Shown.{shown_text}
use Rattle.odht_tool_core.specs.Texts.{answer_line}
use Rattle.odht_tool_core.specs.declared.json.answers.Printed.{Printed}

unfoldable pub absent_object : List ℕ → List ℕ
absent_object key = json_object (text_field (codes "key") key ∷ (codes "value", codes "null") ∷ []) ++ (10 ∷ [])

abbrev pub answer_object : {K V : Type 0} → (K → List ℕ) → (V → List ℕ) → K × Option V → List ℕ
answer_object f g (key, Some value) = pair_object f g (key, value)
answer_object f g (key, None) = absent_object (f key)

abbrev pub no_key_text : List ℕ → List ℕ
no_key_text word = if list_all is_plain word then word else shown_text word

abbrev pub word_in : Bool → List ℕ → List ℕ
word_in true word = absent_object word
word_in false word = no_key_text word ++ (10 ∷ [])

abbrev pub pair_in : {K V : Type 0} → Bool → (K → List ℕ) → (V → List ℕ) → K × Option V → List ℕ
pair_in true f g x = answer_object f g x
pair_in false f g x = answer_line f g x

-- ---- values without their keys
unfoldable pub absent_value : List ℕ
absent_value = json_object ((codes "value", codes "null") ∷ []) ++ (10 ∷ [])

abbrev pub absent_line : Bool → List ℕ
absent_line true = absent_value
absent_line false = 10 ∷ []

abbrev pub value_line : {V : Type 0} → Bool → (V → List ℕ) → Option V → List ℕ
value_line true g (Some value) = text_object (codes "value") (g value)
value_line false g (Some value) = g value ++ (10 ∷ [])
value_line j g None = absent_line j

abbrev pub value_in : {K V : Type 0} → Bool → (V → List ℕ) → K × Option V → List ℕ
value_in j g x = value_line j g x.1

-- ---- as is asked for
abbrev pub printed_as : Bool → Bool → Printed
printed_as is_json is_values = record { is_json = is_json; is_values = is_values }

abbrev pub no_key_line : Printed → List ℕ → List ℕ
no_key_line p word = if p.is_values then absent_line p.is_json else word_in p.is_json word

abbrev pub answer_in : {K V : Type 0} → Printed → (K → List ℕ) → (V → List ℕ) → K × Option V → List ℕ
answer_in p f g x = if p.is_values then value_in p.is_json g x else pair_in p.is_json f g x
