-- Worked examples: texts of JSON.
use Rattle.std.proofs.Common.{◌≡◌, true, false, refl, [], ◌∷◌, Some, None}
use Rattle.std.specs.Prelude.{codes}
use Rattle.std.specs.Fmt.{digits}
use Rattle.std.specs.Char.{encode_utf8}
use Rattle.std.specs.Str.{chars, is_utf8}
use Rattle.odht_header.proofs.examples.Opened.{opened}
use Rattle.odht_tool_core.specs.Finds.{table_report}
use Rattle.odht_tool_core.specs.InfoNumbers.{tallies}
use Rattle.odht_tool_core.specs.InfoReports.{hash_said, hit_said}
use Rattle.odht_tool_core.specs.InfoTexts.{counts_array}
use Rattle.odht_tool_core.specs.Json.{is_simple, json_object, json_string, number_field, pair_object, string_field, text_field, text_object, truth}
use Rattle.odht_tool_core.specs.JsonAnswers.{absent_object, absent_value, answer_in, no_key_line, pair_in, printed_as}
use Rattle.odht_tool_core.specs.JsonSlots.{slot_object}
use Rattle.odht_tool_core.specs.Reports.{report_among, value_json}
use Rattle.odht_tool_core.specs.Texts.{hex_text}
use Rattle.odht_tool_core.specs.declared.shapes.Hash.TheVariants.{Fx}
use Rattle.odht_tool_core.proofs.examples.Shapes.{one_bytes}

-- a quote and a backslash, bytes below 32, and an e with an accent
pub strings : (json_string (codes "a b") ≡ codes "\"a b\"") × (json_string (codes "\"\\") ≡ codes "\"\\\"\\\\\"") × (json_string (10 ∷ 27 ∷ []) ≡ codes "\"\\u000a\\u001b\"") × (json_string (195 ∷ 169 ∷ []) ≡ 34 ∷ 195 ∷ 169 ∷ 34 ∷ [])
strings = (refl, refl, refl, refl)

-- which bytes stand for themselves
pub simple : (is_simple 65 ≡ true) × (is_simple 34 ≡ false) × (is_simple 92 ≡ false) × (is_simple 31 ≡ false) × (is_simple 128 ≡ false)
simple = (refl, refl, refl, refl, refl)

-- no field, and some
pub objects : (json_object [] ≡ codes "{}") × (json_object (number_field (codes "n") 12 ∷ (codes "valid", truth true) ∷ (codes "bound", codes "null") ∷ []) ≡ codes "{\"n\":12,\"valid\":true,\"bound\":null}")
unfolding digits
objects = (refl, refl)

-- the byte 233 alone is no UTF-8
pub texts : (text_field (codes "key") (195 ∷ 169 ∷ []) ≡ string_field (codes "key") (195 ∷ 169 ∷ [])) × (text_field (codes "key") (233 ∷ []) ≡ string_field (codes "key_hex") (codes "e9"))
unfolding chars is_utf8 encode_utf8
texts = (refl, refl)

-- one side of a pair, and where it is no UTF-8
pub sides : (text_object (codes "key") (codes "a\"") ≡ codes "{\"key\":\"a\\\"\"}\n") × (text_object (codes "value") (233 ∷ []) ≡ codes "{\"value_hex\":\"e9\"}\n")
unfolding chars is_utf8 encode_utf8 text_object
sides = (refl, refl)

-- a pair, and that of a slot
pub pairs : (pair_object hex_text hex_text (65 ∷ [], 66 ∷ []) ≡ codes "{\"key\":\"41\",\"value\":\"42\"}\n")
    × (slot_object hex_text hex_text 3 97 1 (65 ∷ [], 66 ∷ []) ≡ codes "{\"slot\":3,\"control\":97,\"groups\":1,\"key\":\"41\",\"value\":\"42\"}\n")
unfolding chars is_utf8 encode_utf8 pair_object slot_object digits
pairs = (refl, refl)

-- the answer to a key, and of a key that is absent; a value of no bytes is there
pub answers : (pair_in true hex_text hex_text (65 ∷ [], Some (66 ∷ [])) ≡ codes "{\"key\":\"41\",\"value\":\"42\"}\n")
    × (pair_in true hex_text hex_text (65 ∷ [], None) ≡ codes "{\"key\":\"41\",\"value\":null}\n")
    × (pair_in true hex_text hex_text (65 ∷ [], Some []) ≡ codes "{\"key\":\"41\",\"value\":\"\"}\n")
    × (pair_in false hex_text hex_text (65 ∷ [], None) ≡ codes "41\n")
unfolding chars is_utf8 encode_utf8 pair_object absent_object
answers = (refl, refl, refl, refl)

-- the value of a key without the key, of one that is absent, and of a word that is no key
pub values : (answer_in (printed_as true true) hex_text hex_text (65 ∷ [], Some (66 ∷ [])) ≡ codes "{\"value\":\"42\"}\n")
    × (answer_in (printed_as true true) hex_text hex_text (65 ∷ [], None) ≡ codes "{\"value\":null}\n")
    × (answer_in (printed_as false true) hex_text hex_text (65 ∷ [], Some (66 ∷ [])) ≡ codes "42\n")
    × (answer_in (printed_as false true) hex_text hex_text (65 ∷ [], None) ≡ codes "\n")
    × (no_key_line (printed_as true true) (120 ∷ []) ≡ codes "{\"value\":null}\n") × (no_key_line (printed_as false true) (120 ∷ []) ≡ codes "\n")
unfolding chars is_utf8 encode_utf8 text_object absent_value
values = (refl, refl, refl, refl, refl, refl)

-- two keys by one group, none by two, one by three; and without a hash function
pub counts : (counts_array (tallies (1 ∷ 3 ∷ 1 ∷ [])) 3 ≡ codes "[2,0,1]") × (counts_array (tallies []) 0 ≡ codes "[]")
    × (value_json (hit_said None (Some 128) 0) ≡ codes "null") × (value_json (hit_said (Some Fx) (Some 128) 3) ≡ codes "3")
    × (value_json (hash_said (Some Fx)) ≡ codes "\"fx\"") × (value_json (hash_said None) ≡ codes "null")
unfolding tallies digits
counts = (refl, refl, refl, refl, refl, refl)

-- a table inside a file, and its line
pub found : (report_among true (table_report 2 one_bytes (codes "valid")) ≡ codes "{\"offset\":2,\"bytes\":192,\"key_bytes\":4,\"value_bytes\":4,\"items\":1,\"slots\":16,\"load_percent\":6,\"hash\":\"unhash\",\"check\":\"valid\"}")
    × (report_among false (table_report 2 one_bytes (codes "valid")) ≡ codes "2\t192\t4\t4\t1\t16\t6\tunhash\tvalid\n")
unfolding opened digits
found = (refl, refl)
