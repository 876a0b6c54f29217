-- Worked examples: what `check`, `dump`, `keys` and `find` write with --json.
use Rattle.std.proofs.Common.{◌≡◌, true, false, refl, [], ◌∷◌, Some, None}
use Rattle.std.specs.Prelude.{codes}
use Rattle.std.specs.Char.{encode_utf8}
use Rattle.std.specs.Fmt.{digits}
use Rattle.std.specs.Str.{chars, is_utf8}
use Rattle.odht_base.specs.Bounds.{first_longer}
use Rattle.odht_base.specs.Bytes.{overwritten_at}
use Rattle.odht_header.specs.declared.error.Error.TheVariants.{TooShort}
use Rattle.odht_header.proofs.examples.Opened.{opened}
use Rattle.odht_tool_core.specs.Endings.Outcome.{writes, fails}
use Rattle.odht_tool_core.specs.GroupNumbers.{groups_to}
use Rattle.odht_tool_core.specs.Json.{pair_object, text_object}
use Rattle.odht_tool_core.specs.JsonSlots.{slot_object}
use Rattle.odht_tool_reads.specs.FindLines.{found_text}
use Rattle.odht_tool_reads.specs.Listings.{list_outcome}
use Rattle.odht_tool_reads.specs.Outcomes.{check_outcome, dump_outcome}
use Rattle.odht_tool_core.specs.declared.failure.Failure.TheVariants.{Refused, NoHash, ShortKeys}
use Rattle.odht_tool_core.specs.declared.shapes.Hash.TheVariants.{Unhash}
use Rattle.odht_tool_core.specs.declared.status.Status.TheVariants.{Done, NotDone}
use Rattle.odht_tool_core.specs.declared.typed.Side.TheVariants.{Key, Value}
use Rattle.odht_tool_core.proofs.examples.Forms.{unsaid}
use Rattle.odht_tool_core.proofs.examples.FoundShapes.{other_bytes}
use Rattle.odht_tool_core.proofs.examples.Shapes.{one_bytes}

-- ---- check
-- a valid table, by a bound, and two bytes; keys that are too short for a hash function are a failure, and no rule
pub checked : (check_outcome true (codes "a") one_bytes (Some Unhash) (Some 128) ≡ writes (codes "{\"file\":\"a\",\"valid\":true,\"bound\":128,\"rule\":null}\n") Done)
    × (check_outcome true (codes "a") (79 ∷ 68 ∷ []) None None ≡ writes (codes "{\"file\":\"a\",\"valid\":false,\"bound\":null,\"rule\":\"Provided data has 2 bytes but the header needs 32\"}\n") NotDone)
    × (check_outcome true (codes "a") (overwritten_at one_bytes 5 (3 ∷ [])) (Some Unhash) None ≡ fails (ShortKeys 3))
unfolding opened first_longer digits
checked = (refl, refl, refl)

-- a rule whose text has a quote and a backslash
pub quoted : check_outcome true (codes "\"") (overwritten_at one_bytes 0 (9 ∷ 0x7F ∷ [])) None None ≡ writes (codes "{\"file\":\"\\\"\",\"valid\":false,\"bound\":null,\"rule\":\"not an odht table: it begins with 09 7f 48 54, \\\"\\\\t\\\\x7fHT\\\"\"}\n") NotDone
unfolding opened digits
quoted = refl

-- ---- dump
-- pairs, and slots; of other sizes in hexadecimal digits
pub pairs : (dump_outcome one_bytes (Some Unhash) unsaid false true ≡ writes (codes "{\"key\":\"5\",\"value\":\"7\"}\n") Done)
    × (dump_outcome one_bytes (Some Unhash) unsaid true true ≡ writes (codes "{\"slot\":5,\"control\":0,\"groups\":1,\"key\":\"5\",\"value\":\"7\"}\n") Done)
    × (dump_outcome other_bytes None unsaid false true ≡ writes (codes "{\"key\":\"050000000700\",\"value\":\"0000\"}\n") Done)
    × (dump_outcome other_bytes None unsaid true true ≡ writes (codes "{\"slot\":5,\"control\":0,\"groups\":1,\"key\":\"050000000700\",\"value\":\"0000\"}\n") Done)
unfolding opened digits groups_to chars is_utf8 encode_utf8 pair_object slot_object
pairs = (refl, refl, refl, refl)

-- two bytes, and no hash function that fits
pub refused : (dump_outcome (79 ∷ 68 ∷ []) None unsaid false true ≡ fails (Refused (TooShort 2)))
    × (dump_outcome (overwritten_at one_bytes 165 (1 ∷ [])) None unsaid false true ≡ fails (NoHash 4 4))
unfolding opened
refused = (refl, refl)

-- ---- keys, and values
pub sides : (list_outcome Key one_bytes (Some Unhash) unsaid true ≡ writes (codes "{\"key\":\"5\"}\n") Done)
    × (list_outcome Value one_bytes (Some Unhash) unsaid true ≡ writes (codes "{\"value\":\"7\"}\n") Done)
    × (list_outcome Key (79 ∷ 68 ∷ []) None unsaid true ≡ fails (Refused (TooShort 2)))
unfolding opened digits chars is_utf8 encode_utf8 text_object
sides = (refl, refl, refl)

-- ---- find
-- no table, and one at the byte 0; and its line
pub found : (found_text true (codes "a") 0 (7 ∷ []) None [] ≡ codes "{\"file\":\"a\",\"tables\":[]}\n")
    × (found_text true (codes "a") 0 one_bytes (Some 128) (0 ∷ []) ≡ codes "{\"file\":\"a\",\"tables\":[{\"offset\":0,\"bytes\":192,\"key_bytes\":4,\"value_bytes\":4,\"items\":1,\"slots\":16,\"load_percent\":6,\"hash\":\"unhash\",\"check\":\"valid\"}]}\n")
    × (found_text false (codes "a") 300 one_bytes (Some 128) (0 ∷ []) ≡ codes "300\t192\t4\t4\t1\t16\t6\tunhash\tvalid\n")
unfolding opened first_longer digits
found = (refl, refl, refl)
