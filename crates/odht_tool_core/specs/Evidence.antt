-- What a table's parts T show of the types of its keys and values, where nothing is said of them.
--     part_at side T i     the key, or the value, of the slot i, by the side
--     parts_to side T n    those of the occupied slots before the slot n, in slot order
--     keys_of T, values_of T   those of all occupied slots
--     is_number_len n      numbers have that many bytes
--     is_padded_text bs    bs are a plain text, with zeros behind it
--     is_letters bs        the bytes of bs up to the zeros at their end are letters, digits and signs of ASCII, or spaces
--     is_short_text bs     at most one byte of bs is before the zeros at their end
--     are_zeros bs         each byte is zero
--     begins_with_zero bs  the first byte of bs is zero
--     ends_with_zero bs    the last byte of bs is zero
--     looks l bs           bs have this look l
--     are_texts vs         all of vs are letters, and not all are short: so they are no numbers
--     are_swapped vs       all of vs begin with a zero, and not all are zeros: so they are big-endian numbers
--     are_numbers vs       vs are such as numbers are, which begin with the lowest byte: more than half of them end with a
--                          zero, and they read neither as letters nor as big-endian numbers
--     key_by_hash n h      new tables of the hash function h have keys of n bytes that are of one type, where none is named:
--                          numbers by fx, and by unhash numbers of 32 bits and hashes of 8 to 32 bytes
--     reads_otherwise T h  by fx the keys read as texts, or as big-endian numbers
--     is_by_hash T h       the keys are of the type that tables of h have: all control bytes agree with no other hash
--                          function, and the keys do not read otherwise
--     shows_key T h        keys have no bytes; or the hash function shows their type; or they are of no length that numbers
--                          have, and not all are plain texts
--     shows_value T        there are no values; they have the length of numbers, and read as numbers; or another one, and
--                          not all are plain texts
--     asked_key B s ks     the failure that B do not show the type of keys, of which ks says none, where s is their shape
--     asked_value B ks     the same of values
--     asked_kinds B s ks   the first of the two
use Rattle.std.specs.Prelude.{ℕ, Bool, false, not, ◌&&◌, ◌||◌, ◌==◌, nat_le, nat_lt, is_none, List, length, map, count_by, ◌/◌, slice_index, Result, Ok, Err, if◌then◌else◌}
use Rattle.std.specs.List.{list_all}
use Rattle.odht_base.specs.Decoded.{slot_key, slot_value}
use Rattle.odht_tool_core.specs.AnyShapes.{any_hash}
use Rattle.odht_tool_core.specs.FoundShapes.{other_hash}
use Rattle.odht_tool_core.specs.InfoNumbers.{DynParts, info_refusal, occupied, file_format, file_parts}
use Rattle.odht_tool_core.specs.PlainTexts.{is_plain, plain_text}
use Rattle.odht_tool_core.specs.declared.any.AnyShape.{AnyShape}
use Rattle.odht_tool_core.specs.declared.evidence.Look.{Look}
use Rattle.odht_tool_core.specs.declared.evidence.Look.TheVariants.{PlainText, Letters, Short, Zeros, FirstZero, LastZero}
use Rattle.odht_tool_core.specs.declared.evidence.Side.{Side}
use Rattle.odht_tool_core.specs.declared.evidence.Side.TheVariants.{Keys, Values}
use Rattle.odht_tool_core.specs.declared.failure.Failure.{Failure}
use Rattle.odht_tool_core.specs.declared.failure.Failure.TheVariants.{UnknownKey, UnknownValue}
use Rattle.odht_tool_core.specs.declared.forms.Kinds.{Kinds}
use Rattle.odht_tool_core.specs.declared.shapes.Hash.{Hash}
use Rattle.odht_tool_core.specs.declared.shapes.Hash.TheVariants.{Fx, Unhash, Xxh64}

abbrev pub part_at : Side → DynParts → ℕ → List ℕ
part_at Keys T i = slot_key (file_format T Fx) T.entries i
part_at Values T i = slot_value (file_format T Fx) T.entries i

abbrev pub parts_to : Side → DynParts → ℕ → List (List ℕ)
parts_to side T n = map (part_at side T) (occupied T n)

abbrev pub keys_of : DynParts → List (List ℕ)
keys_of T = parts_to Keys T T.slots

abbrev pub values_of : DynParts → List (List ℕ)
values_of T = parts_to Values T T.slots

abbrev pub is_number_len : ℕ → Bool
is_number_len n = n == 4 || n == 8

abbrev pub is_padded_text : List ℕ → Bool
is_padded_text bs = list_all is_plain (plain_text bs)

abbrev pub is_letter : ℕ → Bool
is_letter c = nat_le 32 c && nat_le c 126

abbrev pub is_letters : List ℕ → Bool
is_letters bs = list_all is_letter (plain_text bs)

abbrev pub is_short_text : List ℕ → Bool
is_short_text bs = nat_le (length (plain_text bs)) 1

abbrev pub are_zeros : List ℕ → Bool
are_zeros bs = nat_le (length (plain_text bs)) 0

abbrev pub begins_with_zero : List ℕ → Bool
begins_with_zero bs = slice_index bs 0 == 0

abbrev pub ends_with_zero : List ℕ → Bool
ends_with_zero bs = nat_lt (length (plain_text bs)) (length bs)

abbrev pub looks : Look → List ℕ → Bool
looks PlainText bs = is_padded_text bs
looks Letters bs = is_letters bs
looks Short bs = is_short_text bs
looks Zeros bs = are_zeros bs
looks FirstZero bs = begins_with_zero bs
looks LastZero bs = ends_with_zero bs

abbrev pub are_texts : List (List ℕ) → Bool
are_texts vs = list_all is_letters vs && not (list_all is_short_text vs)

abbrev pub are_swapped : List (List ℕ) → Bool
are_swapped vs = list_all begins_with_zero vs && not (list_all are_zeros vs)

abbrev pub are_numbers : List (List ℕ) → Bool
are_numbers vs =
    not (list_all is_letters vs) && not (are_swapped vs) && nat_lt (length vs / 2) (count_by ends_with_zero vs)

abbrev pub key_by_hash : ℕ → Hash → Bool
key_by_hash n Fx = is_number_len n
key_by_hash n Unhash = n == 4 || (nat_le 8 n && nat_le n 32)
key_by_hash n Xxh64 = false

abbrev pub reads_otherwise : DynParts → Hash → Bool
reads_otherwise T Fx = are_texts (keys_of T) || are_swapped (keys_of T)
reads_otherwise T Unhash = false
reads_otherwise T Xxh64 = false

abbrev pub is_by_hash : DynParts → Hash → Bool
is_by_hash T h = key_by_hash T.key_len h && is_none (other_hash T h) && not (reads_otherwise T h)

abbrev pub shows_key : DynParts → Hash → Bool
shows_key T h =
    T.key_len == 0 || is_by_hash T h || (not (is_number_len T.key_len) && not (list_all is_padded_text (keys_of T)))

abbrev pub shows_value : DynParts → Bool
shows_value T =
    T.value_len == 0
    || (if is_number_len T.value_len then are_numbers (values_of T)
    else not (list_all is_padded_text (values_of T)))

abbrev pub key_asked : DynParts → Hash → Kinds → Result (Unit {0}) Failure
key_asked T h ks = if is_none ks.key && not (shows_key T h) then Err (UnknownKey T.key_len) else Ok tt

abbrev pub value_asked : DynParts → Kinds → Result (Unit {0}) Failure
value_asked T ks = if is_none ks.value && not (shows_value T) then Err (UnknownValue T.value_len) else Ok tt

abbrev pub both_asked : Result (Unit {0}) Failure → Result (Unit {0}) Failure → Result (Unit {0}) Failure
both_asked (Ok u) second = second
both_asked (Err failure) second = Err failure

abbrev pub asked_key : List ℕ → AnyShape → Kinds → Result (Unit {0}) Failure
asked_key B s ks = if is_none (info_refusal B) then key_asked (file_parts B) (any_hash s) ks else Ok tt

abbrev pub asked_value : List ℕ → Kinds → Result (Unit {0}) Failure
asked_value B ks = if is_none (info_refusal B) then value_asked (file_parts B) ks else Ok tt

abbrev pub asked_kinds : List ℕ → AnyShape → Kinds → Result (Unit {0}) Failure
asked_kinds B s ks = both_asked (asked_key B s ks) (asked_value B ks)
