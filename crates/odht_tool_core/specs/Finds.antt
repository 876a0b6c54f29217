-- The tables inside the bytes of a file.
--     tag_bytes            the bytes with which every table begins
--     has_fields B         nothing is rejected of the load factor, the padding, and the item count that it allows
--     has_front B          B begins with a header of which nothing is rejected, and there are as many bytes as it says
--     has_mirror T         the last sixteen control bytes of the parts T are as the first
--     has_controls B       B opens, the mirror is so, as many slots are occupied as the header says, and all control bytes
--                          agree with a hash function
--     is_table B           B begins with a table
--     is_false B           B begins with a header, but not with a table
--     AreTables B p ts     the offsets ts are those of the tables in B from p on: the first of all, then those behind its end
--     false_slots B p ts   how many slots the headers state in all that begin from p on, outside of the tables ts, and are
--                          not those of tables
--     fits_word T          which hash functions all control bytes of T agree with, with commas between their names
--     table_report at B w  the report of the table B that begins at the offset `at`, where w is what the check says of it
--     IsSeen B l           the look l at the bytes B tells what they begin with
--     IsFindFailure B f    the failure f is that of memory; or that of forged headers, which state more slots than B has
--                          bytes
--     IsRowFailure B f     the failure f is that of the writer; or that of opening the table B
use Rattle.std.specs.Prelude.{◌≡◌, ⊤, ℕ, ◌+◌, ◌*◌, ◌/◌, max, codes, slice_index, ◌<◌, ◌≤◌, Bool, true, false, not, ◌&&◌, ◌==◌, bytes_eq, List, [], ◌∷◌, length, take, drop, map, sum, is_none, is_some, Some, ◌-◌, if◌then◌else◌}
use Rattle.std.specs.List.{range_with_len}
use Rattle.odht_base.specs.Bytes.{bytes_at}
use Rattle.odht_base.specs.Decoded.{header_count, header_slots}
use Rattle.odht_header.specs.Refusals.{factor_refusal, padding_refusal, room_refusal}
use Rattle.odht_tool_core.specs.Fronts.{stated_len, front_refusal}
use Rattle.odht_tool_core.specs.InfoNumbers.{DynParts, file_parts, info_refusal, occupied, agrees, found_hash}
use Rattle.odht_tool_core.specs.Reports.{Said, Told, between, field}
use Rattle.odht_tool_core.specs.Reports.Said.{number, text}
use Rattle.odht_tool_core.specs.declared.failure.Failure.{Failure}
use Rattle.odht_tool_core.specs.declared.failure.Failure.TheVariants.{Memory, Forged, Output, Refused}
use Rattle.odht_tool_core.specs.declared.shapes.Hash.TheVariants.{Fx, Unhash, Xxh64}
use Rattle.odht_tool_core.specs.declared.find.Look.{Look}
use Rattle.odht_tool_core.specs.declared.find.Look.TheVariants.{Table, False, Nothing}

abbrev pub tag_bytes : List ℕ
tag_bytes = codes "ODHT"

abbrev pub has_fields : List ℕ → Bool
has_fields B = is_none (factor_refusal B) && is_none (padding_refusal B) && is_none (room_refusal B)

abbrev pub has_front : List ℕ → Bool
has_front B = is_none (front_refusal B) && has_fields B

abbrev pub has_mirror : DynParts → Bool
has_mirror T = bytes_eq (bytes_at T.control T.slots 16) (bytes_at T.control 0 16)

abbrev pub has_controls : List ℕ → Bool
has_controls B =
    let T = file_parts B in
    is_none (info_refusal B) && has_mirror T && length (occupied T T.slots) == header_count B && is_some (found_hash T)

unfoldable pub is_table : List ℕ → Bool
is_table B = has_front B && has_controls (take (stated_len B) B)

unfoldable pub is_false : List ℕ → Bool
is_false B = has_front B && not (has_controls (take (stated_len B) B))

-- ---- the search
-- no table begins from p on and before q
abbrev pub AreNone : List ℕ → ℕ → ℕ → Type 0
AreNone B p q = (i : ℕ) → p ≤ i → i < q → is_table (drop i B) ≡ false

abbrev pub AreTables : List ℕ → ℕ → List ℕ → Type 0
AreTables B p [] = AreNone B p (length B)
AreTables B p (t ∷ ts) = (p ≤ t) × AreNone B p t × (is_table (drop t B) ≡ true) × AreTables B (t + stated_len (drop t B)) ts

abbrev pub false_slots_at : List ℕ → ℕ → ℕ
false_slots_at B i = if is_false (drop i B) then header_slots (drop i B) else 0

-- of those that begin from p on and before q
abbrev pub false_between : List ℕ → ℕ → ℕ → ℕ
false_between B p q = sum (map (false_slots_at B) (range_with_len p (q - p)))

abbrev pub false_slots : List ℕ → ℕ → List ℕ → ℕ
false_slots B p [] = false_between B p (length B)
false_slots B p (t ∷ ts) = false_between B p t + false_slots B (t + stated_len (drop t B)) ts

abbrev pub IsFindFailure : List ℕ → Failure → Type 0
IsFindFailure B Memory = ⊤
IsFindFailure B Forged = (ts : List ℕ) → AreTables B 0 ts → length B < false_slots B 0 ts
IsFindFailure B _ = ⊥

-- ---- what is told of a table
abbrev pub fits_word : DynParts → List ℕ
fits_word T =
    if agrees T Fx then
    (if agrees T Unhash then (if agrees T Xxh64 then codes "fx,unhash,xxh64" else codes "fx,unhash")
    else (if agrees T Xxh64 then codes "fx,xxh64" else codes "fx"))
    else (if agrees T Unhash then (if agrees T Xxh64 then codes "unhash,xxh64" else codes "unhash")
    else (if agrees T Xxh64 then codes "xxh64" else codes "none"))

-- a tab stands behind it in the line
abbrev pub column : List ℕ → Said → Told
column name s = field name s (between [] (9 ∷ []))

abbrev pub table_report : ℕ → List ℕ → List ℕ → List Told
table_report at B checked =
    column (codes "offset") (number at)
    ∷ column (codes "bytes") (number (length B))
    ∷ column (codes "key_bytes") (number (slice_index B 5))
    ∷ column (codes "value_bytes") (number (slice_index B 6))
    ∷ column (codes "items") (number (header_count B))
    ∷ column (codes "slots") (number (header_slots B))
    ∷ column (codes "load_percent") (number (header_count B * 100 / max (header_slots B) 1))
    ∷ column (codes "hash") (text (fits_word (file_parts B)))
    ∷ field (codes "check") (text checked) (between [] (10 ∷ []))
    ∷ []

abbrev pub IsRowFailure : List ℕ → Failure → Type 0
IsRowFailure B (Output error) = ⊤
IsRowFailure B (Refused error) = info_refusal B ≡ Some error
IsRowFailure B _ = ⊥

abbrev pub IsSeen : List ℕ → Look → Type 0
IsSeen B (Table n) = (is_table B ≡ true) × (n ≡ stated_len B) × (n ≤ length B)
IsSeen B (False n) = (is_table B ≡ false) × (is_false B ≡ true) × (n ≡ header_slots B)
IsSeen B Nothing = (is_table B ≡ false) × (is_false B ≡ false)
