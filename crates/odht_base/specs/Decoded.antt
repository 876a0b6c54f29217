-- What bytes decode to as a table, also bytes that are no valid table.
--     Of parts, es the entries' bytes and ctrl the control bytes with their mirror:
--     slot_entry F es i      the entry of slot i; slot_key and slot_value are its two ends
--     counts_as_free c       the control byte c is 128 or more
--     decoded_cell F es ctrl i   slot i decoded: free where its own control byte counts as free, else its key and value
--     decoded_cells F es ctrl    the same of each slot
--     Of all bytes B of a table, as long as the header says, at the offsets of the header's slot count:
--     header_count B, header_slots B, header_factor B      the header's item count, slot count and load factor
--     entries_of F B, controls_of F B                      the two parts
--     control_at F B i     control byte i; the mirror is control bytes s to s + 15
--     key_at F B i, value_at F B i    the two ends of the entry of slot i
--     decoded_table F B    the table of the header's load factor and the decoded cells
--     decoded_pairs F B    the pairs of that table: the entries whose own control byte is below 128, in slot order
--     HoldsKey F B k       some slot's entry has the key k, whatever its control byte
--     Stores F B k v       some slot's entry is the key k and the value v, whatever its control byte
use Rattle.std.specs.Prelude.{◌≡◌, ℕ, ◌+◌, ◌-◌, ◌*◌, ◌<◌, Bool, nat_le, List, length, take, drop, map, slice_index, Option, Some, None, if◌then◌else◌}
use Rattle.std.specs.List.{range_with_len}
use Rattle.odht_base.specs.Bytes.{bytes_at}
use Rattle.odht_base.specs.Format.{Format, entry_len}
use Rattle.odht_base.specs.Numbers.{num}
use Rattle.odht_base.specs.Table.{Pair, Table, Cells, walk}

abbrev pub slot_entry : Format → List ℕ → ℕ → List ℕ
slot_entry F es i = bytes_at es (i * entry_len F) (entry_len F)

abbrev pub slot_key : Format → List ℕ → ℕ → List ℕ
slot_key F es i = take F.key_len (slot_entry F es i)

abbrev pub slot_value : Format → List ℕ → ℕ → List ℕ
slot_value F es i = drop F.key_len (slot_entry F es i)

abbrev pub counts_as_free : ℕ → Bool
counts_as_free c = nat_le 128 c

abbrev pub decoded_cell : Format → List ℕ → List ℕ → ℕ → Option Pair
decoded_cell F es ctrl i =
    if counts_as_free (slice_index ctrl i) then None
    else Some (record { key = slot_key F es i; value = slot_value F es i })

unfoldable pub decoded_cells : Format → List ℕ → List ℕ → Cells
decoded_cells F es ctrl = map (decoded_cell F es ctrl) (range_with_len 0 (length ctrl - 16))

abbrev pub header_count : List ℕ → ℕ
header_count B = num (bytes_at B 8 8)

abbrev pub header_slots : List ℕ → ℕ
header_slots B = num (bytes_at B 16 8)

abbrev pub header_factor : List ℕ → ℕ
header_factor B = num (bytes_at B 28 2)

abbrev pub entries_of : Format → List ℕ → List ℕ
entries_of F B = bytes_at B 32 (header_slots B * entry_len F)

abbrev pub controls_of : Format → List ℕ → List ℕ
controls_of F B = drop (32 + header_slots B * entry_len F) B

abbrev pub control_at : Format → List ℕ → ℕ → ℕ
control_at F B i = slice_index (controls_of F B) i

abbrev pub key_at : Format → List ℕ → ℕ → List ℕ
key_at F B i = slot_key F (entries_of F B) i

abbrev pub value_at : Format → List ℕ → ℕ → List ℕ
value_at F B i = slot_value F (entries_of F B) i

abbrev pub decoded_table : Format → List ℕ → Table
decoded_table F B = record { factor = header_factor B; cells = decoded_cells F (entries_of F B) (controls_of F B) }

abbrev pub decoded_pairs : Format → List ℕ → List Pair
decoded_pairs F B = walk (decoded_table F B)

abbrev pub HoldsKey : Format → List ℕ → List ℕ → Type 0
HoldsKey F B k = (i : ℕ) × (i < header_slots B) × (key_at F B i ≡ k)

abbrev pub Stores : Format → List ℕ → List ℕ → List ℕ → Type 0
Stores F B k v = (i : ℕ) × (i < header_slots B) × (key_at F B i ≡ k) × (value_at F B i ≡ v)
