-- What `Debug` writes of a table, in bytes. The text is None where `{:?}` of some key or value promises no text.
--     DebugText                 what `{:?}` writes of a key, or of a value, by its bytes
--     texts_in_turn os          the texts one after the other
--     Of parts T, whose keys and values are written by key_text and value_text:
--     slot_text F .. T i        the line of slot i
--     slots_text F .. T n       the lines of slots 0 to n - 1, in turn
--     head_text name s          the line before those of the slots: s slots, and the name of the hash function
--     dump_text F .. name T     all lines
--     Of the bytes B of an owned table:
--     parts_of F B              their parts
--     counts_text B             the line of the header's numbers
--     owned_dump_text F .. name B   all lines
use Rattle.std.specs.Prelude.{ℕ, List, [], ◌∷◌, ◌++◌, map, slice_index, Option, Some, if◌then◌else◌, codes, decimal}
use Rattle.std.specs.Fmt.{◌++?◌}
use Rattle.std.specs.List.{range_with_len}
use Rattle.odht_raw.specs.Words.{controls_of, counts_as_free, entries_of, Format, header_count, header_factor, header_slots, max_items, percent_of, slot_key, slot_value}
use Rattle.odht_raw.specs.Parts.{TableParts}

abbrev pub DebugText : Type 0
DebugText = List ℕ → Option (List ℕ)

abbrev pub texts_in_turn : List (Option (List ℕ)) → Option (List ℕ)
texts_in_turn [] = Some []
texts_in_turn (o ∷ os) = o ++? texts_in_turn os

abbrev pub slot_text : Format → DebugText → DebugText → TableParts → ℕ → Option (List ℕ)
slot_text F key_text value_text T i =
    let control = slice_index T.control i in
    if counts_as_free control then Some (codes "slot " ++ decimal i ++ codes ": empty\n")
    else Some (codes "slot " ++ decimal i ++ codes ": key=") ++? key_text (slot_key F T.entries.bytes i)
    ++? Some (codes ", value=") ++? value_text (slot_value F T.entries.bytes i)
    ++? Some (codes ", control_byte=" ++ decimal control ++ codes "\n")

abbrev pub slots_text : Format → DebugText → DebugText → TableParts → ℕ → Option (List ℕ)
slots_text F key_text value_text T n = texts_in_turn (map (slot_text F key_text value_text T) (range_with_len 0 n))

abbrev pub head_text : List ℕ → ℕ → List ℕ
head_text name s = codes "RawTable (slot_count=" ++ decimal s ++ codes ", hash_fn=" ++ name ++ codes ") {\n"

abbrev pub dump_text : Format → DebugText → DebugText → List ℕ → TableParts → Option (List ℕ)
dump_text F key_text value_text name T =
    let s = T.entries.slots in
    Some (head_text name s) ++? slots_text F key_text value_text T s ++? Some (codes "}\n")

abbrev pub parts_of : Format → List ℕ → TableParts
parts_of F B = record { control = controls_of F B; entries = record { slots = header_slots B; bytes = entries_of F B } }

abbrev pub counts_text : List ℕ → List ℕ
counts_text B =
    codes "(item_count=" ++ decimal (header_count B)
    ++ codes ", max_item_count=" ++ decimal (max_items (header_slots B) (header_factor B))
    ++ codes ", max_load_factor=" ++ decimal (percent_of (header_factor B)) ++ codes "%)\n"

abbrev pub owned_dump_text : Format → DebugText → DebugText → List ℕ → List ℕ → Option (List ℕ)
owned_dump_text F key_text value_text name B =
    Some (counts_text B) ++? dump_text F key_text value_text name (parts_of F B) ++? Some (codes "\n")
