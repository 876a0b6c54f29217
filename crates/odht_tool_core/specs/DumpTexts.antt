-- What `dump` writes of stored bytes in the texts t, with `--json` or without.
--     pairs_as is_json t ps        the line of each of the pairs ps: its texts, or the object of these
--     slot_as is_json F t T i      the line of slot i of the parts T of the format F; nothing for a slot that counts as free
--     slots_as is_json F t T n     those of the first n slots
--     dumped is_slots is_json F t B    of the pairs of the bytes B of the format F, or with `--slots` of their slots; or the
--                                  failure of opening
use Rattle.std.specs.Prelude.{ℕ, Bool, List, flat_map, if◌then◌else◌}
use Rattle.std.specs.List.{range_with_len}
use Rattle.odht_base.specs.Decoded.{decoded_pairs, header_slots}
use Rattle.odht_base.specs.Format.{Format}
use Rattle.odht_base.specs.Table.{Pair}
use Rattle.odht_header.specs.Refusals.{view_refusal}
use Rattle.odht_raw.specs.Dumps.{parts_of}
use Rattle.odht_raw.specs.Parts.{TableParts}
use Rattle.odht_raw.specs.DynParts.{bytes_coding}
use Rattle.odht_tool_core.specs.Endings.{Outcome, opened_outcome}
use Rattle.odht_tool_core.specs.Json.{pair_objects}
use Rattle.odht_tool_core.specs.JsonSlots.{slot_object_at}
use Rattle.odht_tool_core.specs.Slots.{slot_line}
use Rattle.odht_tool_core.specs.StoredTexts.{bare_pairs, key_text, lines_of, value_text}
use Rattle.odht_tool_core.specs.declared.typed.Texts.{Texts}

abbrev pub pairs_as : Bool → Texts → List Pair → List ℕ
pairs_as is_json t ps =
    if is_json then pair_objects (key_text t) (value_text t) (bare_pairs ps) else lines_of t ps

abbrev pub slot_as : Bool → Format → Texts → TableParts → ℕ → List ℕ
slot_as is_json F t T i =
    if is_json then slot_object_at (bytes_coding F) (key_text t) (value_text t) T i
    else slot_line (bytes_coding F) (key_text t) (value_text t) T i

abbrev pub slots_as : Bool → Format → Texts → TableParts → ℕ → List ℕ
slots_as is_json F t T n = flat_map (slot_as is_json F t T) (range_with_len 0 n)

abbrev pub dumped : Bool → Bool → Format → Texts → List ℕ → Outcome
dumped is_slots is_json F t B =
    opened_outcome (view_refusal F B)
    (if is_slots then slots_as is_json F t (parts_of F B) (header_slots B) else pairs_as is_json t (decoded_pairs F B))
