-- What `dump --slots` writes of bytes B of the coding c, where f and g are the texts of keys and of values.
--     numbers_text i t n       the numbers of a slot, of its control byte and of groups, a tab behind each
--     slot_text f g i t n x    the line of these and of the pair x
--     slot_line c f g T i      the line of slot i of the parts T: its number, its control byte, how many groups a search
--                              for its key reads, and its pair; nothing for a slot that counts as free
--     slots_text c f g T n     those of the first n slots
--     slots_outcome c f g B    those of all, or the failure of opening
use Rattle.std.specs.Prelude.{ℕ, List, [], ◌∷◌, ◌++◌, flat_map, slice_index, decimal, if◌then◌else◌}
use Rattle.std.specs.List.{range_with_len}
use Rattle.odht_base.specs.Decoded.{header_slots, slot_key, slot_value, counts_as_free}
use Rattle.odht_header.specs.Coding.{Coding}
use Rattle.odht_header.specs.Refusals.{view_refusal}
use Rattle.odht_raw.specs.Dumps.{parts_of}
use Rattle.odht_raw.specs.Parts.{TableParts}
use Rattle.odht_tool_core.specs.Endings.{Outcome, opened_outcome}
use Rattle.odht_tool_core.specs.GroupNumbers.{groups_to}
use Rattle.odht_tool_core.specs.Texts.{pair_line}

abbrev pub numbers_text : ℕ → ℕ → ℕ → List ℕ
numbers_text slot control groups = decimal slot ++ (9 ∷ (decimal control ++ (9 ∷ (decimal groups ++ (9 ∷ [])))))

abbrev pub slot_text : {K V : Type 0} → (K → List ℕ) → (V → List ℕ) → ℕ → ℕ → ℕ → K × V → List ℕ
slot_text f g slot control groups x =
    decimal slot ++ (9 ∷ (decimal control ++ (9 ∷ (decimal groups ++ (9 ∷ pair_line f g x)))))

abbrev pub slot_line : {K V : Type 0} → Coding K V → (K → List ℕ) → (V → List ℕ) → TableParts → ℕ → List ℕ
slot_line c f g T i =
    let F = c.format in
    let control = slice_index T.control i in
    let key = slot_key F T.entries.bytes i in
    let value = slot_value F T.entries.bytes i in
    let groups = groups_to (F.hash key) T.entries.slots i in
    if counts_as_free control then []
    else slot_text f g i control groups (c.key_of key, c.value_of value)

abbrev pub slots_text : {K V : Type 0} → Coding K V → (K → List ℕ) → (V → List ℕ) → TableParts → ℕ → List ℕ
slots_text c f g T n = flat_map (slot_line c f g T) (range_with_len 0 n)

abbrev pub slots_outcome : {K V : Type 0} → Coding K V → (K → List ℕ) → (V → List ℕ) → List ℕ → Outcome
slots_outcome c f g B = opened_outcome (view_refusal c.format B) (slots_text c f g (parts_of c.format B) (header_slots B))
