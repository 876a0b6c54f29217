-- The slots of a table as objects of JSON, by the coding c, where f and g are the texts of keys and of values.
--     number_fields_text i t n     the begin of the object of a slot: its number, its control byte, and a number of groups
--     slot_object f g i t n x      the line of the object of these and of the pair x
--     slot_object_at c f g T i     that of slot i of the parts T, where a search for its key reads n groups; nothing for a
--                                  slot that counts as free
use Rattle.std.specs.Prelude.{ℕ, List, [], ◌∷◌, ◌++◌, slice_index, codes, if◌then◌else◌}
use Rattle.odht_base.specs.Decoded.{slot_key, slot_value, counts_as_free}
use Rattle.odht_header.specs.Coding.{Coding}
use Rattle.odht_raw.specs.Parts.{TableParts}
use Rattle.odht_tool_core.specs.GroupNumbers.{groups_to}
use Rattle.odht_tool_core.specs.Json.{json_field, json_object, number_field, pair_fields}

abbrev pub number_fields_text : ℕ → ℕ → ℕ → List ℕ
number_fields_text slot control groups =
    123 ∷ (json_field (number_field (codes "slot") slot) ++ (44 ∷ (json_field (number_field (codes "control") control) ++ (44 ∷ (json_field (number_field (codes "groups") groups) ++ (44 ∷ []))))))

unfoldable pub slot_object : {K V : Type 0} → (K → List ℕ) → (V → List ℕ) → ℕ → ℕ → ℕ → K × V → List ℕ
slot_object f g slot control groups x =
    json_object (number_field (codes "slot") slot ∷ number_field (codes "control") control ∷ number_field (codes "groups") groups ∷ pair_fields f g x)
    ++ (10 ∷ [])

abbrev pub slot_object_at : {K V : Type 0} → Coding K V → (K → List ℕ) → (V → List ℕ) → TableParts → ℕ → List ℕ
slot_object_at c f g T i =
    let F = c.format in
    let control = slice_index T.control i in
    let key = slot_key F T.entries.bytes i in
    let value = slot_value F T.entries.bytes i in
    let groups = groups_to (F.hash key) T.entries.slots i in
    if counts_as_free control then []
    else slot_object f g i control groups (c.key_of key, c.value_of value)
