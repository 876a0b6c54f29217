-- What a walk over the slots gives, in slot order.
--     decoded c p          the key and the value of the pair p
--     decoded_all c ps     the same of each pair
--     decoded_items f g xs the keys and the values of items, decoded by f and g
--     decoded_numbered f g xs    the same of items that have slot numbers, each with its number
--     Item K V             a control byte and an entry, which holds a key and a value as byte arrays
--     stored f g x         the pair of an item's key and value, which f and g encode
--     item f g c p         the control byte c and the entry of the pair p, whose byte arrays are made by f and g
--     slot_item f g F T i  the item of slot i of the parts T; None where its control byte counts as free
--     items_of f g F T is  the items of these slots
--     items_from f g F T i the items of the slots from i on
--     slot_numbered f g F T i    slot i and its item; None where its control byte counts as free
--     numbered_of f g F T is     the same of these slots
--     numbered_from f g F T i    the same of the slots from i on
--     decoded_slots c xs   the decoded key and value of each pair, with its slot number
--     AreOccupied T b is     slot b + i is one of T and does not count as free, for each i of is
use Rattle.std.specs.Prelude.{ℕ, ◌+◌, ◌-◌, ◌<◌, All, IsFalse, List, map, slice_index, Option, option_map}
use Rattle.std.specs.List.{range_with_len, filter_map}
use Rattle.odht_raw.specs.Words.{Coding, counts_as_free, decoded_cell, Format, Pair}
use Rattle.odht_raw.specs.Parts.{TableParts}
use Rattle.odht_raw.specs.declared.raw_table.stored.Entry.{Entry}

abbrev pub decoded : {K V : Type 0} → Coding K V → Pair → K × V
decoded c p = (c.key_of p.key, c.value_of p.value)

abbrev pub decoded_all : {K V : Type 0} → Coding K V → List Pair → List (K × V)
decoded_all c ps = map (decoded c) ps

abbrev pub Item : Type 0 → Type 0 → Type 0
Item K V = ℕ × Entry K V

abbrev pub stored : {K V : Type 0} → (K → List ℕ) → (V → List ℕ) → Item K V → Pair
stored f g x = record { key = f x.1.key; value = g x.1.value }

abbrev pub item : {K V : Type 0} → (List ℕ → K) → (List ℕ → V) → ℕ → Pair → Item K V
item f g control p = (control, record { key = f p.key; value = g p.value })

abbrev pub slot_item : {K V : Type 0} → (List ℕ → K) → (List ℕ → V) → Format → TableParts → ℕ → Option (Item K V)
slot_item f g F T i = option_map (item f g (slice_index T.control i)) (decoded_cell F T.entries.bytes T.control i)

abbrev pub items_of : {K V : Type 0} → (List ℕ → K) → (List ℕ → V) → Format → TableParts → List ℕ → List (Item K V)
items_of f g F T is = filter_map (slot_item f g F T) is

abbrev pub AreOccupied : TableParts → ℕ → List ℕ → Type 0
AreOccupied T b is = All (λ i. (b + i < T.entries.slots) × IsFalse (counts_as_free (slice_index T.control (b + i)))) is

abbrev pub items_from : {K V : Type 0} → (List ℕ → K) → (List ℕ → V) → Format → TableParts → ℕ → List (Item K V)
items_from f g F T i = items_of f g F T (range_with_len i (T.entries.slots - i))

abbrev pub slot_numbered : {K V : Type 0} → (List ℕ → K) → (List ℕ → V) → Format → TableParts → ℕ → Option (ℕ × Item K V)
slot_numbered f g F T i = option_map (λ x. (i, x)) (slot_item f g F T i)

abbrev pub numbered_of : {K V : Type 0} → (List ℕ → K) → (List ℕ → V) → Format → TableParts → List ℕ → List (ℕ × Item K V)
numbered_of f g F T is = filter_map (slot_numbered f g F T) is

abbrev pub numbered_from : {K V : Type 0} → (List ℕ → K) → (List ℕ → V) → Format → TableParts → ℕ → List (ℕ × Item K V)
numbered_from f g F T i = numbered_of f g F T (range_with_len i (T.entries.slots - i))

abbrev pub decoded_slots : {K V : Type 0} → Coding K V → List (ℕ × Pair) → List (ℕ × (K × V))
decoded_slots c xs = map (λ x. (x.0, decoded c x.1)) xs

abbrev pub decoded_items : {EK EV K V : Type 0} → (EK → K) → (EV → V) → List (Item EK EV) → List (K × V)
decoded_items f g xs = map (λ x. (f x.1.key, g x.1.value)) xs

abbrev pub decoded_numbered : {EK EV K V : Type 0} → (EK → K) → (EV → V) → List (ℕ × Item EK EV) → List (ℕ × (K × V))
decoded_numbered f g xs = map (λ x. (x.0, (f x.1.1.key, g x.1.1.value))) xs
