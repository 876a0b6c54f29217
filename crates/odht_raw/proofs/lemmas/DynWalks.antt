-- What a walk over the slots of parts gives, where it reads the entries by the slots of a walk over entries of no bytes.
use Rattle.std.proofs.Common.{All, ◌≡◌, ◌∙◌, ℕ, zero, suc, ◌+◌, ◌*◌, ◌-◌, ◌<◌, Bool, true, false, sym, ap, refl, arith, List, [], ◌∷◌, length, length-take, length-drop, map, drop, slice_index, Option}
use Rattle.std.specs.List.{filter_map, cons_option, range_with_len}
use Rattle.odht_raw.proofs.lemmas.Below.{All-cons, drop-map, length-slot_entry}
use Rattle.odht_raw.specs.Words.{counts_as_free, decoded_cell, decoded_cells, numbered, Pair, slot_entry, slot_key, slot_value}
use Rattle.odht_raw.specs.Checks.{cells_of}
use Rattle.odht_raw.specs.Parts.{TableParts, entry_format}
use Rattle.odht_raw.specs.DynParts.{HasLengthsOf, DynParts, parts_format, slot_pair, read_slot}
use Rattle.odht_raw.specs.Walks.{Item, item, slot_numbered, numbered_from}
use Rattle.odht_raw.proofs.lemmas.Walks.{drop-range, zero_add}

-- the slots of a table, with entries of no bytes
abbrev pub bare : DynParts → TableParts
bare S = record { control = S.parts.control; entries = record { slots = S.parts.entries.slots; bytes = [] } }

module _ {K V : Type 0} (f : List ℕ → K) (g : List ℕ → V) (S : DynParts) (hash : List ℕ → ℕ) where
  abbrev cell : ℕ → Option Pair
  cell = decoded_cell (parts_format S hash) S.parts.entries.bytes S.parts.control

  abbrev numbered_slot : ℕ → Option (ℕ × Item K V)
  numbered_slot = slot_numbered f g (entry_format 0 0) (bare S)

  abbrev bare_item : ℕ → ℕ × Item K V
  bare_item i = (i, item f g (slice_index S.parts.control i) (record { key = slot_key (entry_format 0 0) [] i; value = slot_value (entry_format 0 0) [] i }))

  -- the entries of a range of slots are the pairs of their cells
  read-cells : (i n : ℕ) → map (read_slot S) (filter_map numbered_slot (range_with_len i n)) ≡ numbered i (map cell (range_with_len i n))
  read-cells i zero = refl
  read-cells i (suc n) = go (counts_as_free (slice_index S.parts.control i)) refl (read-cells (i + 1) n)
    where
      go : (b : Bool) → counts_as_free (slice_index S.parts.control i) ≡ b
          → map (read_slot S) (filter_map numbered_slot (range_with_len (i + 1) n)) ≡ numbered (i + 1) (map cell (range_with_len (i + 1) n))
          → map (read_slot S) (cons_option (numbered_slot i) (filter_map numbered_slot (range_with_len (i + 1) n))) ≡ numbered i (cell i ∷ map cell (range_with_len (i + 1) n))
      go true e rest = rw e rest
      go false e rest = rw e (ap (λ xs. (i, slot_pair S i) ∷ xs) rest)

  -- so a walk from a slot on gives the pairs of the cells from there on
  pub read-numbered : (i : ℕ) → length S.parts.control ≡ S.parts.entries.slots + 16
      → map (read_slot S) (numbered_from f g (entry_format 0 0) (bare S) i) ≡ numbered i (drop i (cells_of (parts_format S hash) S.parts))
  unfolding decoded_cells
  read-numbered i long =
      let slots : S.parts.entries.slots ≡ length S.parts.control - 16 = omega (arith, long) in
      let here : map cell (range_with_len i (S.parts.entries.slots - i)) ≡ drop i (map cell (range_with_len 0 (length S.parts.control - 16))) =
      sym (ap (map cell) (drop-range i 0 S.parts.entries.slots ∙ ap (λ a. range_with_len a (S.parts.entries.slots - i)) (zero_add i)))
      ∙ sym (drop-map cell i (range_with_len 0 S.parts.entries.slots)) ∙ ap (λ n. drop i (map cell (range_with_len 0 n))) slots in
      read-cells i (S.parts.entries.slots - i) ∙ ap (numbered i) here

  -- each of its slots is one of the table
  slots_below : (i n : ℕ) → ((j : ℕ) → j < n → i + j < S.parts.entries.slots) → All (λ (x : ℕ × Item K V). x.0 < S.parts.entries.slots) (filter_map numbered_slot (range_with_len i n))
  slots_below i zero l = λ k d h. absurd (omega (arith, h))
  slots_below i (suc n) l = go (counts_as_free (slice_index S.parts.control i)) refl (slots_below (i + 1) n (λ j h. omega (arith, l (suc j) (omega (arith, h)))))
    where
      go : (b : Bool) → counts_as_free (slice_index S.parts.control i) ≡ b
          → All (λ (x : ℕ × Item K V). x.0 < S.parts.entries.slots) (filter_map numbered_slot (range_with_len (i + 1) n))
          → All (λ (x : ℕ × Item K V). x.0 < S.parts.entries.slots) (cons_option (numbered_slot i) (filter_map numbered_slot (range_with_len (i + 1) n)))
      go true e rest = rw e rest
      go false e rest = rw e (All-cons (λ (x : ℕ × Item K V). x.0 < S.parts.entries.slots) (bare_item i) (filter_map numbered_slot (range_with_len (i + 1) n)) (omega (arith, l 0 (omega arith))) rest)

  pub numbered-below : (i : ℕ) → All (λ (x : ℕ × Item K V). x.0 < S.parts.entries.slots) (numbered_from f g (entry_format 0 0) (bare S) i)
  numbered-below i = slots_below i (S.parts.entries.slots - i) (λ j h. omega (arith, h))

-- each pair of the cells of parts has their lengths
module _ (S : DynParts) (hash : List ℕ → ℕ) (long : length S.parts.entries.bytes ≡ S.parts.entries.slots * (S.key_len + S.value_len)) where
  cell_dynamic : (i : ℕ) → i < S.parts.entries.slots → HasLengthsOf S.key_len S.value_len (slot_pair S i)
  cell_dynamic i low =
      let F = parts_format S hash in
      let entry = slot_entry F S.parts.entries.bytes i in
      let whole = length-slot_entry F S.parts.entries.bytes S.parts.entries.slots i long low in
      record { key = omega (arith, length-take S.key_len entry, whole); value = omega (arith, length-drop S.key_len entry, whole) }

  abbrev pairs_in : ℕ → ℕ → List Pair
  pairs_in i n = filter_map (λ c. c) (map (decoded_cell (parts_format S hash) S.parts.entries.bytes S.parts.control) (range_with_len i n))

  cells_dynamic : (i n : ℕ) → ((j : ℕ) → j < n → i + j < S.parts.entries.slots)
      → All (HasLengthsOf S.key_len S.value_len) (pairs_in i n)
  cells_dynamic i zero l = λ k d h. absurd (omega (arith, h))
  cells_dynamic i (suc n) l = go (counts_as_free (slice_index S.parts.control i)) refl (cells_dynamic (i + 1) n (λ j h. omega (arith, l (suc j) (omega (arith, h)))))
    where
      go : (b : Bool) → counts_as_free (slice_index S.parts.control i) ≡ b → All (HasLengthsOf S.key_len S.value_len) (pairs_in (i + 1) n)
          → All (HasLengthsOf S.key_len S.value_len) (cons_option (decoded_cell (parts_format S hash) S.parts.entries.bytes S.parts.control i) (pairs_in (i + 1) n))
      go true e are = rw e are
      go false e are = rw e (All-cons (HasLengthsOf S.key_len S.value_len) (slot_pair S i) (pairs_in (i + 1) n) (cell_dynamic i (omega (arith, l 0 (omega arith)))) are)

  pub walk_dynamic : length S.parts.control ≡ S.parts.entries.slots + 16 → All (HasLengthsOf S.key_len S.value_len) (filter_map (λ c. c) (cells_of (parts_format S hash) S.parts))
  unfolding decoded_cells
  walk_dynamic mirrored = cells_dynamic 0 (length S.parts.control - 16) (λ j h. omega (arith, h, mirrored))
