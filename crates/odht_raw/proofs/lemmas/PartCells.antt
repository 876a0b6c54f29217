-- The cells of a placed table, as its parts decode to them.
use Rattle.std.proofs.Common.{◌≡◌, ◌<◌, ◌∙◌, ◌+◌, ℕ, false, true≢false, sym, ap, refl, List, Option, Some, None, is_none, length, slice_index, arith}
use Rattle.odht_raw.specs.Words.{cell_at, counts_as_free, Format, is_free, IsFormat, IsPartsOf, Pair, slot_count, slot_key, slot_value, Table}
use Rattle.odht_raw.proofs.lemmas.Below.{counts_as_free-control_byte, HasLengths, HasLengths-HasPairsOf, length-controls, slice_index-controls, slot_key-entries, slot_value-entries}

module _ (F : Format) (f : IsFormat F) (P : Table) (es ctrl : List ℕ) (h : IsPartsOf F P es ctrl) where
  -- there are as many slots as control bytes without the mirror
  pub slots_are : (s : ℕ) → length ctrl ≡ s + 16 → s ≡ slot_count P
  slots_are s n = omega (arith, n, ap length h.controls_are, length-controls F P.cells h.placed.slots.least)

  -- a control byte counts as free where its cell is
  pub byte_is : (i : ℕ) → i < slot_count P → counts_as_free (slice_index ctrl i) ≡ is_free P.cells i
  byte_is i l =
      ap (λ c. counts_as_free (slice_index c i)) h.controls_are
      ∙ ap counts_as_free (slice_index-controls F P.cells i l) ∙ counts_as_free-control_byte F P.cells i f h.placed.pairs

  lengths : HasLengths F P.cells
  lengths = HasLengths-HasPairsOf F P.cells h.placed.pairs

  -- an occupied cell's key is in its entry
  pub key_is : (i : ℕ) (p : Pair) → cell_at P.cells i ≡ Some p → slot_key F es i ≡ p.key
  key_is i p g = ap (λ e. slot_key F e i) h.entries_are ∙ slot_key-entries F P.cells i p lengths g

  -- and so does its value
  pub value_is : (i : ℕ) (p : Pair) → cell_at P.cells i ≡ Some p → slot_value F es i ≡ p.value
  value_is i p g = ap (λ e. slot_value F e i) h.entries_are ∙ slot_value-entries F P.cells i p lengths g

  -- a control byte that counts as occupied is that of a cell whose pair is in the entry
  pub cell_occupied : (i : ℕ) → i < slot_count P → counts_as_free (slice_index ctrl i) ≡ false → cell_at P.cells i ≡ Some (record { key = slot_key F es i; value = slot_value F es i })
  cell_occupied i l e = go (cell_at P.cells i) refl (sym (byte_is i l) ∙ e)
    where
      go : (c : Option Pair) → cell_at P.cells i ≡ c → is_none c ≡ false → c ≡ Some (record { key = slot_key F es i; value = slot_value F es i })
      go None g t = absurd (true≢false t)
      go (Some p) g t = λ j. Some (record { key = sym (key_is i p g) j; value = sym (value_is i p g) j })
