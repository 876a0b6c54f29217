-- In the parts of a placed table whose control bytes are within the bound of g groups, no search reads more.
use Rattle.std.proofs.Common.{◌≡◌, ◌∙◌, ℕ, ◌+◌, ◌-◌, ◌*◌, ◌/◌, ◌<◌, ◌≤◌, inl, inr, sym, ap, refl, arith, true, false, true≢false, not, List, length, slice_get, get_or, min, Option, Some, None, is_some}
use Rattle.std.specs.List.{range_with_len}
use Rattle.std.specs.Option.{option_map_or}
use Rattle.odht_raw.proofs.lemmas.Below.{cases_lt, controls_of-image, counts_as_free-control_byte, entries_of-image, find-None, get_or-order, get_or-range_with_len, IsSized-IsPlaced, length-bytes_at, length-controls, length-order, length-range_with_len, min-le_left, min-le_right, mod-lt, not-false, or_parts, position-Some, position_none, probe_slot-lt, slice_get-get_or}
use Rattle.odht_raw.specs.Words.{bytes_at, controls, controls_of, counts_as_free, ends_within, entries, entries_of, first_free, first_longer, Format, group_of, groups_read, home, IsFormat, IsImage, IsPartsOf, probe_slot, reach, search_order, slot_count, stops_at, Table}
use Rattle.odht_raw.specs.Parts.{EntryBytes}
use Rattle.odht_raw.specs.SearchSteps.{Passed, slot_of}
use Rattle.odht_raw.proofs.lemmas.Bounds.{goes_on}
use Rattle.odht_raw.proofs.lemmas.GroupLooks.{position-None}
use Rattle.odht_raw.proofs.lemmas.GroupSearches.{IsGroupAt-group}
use Rattle.odht_raw.proofs.lemmas.PartCells.{slots_are}

module _ (F : Format) (P : Table) (E : EntryBytes) (ctrl k : List ℕ) (f : IsFormat F) (h : IsPartsOf F P E.bytes ctrl) (len : length ctrl ≡ E.slots + 16) (g : ℕ) where
  slots : length ctrl - 16 ≡ E.slots
  slots = omega (arith, len)

  count : E.slots ≡ slot_count P
  count = slots_are F f P E.bytes ctrl h E.slots len

  abbrev b : ℕ
  b = home F k E.slots

  abbrev n : ℕ
  n = min g ((length ctrl - 16) / 16)

  -- a group that a search passes has no free byte
  passed_group : (j : ℕ) → j < n → Passed F P k (16 * n) → is_some (first_free (group_of ctrl b j)) ≡ false
  passed_group j l passed =
      let start : ℕ = probe_slot b (length ctrl - 16) (16 * j) in
      let is : start ≡ probe_slot b E.slots (16 * j) = ap (λ s. probe_slot b s (16 * j)) slots in
      let within : 16 * j + 16 ≤ E.slots = omega (arith, l, min-le_right g ((length ctrl - 16) / 16), slots) in
      let here = IsGroupAt-group F P E ctrl k f h len (16 * j) start (omega arith) within is (λ q low. passed q (omega (arith, low, l))) in
      let long : length (group_of ctrl b j) ≡ 16 = length-bytes_at ctrl start 16 (omega (arith, is, len, probe_slot-lt b E.slots (16 * j) (omega (arith, within)))) in
      let bytes : group_of ctrl b j ≡ bytes_at ctrl start 16 = refl in
      ap is_some (position_none counts_as_free (group_of ctrl b j) 0 (λ i less.
      let inside : 16 * j + i < 16 * n = omega (arith, l, less, long) in
      let slot_low : slot_of F P k (16 * j + i) < slot_count P = probe_slot-lt (home F k (slot_count P)) (slot_count P) (16 * j + i) (omega (arith, h.placed.slots.least)) in
      ap counts_as_free (here.bytes_are i less) ∙ counts_as_free-control_byte F P.cells (slot_of F P k (16 * j + i)) f h.placed.pairs ∙ (or_parts _ _ (passed (16 * j + i) inside)).0))

  -- where a search passes all of them it may be longer than the bound
  longer : Passed F P k (16 * n) → ends_within ctrl g b ≡ false
  longer passed = goes_on ctrl g b (λ j l. passed_group j l passed)

  -- a search that reads more groups than the bound passes them
  passes : g < groups_read F P.cells k → Passed F P k (16 * n)
  unfolding reach
  passes more = go (reach F P.cells k) refl more
    where
      all : 16 * n ≤ slot_count P
      all = omega (arith, min-le_right g ((length ctrl - 16) / 16), slots, count)

      few : 16 * n ≤ 16 * g
      few = omega (arith, min-le_left g ((length ctrl - 16) / 16))

      at_slot : (q : ℕ) → q < slot_count P → get_or (search_order F P.cells k) q 0 ≡ slot_of F P k q
      at_slot q l = get_or-order (home F k (slot_count P)) (slot_count P) q 0 l

      go : (o : Option ℕ) → reach F P.cells k ≡ o → g < option_map_or (λ p. p / 16 + 1) o (slot_count P / 16) → Passed F P k (16 * n)
      go None e more q l =
          ap (stops_at P.cells k) (sym (at_slot q (omega (arith, l, all))))
          ∙ position-None (stops_at P.cells k) (search_order F P.cells k) 0 e q (omega (arith, l, all, length-order (home F k (slot_count P)) (slot_count P)))
      go (Some r) e more q l =
          let at = position-Some (stops_at P.cells k) (search_order F P.cells k) r 0 e in
          ap (stops_at P.cells k) (sym (at_slot q (omega (arith, l, all)))) ∙ at.2 q (omega (arith, l, few, more))

  -- so none does
  pub bounded : first_longer ctrl g ≡ None → groups_read F P.cells k ≤ g
  unfolding first_longer
  bounded none = elim (cases_lt g (groups_read F P.cells k)) [
    | inl more ↦
        let low : b < length ctrl - 16 = omega (arith, mod-lt (F.hash k) {m = E.slots} (omega (arith, count, h.placed.slots.least)), slots) in
        let at : slice_get (range_with_len 0 (length ctrl - 16)) b ≡ Some b =
        slice_get-get_or (range_with_len 0 (length ctrl - 16)) b 0 (omega (arith, low, length-range_with_len 0 (length ctrl - 16))) ∙ ap Some (get_or-range_with_len 0 (length ctrl - 16) b 0 low ∙ omega arith) in
        let ends : ends_within ctrl g b ≡ true = not-false _ (find-None (λ a. not (ends_within ctrl g a)) (range_with_len 0 (length ctrl - 16)) none b b at) in
        absurd (true≢false (sym ends ∙ longer (passes more)))
    | inr few ↦ few
  ]

-- nor in the table whose image the bytes B are
pub image_bounded : (F : Format) (P : Table) (B k : List ℕ) (g : ℕ) → IsFormat F → IsImage F P B → first_longer (controls_of F B) g ≡ None → groups_read F P.cells k ≤ g
image_bounded F P B k g f is none =
    let sized = IsSized-IsPlaced F P is.valid.placed in
    let entries_are : entries_of F B ≡ entries F P.cells = ap (entries_of F) is.bytes ∙ entries_of-image F P sized in
    let controls_are : controls_of F B ≡ controls F P.cells = ap (controls_of F) is.bytes ∙ controls_of-image F P sized in
    bounded F P (record { slots = slot_count P; bytes = entries_of F B }) (controls_of F B) k f
    (record { placed = is.valid.placed; entries_are = entries_are; controls_are = controls_are })
    (ap length controls_are ∙ length-controls F P.cells is.valid.placed.slots.least) g none

-- what is not there is none
pub is_none : (o : Option ℕ) → is_some o ≡ false → o ≡ None
is_none None e = refl
is_none (Some i) e = absurd (true≢false e)
