-- The whole check has no error exactly for valid bytes.
use Rattle.std.proofs.Common.{◌≡◌, ◌<◌, ◌≤◌, ◌∙◌, ◌+◌, ◌-◌, ◌==◌, ℕ, true≢false, sym, ap, ap₂, subst, subst₂, refl, List, [], ◌∷◌, Option, Some, None, option_map, is_none, All, length, slice_index, arith}
use Rattle.std.specs.List.{list_all}
use Rattle.std.specs.Prelude.{Result, IsOk, MatchOption, ◌↔◌}
use Rattle.odht_raw.specs.Words.{bytes_at, cell_at, check_refusal, checked, control_byte, controls_of, count, counts_as_free, decoded_cells, entries_of, entry_len, Error, first_longer, Format, image, IsFormat, IsPartsOf, IsValid, IsValidBytes, late_refusal_by, longer_refusal, max_items, Pair, search_end, SearchTooLong, slot_count, slot_entry, slot_key, Table, tag, view_refusal}
use Rattle.odht_raw.proofs.lemmas.Below.{AllArrive-IsPlaced, checked-IsOk, controls_of-image, decoded_cells-parts, decoded_table-image, entries_of-image, HasLengths-IsPlaced, header_count-image, header_factor-image, header_slots-image, IsOk-checked, IsSized-IsPlaced, length-controls, none-some, slice_index-controls, slice_index-mirror, slot_entry-free}
use Rattle.odht_raw.specs.Frame.{IsAccepted}
use Rattle.odht_raw.proofs.lemmas.Accepted.{IsAccepted-image}
use Rattle.odht_raw.proofs.lemmas.ImagesOpen.{view_refusal-image}
use Rattle.odht_raw.proofs.lemmas.Openings.{check_refusal-late}
use Rattle.odht_raw.proofs.lemmas.PartCells.{byte_is, key_is, cell_occupied}
use Rattle.odht_raw.proofs.lemmas.SlotChecks.{list_all-zeros}
use Rattle.odht_raw.proofs.lemmas.SlotFits.{IsSlotFit, AllFit, IsMirrored, AllFound}
use Rattle.odht_raw.proofs.lemmas.SoundBytes.{IsSound, IsSound-late_refusal, late_refusal-IsSound, IsValidBytes-IsSound}

-- the padding of an image is zeros
padding-image : (F : Format) (P : Table) → bytes_at (image F P) 30 2 ≡ 0 ∷ 0 ∷ []
unfolding image
padding-image F P = refl

-- ---- the parts of a placed table
module _ (F : Format) (f : IsFormat F) (P : Table) (es ctrl : List ℕ) (h : IsPartsOf F P es ctrl) where
  slots : length ctrl - 16 ≡ slot_count P
  slots = omega (arith, ap length h.controls_are, length-controls F P.cells h.placed.slots.least)

  -- each slot fits
  AllFit-IsPartsOf : AllFit F es ctrl
  AllFit-IsPartsOf i l = go (cell_at P.cells i) refl
    where
      within : i < slot_count P
      within = subst (λ n. i < n) slots l

      byte : slice_index ctrl i ≡ control_byte F (cell_at P.cells i)
      byte = ap (λ c. slice_index c i) h.controls_are ∙ slice_index-controls F P.cells i within

      counted : (c : Option Pair) → cell_at P.cells i ≡ c → counts_as_free (slice_index ctrl i) ≡ is_none c
      counted c e = byte_is F f P es ctrl h i within ∙ ap (is_none {T = Pair}) e

      go : (c : Option Pair) → cell_at P.cells i ≡ c → IsSlotFit F es ctrl i
      go None e = record {
        free_zeros = λ t. ap (λ b. list_all (λ x. x == 0) (slot_entry F b i)) h.entries_are
            ∙ ap (list_all (λ x. x == 0)) (slot_entry-free F P.cells i (HasLengths-IsPlaced F P h.placed) within e) ∙ list_all-zeros (entry_len F);
        free_byte = λ t. byte ∙ ap (control_byte F) e;
        occupied_tag = λ t. absurd (true≢false (sym (counted None e) ∙ t));
      }
      go (Some p) e = record {
        free_zeros = λ t. absurd (true≢false (sym t ∙ counted (Some p) e));
        free_byte = λ t. absurd (true≢false (sym t ∙ counted (Some p) e));
        occupied_tag = λ t. byte ∙ ap (control_byte F) e ∙ ap (tag F) (sym (key_is F f P es ctrl h i p e));
      }

  -- the mirror is one
  IsMirrored-IsPartsOf : IsMirrored ctrl
  IsMirrored-IsPartsOf i l =
      let below : i < slot_count P = omega (arith, h.placed.slots.least) in
      ap₂ (λ c n. slice_index c (n + i)) h.controls_are slots ∙ slice_index-mirror F P.cells i l below
      ∙ sym (ap (λ c. slice_index c i) h.controls_are ∙ slice_index-controls F P.cells i below)

  -- and each occupied slot is where the search for its key ends
  AllFound-IsPartsOf : AllFound F es ctrl
  AllFound-IsPartsOf i l t =
      let cells : decoded_cells F es ctrl ≡ P.cells = ap₂ (decoded_cells F) h.entries_are h.controls_are ∙ decoded_cells-parts F P.cells f h.placed.pairs h.placed.slots.least in
      ap (λ cs. search_end F cs (slot_key F es i)) cells
      ∙ AllArrive-IsPlaced F P h.placed i _ (cell_occupied F f P es ctrl h i (subst (λ n. i < n) slots l) t)

-- so the image of a valid table is sound
IsSound-image : (F : Format) (f : IsFormat F) (P : Table) → IsValid F P → IsSound F (image F P)
IsSound-image F f P h =
    let sized = IsSized-IsPlaced F P h.placed in
    let s = header_slots-image F P sized in
    let n = header_count-image F P sized in
    let l = header_factor-image F P h.factor_high in
    let es = entries_of F (image F P) in
    let ctrl = controls_of F (image F P) in
    let is : IsPartsOf F P es ctrl = record { placed = h.placed; entries_are = entries_of-image F P sized; controls_are = controls_of-image F P sized } in
    record {
      accepted = IsAccepted-image F P h.placed.slots sized;
      factor_low = subst (λ m. 655 ≤ m) (sym l) h.factor_low;
      padding_is = padding-image F P;
      slots_fit = AllFit-IsPartsOf F f P es ctrl is;
      mirrored = IsMirrored-IsPartsOf F f P es ctrl is;
      count_is = n ∙ sym (ap count (decoded_table-image F P f h));
      room = subst₂ (λ a b. a ≤ b) (sym n) (sym (ap₂ max_items s l)) h.room;
      found = AllFound-IsPartsOf F f P es ctrl is;
    }

-- ---- the whole check
-- accepted bytes for which the rest has no error are valid, and searches in them are within the bound
pub valid_late : (F : Format) (o : Option ℕ) (B : List ℕ) → All (λ x. x < 256) B → IsAccepted F B → late_refusal_by F o B ≡ None → IsValidBytes F B × (longer_refusal (controls_of F B) o ≡ None)
valid_late F o B small accepted e = let sound = IsSound-late_refusal F o B accepted e in (IsValidBytes-IsSound F B small sound.0, sound.1)

-- and the converse
pub late_valid : (F : Format) (o : Option ℕ) (B : List ℕ) → IsFormat F → IsValidBytes F B → longer_refusal (controls_of F B) o ≡ None → late_refusal_by F o B ≡ None
late_valid F o B f (P, is) within =
    ap (late_refusal_by F o) is.bytes ∙ late_refusal-IsSound F o (image F P) (IsSound-image F f P is.valid) (ap (λ b. longer_refusal (controls_of F b) o) (sym is.bytes) ∙ within)

-- there is no error of the bound exactly where no search is longer
pub longer_refusal-None : (ctrl : List ℕ) (g : ℕ) → longer_refusal ctrl (Some g) ≡ None → first_longer ctrl g ≡ None
longer_refusal-None ctrl g e = go (first_longer ctrl g) e
  where
    go : (o : Option ℕ) → option_map (λ home. SearchTooLong home g) o ≡ None → o ≡ None
    go None e = refl
    go (Some b) e = absurd (none-some _ (sym e))

-- so the answer of the rest says whether they are valid, and whether searches are within the bound
pub checked_late : (F : Format) → IsFormat F → (o : Option ℕ) (B : List ℕ) → All (λ x. x < 256) B → IsAccepted F B → (r : Result (Unit {0}) Error) → r ≡ checked (late_refusal_by F o B)
    → MatchOption o (IsOk r ↔ IsValidBytes F B) (λ g. IsOk r ↔ (IsValidBytes F B × (first_longer (controls_of F B) g ≡ None)))
checked_late F f None B small accepted r e = (
  λ ok. (valid_late F None B small accepted (IsOk-checked _ (subst IsOk e ok))).0,
  λ valid. subst IsOk (sym e) (checked-IsOk _ (late_valid F None B f valid refl)),
)
checked_late F f (Some g) B small accepted r e = (
  λ ok. let late = valid_late F (Some g) B small accepted (IsOk-checked _ (subst IsOk e ok)) in (late.0, longer_refusal-None _ g late.1),
  λ valid. subst IsOk (sym e) (checked-IsOk _ (late_valid F (Some g) B f valid.0 (ap (option_map (λ home. SearchTooLong home g)) valid.1))),
)

-- the whole check has no error for them
pub valid_check : (F : Format) (B : List ℕ) → IsFormat F → IsValidBytes F B → check_refusal F B ≡ None
valid_check F B f (P, is) =
    check_refusal-late F B None (ap (view_refusal F) is.bytes ∙ view_refusal-image F f P is.valid.placed) ∙ late_valid F None B f (P, is) refl
