-- The bytes of a valid table are never rejected by a view.
use Rattle.std.proofs.Common.{◌≡◌, ◌<◌, ◌∙◌, ◌-◌, min, ℕ, sym, ap, refl, List, Option, Some, None, Result, Ok, Err, IsOk, is_none, length, slice_index, arith}
use Rattle.std.specs.Result.{result_err}
use Rattle.odht_raw.specs.Words.{cell_at, control_byte, controls, counts_as_free, entries, Error, Format, hashes_refusal, hashes_refusal_at, image, is_free, IsFormat, IsImage, IsPlaced, Pair, slot_count, slot_key, Table, tag, view_refusal}
use Rattle.odht_raw.proofs.lemmas.Below.{controls_of-image, counts_as_free-control_byte, entries_of-image, false-differs, HasLengths, HasLengths-HasPairsOf, IsSized-IsPlaced, length-controls, None-gives, slice_index-controls, slot_entry-free, slot_key-entries}
use Rattle.odht_raw.proofs.lemmas.Accepted.{IsAccepted-image}
use Rattle.odht_raw.proofs.lemmas.Openings.{view_refusal-slots}
use Rattle.odht_raw.proofs.lemmas.SlotChecks.{zero_entry_passes, occupied_refusal, hashes_refusal-None}

-- a result without an error is Ok
pub IsOk-none : {T : Type 0} (r : Result T Error) → result_err r ≡ None → IsOk r
IsOk-none (Ok t) e = refl
IsOk-none (Err x) e = cc

module _ (F : Format) (f : IsFormat F) (P : Table) (h : IsPlaced F P) where
  -- no slot of a placed table is rejected
  slot_passes : (i : ℕ) → i < slot_count P → hashes_refusal_at F (entries F P.cells) (controls F P.cells) i ≡ None
  slot_passes i low = go (cell_at P.cells i) refl
    where
      byte : slice_index (controls F P.cells) i ≡ control_byte F (cell_at P.cells i)
      byte = slice_index-controls F P.cells i low

      counted : counts_as_free (slice_index (controls F P.cells) i) ≡ is_free P.cells i
      counted = ap counts_as_free byte ∙ counts_as_free-control_byte F P.cells i f h.pairs

      lengths : HasLengths F P.cells
      lengths = HasLengths-HasPairsOf F P.cells h.pairs

      go : (c : Option Pair) → cell_at P.cells i ≡ c → hashes_refusal_at F (entries F P.cells) (controls F P.cells) i ≡ None
      go None e = zero_entry_passes F (entries F P.cells) (controls F P.cells) i (counted ∙ ap is_none e) _ (slot_entry-free F P.cells i lengths low e)
      go (Some p) e =
          let same : slice_index (controls F P.cells) i ≡ tag F (slot_key F (entries F P.cells) i) = byte ∙ ap (control_byte F) e ∙ ap (tag F) (sym (slot_key-entries F P.cells i p lengths e)) in
          occupied_refusal F (entries F P.cells) (controls F P.cells) i (counted ∙ ap is_none e) ∙ None-gives _ _ (false-differs _ _ same)

  -- so a view rejects nothing of its image
  pub view_refusal-image : view_refusal F (image F P) ≡ None
  view_refusal-image =
      let sized = IsSized-IsPlaced F P h in
      let slots : length (controls F P.cells) - 16 ≡ slot_count P = omega (arith, length-controls F P.cells h.slots.least) in
      view_refusal-slots F (image F P) (IsAccepted-image F P h.slots sized)
      ∙ (λ i. hashes_refusal F (entries_of-image F P sized i) (controls_of-image F P sized i) 10)
      ∙ hashes_refusal-None F (entries F P.cells) (controls F P.cells) 10 (min 10 (slot_count P)) (ap (min 10) slots) (λ i l. slot_passes i (omega (arith, l)))

-- a result whose error is that of a view accepts each image
pub image_is_accepted : {T : Type 0} (F : Format) (f : IsFormat F) (P : Table) (B : List ℕ) → IsImage F P B → (r : Result T Error) → result_err r ≡ view_refusal F B → IsOk r
image_is_accepted F f P B is r e = IsOk-none r (e ∙ ap (view_refusal F) is.bytes ∙ view_refusal-image F f P is.valid.placed)
