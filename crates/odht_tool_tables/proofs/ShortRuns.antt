-- Tables that are rebuilt in memory while their searches are short.
use Rattle.std.proofs.Common.{◌≡◌, ◌∙◌, ◌+◌, ◌*◌, ℕ, true, false, List, ◌∷◌, Some, None, Result, Ok, Err, length, drop, sym, ap, ap₂, refl, slice_index}
use Rattle.std.specs.Prelude.{is_err, option_and_then, nat_lt, map, if◌then◌else◌}
use Rattle.std.specs.List.{range_with_len}
use Rattle.std.specs.Option.{option_map_or}
use Rattle.odht_base.specs.Decoded.{controls_of, decoded_cells, decoded_pairs, header_slots}
use Rattle.odht_base.specs.Format.{Format, format_of}
use Rattle.odht_base.specs.Image.{controls}
use Rattle.odht_base.specs.Insert.{insert_owned}
use Rattle.odht_base.specs.Table.{Pair, Table, fresh, slot_count}
use Rattle.odht_base.specs.Valid.{IsImage}
use Rattle.odht_base.proofs.lemmas.Fits.{IsSized-IsPlaced}
use Rattle.odht_base.proofs.lemmas.Image.{controls_of-image}
use Rattle.odht_header.proofs.lemmas.HeaderFits.{IsOpening, IsOpening-opening_refusal, opening_refusal-IsOpening}
use Rattle.odht_raw.proofs.lemmas.Accepted.{IsAccepted-IsValidBytes}
use Rattle.odht.proofs.lemmas.Moves.{slots_of_image}
use Rattle.odht_tool_core.specs.GroupNumbers.{capped, groups_to_free}
use Rattle.odht_tool_core.specs.InfoNumbers.{format_by, has_long_search, info_refusal, largest, file_parts}
use Rattle.odht_tool_core.specs.declared.shapes.Hash.TheVariants.{Fx}
use Rattle.odht_tool_tables.specs.Trials.{has_short_searches, is_long_from, is_short, plain_parts, rebuilt, run_short}

-- ---- the parts of an image are those of its table
module _ (F : Format) (P : Table) (B : List ℕ) (is : IsImage F P B) where
  fits : IsOpening F B
  fits = IsOpening-opening_refusal F B (IsAccepted-IsValidBytes F B (P, is))

  key : slice_index B 5 ≡ F.key_len
  key = fits.header.key_len_is

  value : slice_index B 6 ≡ F.value_len
  value = fits.header.value_len_is

  -- header and length fit, whatever the hash function is
  pub image_opens : info_refusal B ≡ None
  image_opens = opening_refusal-IsOpening (format_by B Fx) B (record {
    long = fits.long;
    header = record {
      tag_is = fits.header.tag_is;
      version_is = fits.header.version_is;
      metadata_is = fits.header.metadata_is;
      key_len_is = refl;
      value_len_is = refl;
      header_len_is = fits.header.header_len_is;
      slots = fits.header.slots;
      length_is = fits.header.length_is ∙ ap₂ (λ k v. 32 + header_slots B * (k + v) + header_slots B + 16) (sym key) (sym value);
    };
  })

  -- the control bytes
  pub image_controls : (file_parts B).control ≡ controls F P.cells
  image_controls =
      ap₂ (λ k v. drop (32 + header_slots B * (k + v)) B) key value
      ∙ ap (controls_of F) is.bytes ∙ controls_of-image F P (IsSized-IsPlaced F P is.valid.placed)

  -- the slots
  pub image_slots : header_slots B ≡ slot_count P
  image_slots = slots_of_image F P B is

  -- so the searches are
  pub image_long : has_long_search (file_parts B) ≡ has_long_search (plain_parts F P)
  image_long = ap₂ (λ c s. nat_lt 24 (largest (map (λ b. capped (Some 24) (groups_to_free c b)) (range_with_len 0 s)))) image_controls image_slots

-- ---- inserts, one after the other
module _ (F : Format) (P : Table) (p : Pair) (ps : List Pair) where
  -- up to one whose search is long
  pub run_stops : is_long_from F P p.key ≡ true → run_short F P (p ∷ ps) ≡ None
  run_stops e = ap (λ b. if b then None else option_and_then (λ Q. run_short F Q ps) (insert_owned F P p)) e

  -- and on with the others behind one whose search is short
  pub run_goes_on : (Q : Table) → is_long_from F P p.key ≡ false → insert_owned F P p ≡ Some Q → run_short F P (p ∷ ps) ≡ run_short F Q ps
  run_goes_on Q e is =
      ap (λ b. if b then None else option_and_then (λ Q. run_short F Q ps) (insert_owned F P p)) e
      ∙ ap (option_and_then (λ Q. run_short F Q ps)) is

-- a result that is no error is a value
pub ok_of : {X E : Type 0} (r : Result X E) → is_err r ≡ false → (x : X) × (r ≡ Ok x)
ok_of (Ok x) e = (x, refl)
ok_of (Err x) e = cc

-- ---- the result
-- a walk does not depend on the hash function
pub same_pairs : (k v : ℕ) (g h : List ℕ → ℕ) (B : List ℕ) → decoded_pairs (format_of k v g) B ≡ decoded_pairs (format_of k v h) B
unfolding decoded_cells
same_pairs k v g h B = refl

module _ (F : Format) (percent : ℕ) (ps : List Pair) (start : Table) (new : fresh (length ps) percent ≡ Some start) where
  rebuilt_from : rebuilt F percent ps ≡ run_short F start ps
  rebuilt_from = ap (option_and_then (λ P. run_short F P ps)) new

  -- all pairs were inserted
  pub short_is : (Q : Table) → run_short F start ps ≡ Some Q → is_short F percent ps ≡ has_short_searches F Q
  short_is Q ran = ap (λ o. option_map_or (has_short_searches F) o false) (rebuilt_from ∙ ran)

  -- or they were not
  pub long_is : run_short F start ps ≡ None → is_short F percent ps ≡ false
  long_is ran = ap (λ o. option_map_or (has_short_searches F) o false) (rebuilt_from ∙ ran)
