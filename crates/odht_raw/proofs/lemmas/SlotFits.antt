-- Slots for which the whole check has no error, for entries es and control bytes ctrl with their mirror; and that the
-- cells which such slots decode to have these very parts.
--     IsSlotFit F es ctrl i   slot i is as an image has it
--     AllFit F es ctrl        so is each slot
--     IsMirrored ctrl         the sixteen bytes behind those of the slots are the first sixteen again
--     AllFound F es ctrl      each occupied slot is where the search for its key ends
use Rattle.std.proofs.Common.{◌≡◌, ◌<◌, ◌≤◌, ◌∙◌, ◌+◌, ◌-◌, ◌*◌, ◌++◌, ◌==◌, ℕ, zero, suc, Bool, true, false, cond, not, sym, ap, ap₂, subst, refl, List, Some, None, map, take, drop, replicate, length, get_or, slice_index, arith, zero-add, zero-mul, eq-eqb, drop-drop, length-drop, length-take-le, take-append-drop}
use Rattle.std.specs.List.{flat_map, list_all, range_with_len}
use Rattle.odht_raw.proofs.lemmas.Below.{bytes_at-take, differs-false, ext_get_or, false-differs, first_slot-None, flat_map-map, get_or-drop, get_or-map, get_or-map-range_with_len, get_or-take, gives-None, gives_both-None, is_at-true, length-map, length-map-range_with_len, length-slot_entry, nil_from_length, None-first_slot, None-gives, None-gives_both, None-option_or, not-false, option_or-None}
use Rattle.odht_raw.specs.Words.{bad_free_control, BadFreeControl, cell_at, control_byte, control_mismatch, ControlMismatch, controls, counts_as_free, decoded_cell, decoded_cells, entries, entry_bytes, entry_len, Format, is_at, mirror_refusal, mirror_refusal_at, non_zero_empty, NonZeroEmpty, reach_refusal, search_end, slot_entry, slot_key, slot_refusal_at, slot_value, slots_refusal, tag, unreachable}
use Rattle.odht_header.proofs.lemmas.FirstErrors.{not-true}
use Rattle.odht_raw.proofs.lemmas.SlotChecks.{zeros-list_all}

pub record IsSlotFit (F : Format) (es ctrl : List ℕ) (i : ℕ) : Type 0 where
  pub free_zeros : counts_as_free (slice_index ctrl i) ≡ true → list_all (λ x. x == 0) (slot_entry F es i) ≡ true
  pub free_byte : counts_as_free (slice_index ctrl i) ≡ true → slice_index ctrl i ≡ 255
  pub occupied_tag : counts_as_free (slice_index ctrl i) ≡ false → slice_index ctrl i ≡ tag F (slot_key F es i)

abbrev pub AllFit : Format → List ℕ → List ℕ → Type 0
AllFit F es ctrl = (i : ℕ) → i < length ctrl - 16 → IsSlotFit F es ctrl i

abbrev pub IsMirrored : List ℕ → Type 0
IsMirrored ctrl = (i : ℕ) → i < 16 → slice_index ctrl (length ctrl - 16 + i) ≡ slice_index ctrl i

abbrev pub AllFound : Format → List ℕ → List ℕ → Type 0
AllFound F es ctrl =
    (i : ℕ) → i < length ctrl - 16 → counts_as_free (slice_index ctrl i) ≡ false → search_end F (decoded_cells F es ctrl) (slot_key F es i) ≡ Some i

-- the mirror has no error exactly where it is one
pub IsMirrored-mirror_refusal : (ctrl : List ℕ) → mirror_refusal ctrl ≡ None → IsMirrored ctrl
unfolding mirror_refusal
IsMirrored-mirror_refusal ctrl e i l = differs-false _ _ (gives-None _ _ (first_slot-None (mirror_refusal_at ctrl) 16 e i l))

-- and the converse
pub mirror_refusal-IsMirrored : (ctrl : List ℕ) → IsMirrored ctrl → mirror_refusal ctrl ≡ None
unfolding mirror_refusal
mirror_refusal-IsMirrored ctrl h = None-first_slot (mirror_refusal_at ctrl) 16 (λ i l. None-gives _ _ (false-differs _ _ (h i l)))

module _ (F : Format) (es ctrl : List ℕ) where
  -- ---- the errors of the slots
  -- a slot has no error exactly where it fits
  pub IsSlotFit-slot_refusal_at : (i : ℕ) → slot_refusal_at F es ctrl i ≡ None → IsSlotFit F es ctrl i
  IsSlotFit-slot_refusal_at i e =
      let a = option_or-None (non_zero_empty F es ctrl i) _ e in
      let b = option_or-None (bad_free_control ctrl i) _ a.1 in
      let c = option_or-None (control_mismatch F es ctrl i) None b.1 in
      record {
        free_zeros = λ f. not-false _ (gives_both-None _ _ (NonZeroEmpty i) a.0 f);
        free_byte = λ f. differs-false _ _ (gives_both-None _ _ (BadFreeControl i _) b.0 f);
        occupied_tag = λ f. differs-false _ _ (gives_both-None _ _ (ControlMismatch i _ _) c.0 (ap not f));
      }

  -- and the converse
  pub slot_refusal_at-IsSlotFit : (i : ℕ) → IsSlotFit F es ctrl i → slot_refusal_at F es ctrl i ≡ None
  slot_refusal_at-IsSlotFit i h =
      None-option_or _ _ (None-gives_both _ _ _ (λ f. ap not (h.free_zeros f)))
      (None-option_or _ _ (None-gives_both _ _ _ (λ f. false-differs _ _ (h.free_byte f)))
      (None-option_or _ _ (None-gives_both _ _ _ (λ f. false-differs _ _ (h.occupied_tag (not-true _ f)))) refl))

  -- and all have none exactly where each fits
  pub AllFit-slots_refusal : slots_refusal F es ctrl ≡ None → AllFit F es ctrl
  unfolding slots_refusal
  AllFit-slots_refusal e i l = IsSlotFit-slot_refusal_at i (first_slot-None (slot_refusal_at F es ctrl) (length ctrl - 16) e i l)

  -- and the converse
  pub slots_refusal-AllFit : AllFit F es ctrl → slots_refusal F es ctrl ≡ None
  unfolding slots_refusal
  slots_refusal-AllFit h = None-first_slot (slot_refusal_at F es ctrl) (length ctrl - 16) (λ i l. slot_refusal_at-IsSlotFit i (h i l))

  -- ---- where a search for a slot's key ends
  -- a slot is reachable exactly where the search for its key ends there, or it counts as free
  pub search_end-unreachable : (i : ℕ) → unreachable F es ctrl i ≡ None → counts_as_free (slice_index ctrl i) ≡ false
      → search_end F (decoded_cells F es ctrl) (slot_key F es i) ≡ Some i
  search_end-unreachable i e f = is_at-true i _ (not-false _ (gives_both-None _ _ _ e (ap not f)))

  -- and the converse
  pub unreachable-search_end : (i : ℕ) → (counts_as_free (slice_index ctrl i) ≡ false → search_end F (decoded_cells F es ctrl) (slot_key F es i) ≡ Some i)
      → unreachable F es ctrl i ≡ None
  unreachable-search_end i h = None-gives_both _ _ _ (λ f. ap not (ap (is_at i) (h (not-true _ f)) ∙ eq-eqb i i refl))

  -- and all slots are exactly where the reach has no error
  pub unreachable-reach_refusal : reach_refusal F es ctrl ≡ None → (i : ℕ) → i < length ctrl - 16 → unreachable F es ctrl i ≡ None
  unfolding reach_refusal
  unreachable-reach_refusal e = first_slot-None (unreachable F es ctrl) (length ctrl - 16) e

  -- and the converse
  pub reach_refusal-unreachable : ((i : ℕ) → i < length ctrl - 16 → unreachable F es ctrl i ≡ None) → reach_refusal F es ctrl ≡ None
  unfolding reach_refusal
  reach_refusal-unreachable h = None-first_slot (unreachable F es ctrl) (length ctrl - 16) h

  -- ---- the decoded cells
  -- there is one for each slot
  pub length-decoded_cells : length (decoded_cells F es ctrl) ≡ length ctrl - 16
  unfolding decoded_cells
  length-decoded_cells = length-map-range_with_len (decoded_cell F es ctrl) 0 (length ctrl - 16)

  -- and it is what the slot decodes to
  pub cell_at-decoded_cells : (i : ℕ) → i < length ctrl - 16 → cell_at (decoded_cells F es ctrl) i ≡ decoded_cell F es ctrl i
  unfolding decoded_cells
  cell_at-decoded_cells i l = get_or-map-range_with_len (decoded_cell F es ctrl) 0 (length ctrl - 16) i i None l (zero-add i)

  -- by whether its control byte counts as free
  decoded_cell-at : (i : ℕ) (b : Bool) → counts_as_free (slice_index ctrl i) ≡ b
      → decoded_cell F es ctrl i ≡ cond b None (Some (record { key = slot_key F es i; value = slot_value F es i }))
  decoded_cell-at i b e = ap (λ c. cond c None (Some (record { key = slot_key F es i; value = slot_value F es i }))) e

  -- a fit slot has the entry of its cell
  entry_bytes-decoded_cell : (i : ℕ) → IsSlotFit F es ctrl i → length (slot_entry F es i) ≡ entry_len F → entry_bytes F (decoded_cell F es ctrl i) ≡ slot_entry F es i
  entry_bytes-decoded_cell i fit n = go (counts_as_free (slice_index ctrl i)) refl
    where
      go : (b : Bool) → counts_as_free (slice_index ctrl i) ≡ b → entry_bytes F (decoded_cell F es ctrl i) ≡ slot_entry F es i
      go true e = ap (entry_bytes F) (decoded_cell-at i true e) ∙ sym (zeros-list_all (slot_entry F es i) (fit.free_zeros e) ∙ ap (λ m. replicate m 0) n)
      go false e = ap (entry_bytes F) (decoded_cell-at i false e) ∙ take-append-drop F.key_len (slot_entry F es i)

  -- and its control byte
  control_byte-decoded_cell : (i : ℕ) → IsSlotFit F es ctrl i → control_byte F (decoded_cell F es ctrl i) ≡ slice_index ctrl i
  control_byte-decoded_cell i fit = go (counts_as_free (slice_index ctrl i)) refl
    where
      go : (b : Bool) → counts_as_free (slice_index ctrl i) ≡ b → control_byte F (decoded_cell F es ctrl i) ≡ slice_index ctrl i
      go true e = ap (control_byte F) (decoded_cell-at i true e) ∙ sym (fit.free_byte e)
      go false e = ap (control_byte F) (decoded_cell-at i false e) ∙ sym (fit.occupied_tag e)

-- pieces of one length, cut out of a list, give it again
pieces_again : (w : ℕ) (g : ℕ → List ℕ) (es : List ℕ) (a n : ℕ) → length es ≡ n * w
    → ((i j : ℕ) → i < n → a + i ≡ j → g j ≡ take w (drop (i * w) es)) → flat_map g (range_with_len a n) ≡ es
pieces_again w g es a zero l h = sym (nil_from_length es (omega (arith, l)))
pieces_again w g es a (suc n) l h =
    let d = length-drop w es in
    let first : g a ≡ take w es = h 0 a (omega arith) (omega arith) ∙ ap (λ k. take w (drop k es)) (zero-mul w) in
    let rest = pieces_again w g (drop w es) (a + 1) n (omega (arith, d, l)) (λ i j lt e.
    h (suc i) j (omega arith) (omega arith) ∙ ap (take w) (ap (λ k. drop k es) (step i) ∙ sym (drop-drop (i * w) w es))) in
    ap₂ (λ xs ys. xs ++ ys) first rest ∙ take-append-drop w es
  where
    step : (i : ℕ) → suc i * w ≡ w + i * w
    step i = omega arith

module _ (F : Format) (es ctrl : List ℕ) (fits : AllFit F es ctrl) where
  -- ---- fit slots, and a mirror, decode to cells with their parts
  -- the entries
  pub entries-decoded_cells : length es ≡ (length ctrl - 16) * entry_len F → entries F (decoded_cells F es ctrl) ≡ es
  unfolding entries decoded_cells
  entries-decoded_cells long =
      flat_map-map (entry_bytes F) (decoded_cell F es ctrl) (range_with_len 0 (length ctrl - 16))
      ∙ pieces_again (entry_len F) (λ j. entry_bytes F (decoded_cell F es ctrl j)) es 0 (length ctrl - 16) long at
    where
      at : (i j : ℕ) → i < length ctrl - 16 → 0 + i ≡ j → entry_bytes F (decoded_cell F es ctrl j) ≡ take (entry_len F) (drop (i * entry_len F) es)
      at i j l e =
          let same : i ≡ j = omega arith in
          subst (λ k. entry_bytes F (decoded_cell F es ctrl k) ≡ take (entry_len F) (drop (i * entry_len F) es)) same
          (entry_bytes-decoded_cell F es ctrl i (fits i l) (length-slot_entry F es (length ctrl - 16) i long l) ∙ bytes_at-take es (i * entry_len F) (entry_len F))

  module _ (enough : 16 ≤ length ctrl - 16) (mirrored : IsMirrored ctrl) where
    front : map (control_byte F) (decoded_cells F es ctrl) ≡ take (length ctrl - 16) ctrl
    front =
        let n = length-map (decoded_cells F es ctrl) (control_byte F) ∙ length-decoded_cells F es ctrl in
        let t = length-take-le (length ctrl - 16) ctrl (omega arith) in
        ext_get_or 0 _ _ (n ∙ sym t) (λ i l. at i (subst (λ k. i < k) n l))
      where
        at : (i : ℕ) → i < length ctrl - 16 → get_or (map (control_byte F) (decoded_cells F es ctrl)) i 0 ≡ get_or (take (length ctrl - 16) ctrl) i 0
        at i l =
            get_or-map (control_byte F) (decoded_cells F es ctrl) i None 0 (subst (λ k. i < k) (sym (length-decoded_cells F es ctrl)) l)
            ∙ ap (control_byte F) (cell_at-decoded_cells F es ctrl i l)
            ∙ control_byte-decoded_cell F es ctrl i (fits i l)
            ∙ sym (get_or-take (length ctrl - 16) ctrl i 0 l)

    back : take 16 (take (length ctrl - 16) ctrl) ≡ drop (length ctrl - 16) ctrl
    back =
        let t = length-take-le (length ctrl - 16) ctrl (omega arith) in
        let u = length-take-le 16 (take (length ctrl - 16) ctrl) (omega (arith, t, enough)) in
        let d = length-drop (length ctrl - 16) ctrl in
        ext_get_or 0 _ _ (omega (arith, u, d, enough)) (λ i l. at i (subst (λ k. i < k) u l))
      where
        at : (i : ℕ) → i < 16 → get_or (take 16 (take (length ctrl - 16) ctrl)) i 0 ≡ get_or (drop (length ctrl - 16) ctrl) i 0
        at i l =
            get_or-take 16 (take (length ctrl - 16) ctrl) i 0 l
            ∙ get_or-take (length ctrl - 16) ctrl i 0 (omega (arith, enough))
            ∙ sym (get_or-drop (length ctrl - 16) ctrl i 0 ∙ mirrored i l)

    -- and the control bytes
    pub controls-decoded_cells : controls F (decoded_cells F es ctrl) ≡ ctrl
    unfolding controls
    controls-decoded_cells =
        ap (λ xs. xs ++ take 16 xs) front
        ∙ ap (λ ys. take (length ctrl - 16) ctrl ++ ys) back
        ∙ take-append-drop (length ctrl - 16) ctrl
