-- Bytes for which the check has no error, part by part; such bytes are those of the valid table that they decode to.
--     IsSound F B   the header and the length of B fit, and so does all that the whole check looks at beyond them
use Rattle.std.proofs.Common.{◌≡◌, ◌<◌, ◌≤◌, ◌∙◌, ◌+◌, ◌-◌, ◌*◌, ◌++◌, ℕ, suc, Bool, true, false, cond, sym, ap, ap₂, subst, subst₂, refl, List, [], ◌∷◌, Option, Some, None, drop, length, slice_index, arith, All, length-drop, length-take-le, drop-cons, ltb-false, le-ltb}
use Rattle.odht_raw.proofs.lemmas.Below.{All-bytes_at, All-drop, All-take, AllArrive, cell_at-within, differs-false, drop-bytes_at, false-differs, false-lists_differ, gives-None, IsPlaced-AllArrive, le_bytes-num_at, length-bytes_at, length-slot_entry, lists_differ-false, None-gives, None-option_or, none-some, option_or-None, some_same}
use Rattle.odht_raw.specs.Words.{bytes_at, cell_at, controls_of, count, count_refusal, counts_as_free, decoded_cell, decoded_cells, decoded_table, entries_of, entry_len, factor_refusal, Format, HasPairsOf, header_bytes, header_count, header_factor, header_slots, image, IsBytes, IsPlaced, IsSlotCount, IsValid, IsValidBytes, late_refusal_by, le_bytes, longer_refusal, max_items, mirror_refusal, num, num-lt, padding_refusal, Pair, parts, reach_refusal, room_refusal, search_end, slot_count, slot_entry, slot_key, slot_value, slots_refusal, Table}
use Rattle.odht_raw.specs.Frame.{IsAccepted}
use Rattle.odht_raw.proofs.lemmas.Accepted.{accepted_opening, accepted_slots, accepted_len}
use Rattle.odht_raw.proofs.lemmas.SlotFits.{AllFit, IsMirrored, AllFound, AllFit-slots_refusal, slots_refusal-AllFit, IsMirrored-mirror_refusal, mirror_refusal-IsMirrored, search_end-unreachable, unreachable-search_end, unreachable-reach_refusal, reach_refusal-unreachable, length-decoded_cells, cell_at-decoded_cells, entries-decoded_cells, controls-decoded_cells}

pub record IsSound (F : Format) (B : List ℕ) : Type 0 where
  pub accepted : IsAccepted F B
  pub factor_low : 655 ≤ header_factor B
  pub padding_is : bytes_at B 30 2 ≡ 0 ∷ 0 ∷ []
  pub slots_fit : AllFit F (entries_of F B) (controls_of F B)
  pub mirrored : IsMirrored (controls_of F B)
  pub count_is : header_count B ≡ count (decoded_table F B)
  pub room : header_count B ≤ max_items (header_slots B) (header_factor B)
  pub found : AllFound F (entries_of F B) (controls_of F B)

-- for accepted bytes the rest of the check has no error exactly where they are sound, and searches within the bound
pub IsSound-late_refusal : (F : Format) (o : Option ℕ) (B : List ℕ) → IsAccepted F B → late_refusal_by F o B ≡ None → IsSound F B × (longer_refusal (controls_of F B) o ≡ None)
unfolding late_refusal_by
IsSound-late_refusal F o B accepted e =
    let es = entries_of F B in
    let ctrl = controls_of F B in
    let a = option_or-None (factor_refusal B) _ e in
    let b = option_or-None (padding_refusal B) _ a.1 in
    let c = option_or-None (slots_refusal F es ctrl) _ b.1 in
    let d = option_or-None (mirror_refusal ctrl) _ c.1 in
    let f = option_or-None (count_refusal (count (decoded_table F B)) B) _ d.1 in
    let g = option_or-None (room_refusal B) _ f.1 in
    let k = option_or-None (longer_refusal ctrl o) _ g.1 in
    let h = option_or-None (reach_refusal F es ctrl) None k.1 in (
      record {
        accepted = accepted;
        factor_low = ltb-false _ _ (gives-None _ _ a.0);
        padding_is = lists_differ-false _ _ (gives-None _ _ b.0);
        slots_fit = AllFit-slots_refusal F es ctrl c.0;
        mirrored = IsMirrored-mirror_refusal ctrl d.0;
        count_is = differs-false _ _ (gives-None _ _ f.0);
        room = ltb-false _ _ (gives-None _ _ g.0);
        found = λ i l. search_end-unreachable F es ctrl i (unreachable-reach_refusal F es ctrl h.0 i l);
      },
      k.0,
    )

-- and the converse
pub late_refusal-IsSound : (F : Format) (o : Option ℕ) (B : List ℕ) → IsSound F B → longer_refusal (controls_of F B) o ≡ None → late_refusal_by F o B ≡ None
unfolding late_refusal_by
late_refusal-IsSound F o B h within =
    let es = entries_of F B in
    let ctrl = controls_of F B in
    None-option_or _ _ (None-gives _ _ (le-ltb _ _ h.factor_low))
    (None-option_or _ _ (None-gives _ _ (false-lists_differ _ _ h.padding_is))
    (None-option_or _ _ (slots_refusal-AllFit F es ctrl h.slots_fit)
    (None-option_or _ _ (mirror_refusal-IsMirrored ctrl h.mirrored)
    (None-option_or _ _ (None-gives _ _ (false-differs _ _ h.count_is))
    (None-option_or _ _ (None-gives _ _ (le-ltb _ _ h.room))
    (None-option_or _ _ within
    (None-option_or _ _ (reach_refusal-unreachable F es ctrl (λ i l. unreachable-search_end F es ctrl i (h.found i l))) refl)))))))

-- ---- the cells that parts decode to
module _ (F : Format) (es ctrl : List ℕ) where
  -- a slot that decodes to a pair is occupied, and the pair is its entry
  decoded_cell-Some : (i : ℕ) (p : Pair) → decoded_cell F es ctrl i ≡ Some p
      → (counts_as_free (slice_index ctrl i) ≡ false) × (p ≡ record { key = slot_key F es i; value = slot_value F es i })
  decoded_cell-Some i p e = go (counts_as_free (slice_index ctrl i)) e
    where
      go : (b : Bool) → cond b None (Some (record { key = slot_key F es i; value = slot_value F es i })) ≡ Some p
          → (b ≡ false) × (p ≡ record { key = slot_key F es i; value = slot_value F es i })
      go true g = absurd (none-some p g)
      go false g = (refl, sym (some_same _ p g))

  -- the slot of a cell with a pair
  record IsOccupiedBy (i : ℕ) (p : Pair) : Type 0 where
    within : i < length ctrl - 16
    occupied : counts_as_free (slice_index ctrl i) ≡ false
    pair_is : p ≡ record { key = slot_key F es i; value = slot_value F es i }

  IsOccupiedBy-Some : (i : ℕ) (p : Pair) → cell_at (decoded_cells F es ctrl) i ≡ Some p → IsOccupiedBy i p
  IsOccupiedBy-Some i p e =
      let within = subst (λ n. i < n) (length-decoded_cells F es ctrl) (cell_at-within (decoded_cells F es ctrl) i p e) in
      let is = decoded_cell-Some i p (sym (cell_at-decoded_cells F es ctrl i within) ∙ e) in
      record { within = within; occupied = is.0; pair_is = is.1 }

  -- each pair is of the format
  HasPairsOf-decoded_cells : length es ≡ (length ctrl - 16) * entry_len F → All (λ x. x < 256) es → HasPairsOf F (decoded_cells F es ctrl)
  HasPairsOf-decoded_cells long small i p e =
      let t = IsOccupiedBy-Some i p e in
      let entry = slot_entry F es i in
      let n = length-slot_entry F es (length ctrl - 16) i long t.within in
      let all = All-bytes_at es (i * entry_len F) (entry_len F) small in
      record {
        key = subst (λ (q : Pair). IsBytes F.key_len q.key) (sym t.pair_is) (record {
          len = length-take-le F.key_len entry (omega (arith, n));
          each = All-take (λ x. x < 256) F.key_len entry all;
        });
        value = subst (λ (q : Pair). IsBytes F.value_len q.value) (sym t.pair_is) (record {
          len = omega (arith, n, length-drop F.key_len entry);
          each = All-drop (λ x. x < 256) F.key_len entry all;
        });
      }

  -- where each occupied slot is found, they are those of a placed table
  IsPlaced-decoded_cells : (f : ℕ) → IsSlotCount (length ctrl - 16) → length es ≡ (length ctrl - 16) * entry_len F → All (λ x. x < 256) es → AllFound F es ctrl
      → IsPlaced F (record { factor = f; cells = decoded_cells F es ctrl })
  IsPlaced-decoded_cells f slots long small found =
      let P : Table = record { factor = f; cells = decoded_cells F es ctrl } in
      IsPlaced-AllArrive F P (subst IsSlotCount (sym (length-decoded_cells F es ctrl)) slots) (HasPairsOf-decoded_cells long small) arrives
    where
      arrives : AllArrive F (record { factor = f; cells = decoded_cells F es ctrl })
      arrives i p e =
          let t = IsOccupiedBy-Some i p e in
          ap (λ (q : Pair). search_end F (decoded_cells F es ctrl) q.key) t.pair_is ∙ found i t.within t.occupied

-- a list that begins with xs, whose rest begins with zs
glue : (xs ys zs ws : List ℕ) → ys ≡ xs ++ zs → zs ≡ ws → ys ≡ xs ++ ws
glue xs ys zs ws e h = e ∙ ap (λ vs. xs ++ vs) h

-- ---- sound bytes are valid
module _ (F : Format) (B : List ℕ) (small : All (λ x. x < 256) B) (h : IsSound F B) where
  long : 32 ≤ length B
  long = (accepted_opening F B h.accepted).long

  entries_long : length (entries_of F B) ≡ header_slots B * entry_len F
  entries_long = length-bytes_at B 32 (header_slots B * entry_len F) (omega (arith, accepted_len F B h.accepted))

  slots_are : length (controls_of F B) - 16 ≡ header_slots B
  slots_are = omega (arith, length-drop (32 + header_slots B * entry_len F) B, accepted_len F B h.accepted)

  parts_long : length (entries_of F B) ≡ (length (controls_of F B) - 16) * entry_len F
  parts_long = entries_long ∙ ap (λ s. s * entry_len F) (sym slots_are)

  slot_count-decoded_table : slot_count (decoded_table F B) ≡ header_slots B
  slot_count-decoded_table = length-decoded_cells F (entries_of F B) (controls_of F B) ∙ slots_are

  -- they decode to a valid table
  IsValid-decoded_table : IsValid F (decoded_table F B)
  IsValid-decoded_table = record {
    placed = IsPlaced-decoded_cells F (entries_of F B) (controls_of F B) (header_factor B) (subst IsSlotCount (sym slots_are) (accepted_slots F B h.accepted))
        parts_long (All-bytes_at B 32 (header_slots B * entry_len F) small) h.found;
    factor_low = h.factor_low;
    factor_high =
        let below = num-lt 2 (bytes_at B 28 2) (record { len = length-bytes_at B 28 2 (omega (arith, long)); each = All-bytes_at B 28 2 small }) in
        omega (arith, below);
    room = subst₂ (λ n m. n ≤ max_items m (header_factor B)) h.count_is (sym slot_count-decoded_table) h.room;
  }

  -- a field's bytes are those of its number
  field_again : (at n : ℕ) → at + n ≤ length B → bytes_at B at n ≡ le_bytes n (num (bytes_at B at n))
  field_again at n l = sym (le_bytes-num_at n (bytes_at B at n) (length-bytes_at B at n l) (All-bytes_at B at n small))

  -- a byte, and a field, then the rest
  byte_then : (at x : ℕ) → at < length B → slice_index B at ≡ x → drop at B ≡ (x ∷ []) ++ drop (suc at) B
  byte_then at x l e = drop-cons B at 0 l ∙ ap (λ y. y ∷ drop (suc at) B) e

  field_then : (at n : ℕ) (xs : List ℕ) → bytes_at B at n ≡ xs → drop at B ≡ xs ++ drop (at + n) B
  field_then at n xs e = drop-bytes_at B at n ∙ ap (λ ys. ys ++ drop (at + n) B) e

  header_again : B ≡ header_bytes F (header_slots B) (header_count B) (header_factor B) ++ drop 32 B
  header_again =
      let header = (accepted_opening F B h.accepted).header in
      glue (79 ∷ 68 ∷ 72 ∷ 84 ∷ []) _ _ _ (field_then 0 4 _ header.tag_is)
      (glue (1 ∷ []) _ _ _ (byte_then 4 1 (omega (arith, long)) header.metadata_is)
      (glue (F.key_len ∷ []) _ _ _ (byte_then 5 F.key_len (omega (arith, long)) header.key_len_is)
      (glue (F.value_len ∷ []) _ _ _ (byte_then 6 F.value_len (omega (arith, long)) header.value_len_is)
      (glue (32 ∷ []) _ _ _ (byte_then 7 32 (omega (arith, long)) header.header_len_is)
      (glue (le_bytes 8 (header_count B)) _ _ _ (field_then 8 8 _ (field_again 8 8 (omega (arith, long))))
      (glue (le_bytes 8 (header_slots B)) _ _ _ (field_then 16 8 _ (field_again 16 8 (omega (arith, long))))
      (glue (0 ∷ 0 ∷ 0 ∷ 2 ∷ []) _ _ _ (field_then 24 4 _ header.version_is)
      (glue (le_bytes 2 (header_factor B)) _ _ _ (field_then 28 2 _ (field_again 28 2 (omega (arith, long))))
      (field_then 30 2 _ h.padding_is)))))))))

  parts_again : drop 32 B ≡ parts F (decoded_table F B).cells
  parts_again =
      let enough : 16 ≤ length (controls_of F B) - 16 = omega (arith, slots_are, (accepted_slots F B h.accepted).least) in
      drop-bytes_at B 32 (header_slots B * entry_len F)
      ∙ sym (ap₂ (λ xs ys. xs ++ ys) (entries-decoded_cells F (entries_of F B) (controls_of F B) h.slots_fit parts_long)
      (controls-decoded_cells F (entries_of F B) (controls_of F B) h.slots_fit enough h.mirrored))

  -- and are its image
  image-decoded_table : B ≡ image F (decoded_table F B)
  unfolding image
  image-decoded_table =
      header_again
      ∙ ap₂ (λ s c. header_bytes F s c (header_factor B) ++ drop 32 B) (sym slot_count-decoded_table) h.count_is
      ∙ ap (λ xs. header_bytes F (slot_count (decoded_table F B)) (count (decoded_table F B)) (header_factor B) ++ xs) parts_again

  -- so they are valid
  pub IsValidBytes-IsSound : IsValidBytes F B
  IsValidBytes-IsSound = (decoded_table F B, record { valid = IsValid-decoded_table; bytes = image-decoded_table })
