-- Whether each slot before that of a key, in the key's probe order, is occupied by another key: on parts whose control
-- bytes and mirror are right.
use Rattle.std.proofs.Common.{◌≡◌, ℕ, ◌+◌, ◌-◌, ◌%◌, ◌<◌, ◌≤◌, ◌||◌, inl, inr, sym, ap, ◌∙◌, subst, refl, arith, Bool, true, false, cond, true≢false, List, Option, Some, None, is_none, length, slice_index, Contains, bytes_eq, eq-eqb, eqb-true}
use Rattle.std.specs.Option.{unwrap_or}
use Rattle.odht_raw.proofs.lemmas.Below.{add-mod_right, cases_lt, false_from_ne_true, find-order_some, index-bytes_at, key_itself, mod-eq_of_lt, or_from, or_left, or_right, position-Some, probe_slot-apart, same_bytes, search_end-at}
use Rattle.odht_raw.specs.Words.{bytes_at, Cells, counts_as_free, decoded_cells, first_free, Format, has_key, home, is_at, IsReport, IsSlotCount, Pair, probe_slot, search_end, slot_key, slot_value, stops_at, tag}
use Rattle.odht_raw.proofs.lemmas.GroupLooks.{position-None}
use Rattle.odht_raw.proofs.lemmas.SlotFits.{IsMirrored, length-decoded_cells, cell_at-decoded_cells}

-- ---- the cells that parts decode to
module _ (F : Format) (es ctrl : List ℕ) (s : ℕ) (control : length ctrl ≡ s + 16) where
  slots : length ctrl - 16 ≡ s
  slots = omega (arith, control)

  -- they are as many as the slots
  pub slots_decoded : length (decoded_cells F es ctrl) ≡ s
  slots_decoded = length-decoded_cells F es ctrl ∙ slots

  -- a search stops there at a byte that counts as free, or at the key
  pub stops_at-decoded_cells : (k : List ℕ) (i : ℕ) → i < s → stops_at (decoded_cells F es ctrl) k i ≡ (counts_as_free (slice_index ctrl i) || bytes_eq k (slot_key F es i))
  stops_at-decoded_cells k i l = ap (λ c. is_none c || has_key k c) (cell_at-decoded_cells F es ctrl i (subst (λ n. i < n) (sym slots) l)) ∙ go (counts_as_free (slice_index ctrl i))
    where
      entry : Pair
      entry = record { key = slot_key F es i; value = slot_value F es i }

      go : (b : Bool) → (is_none (cond b None (Some entry)) || has_key k (cond b None (Some entry))) ≡ (b || bytes_eq k (slot_key F es i))
      go true = refl
      go false = refl

  module _ (k : List ℕ) (i : ℕ) (l : i < s) where
    -- so it does at a free slot
    pub stops_free : counts_as_free (slice_index ctrl i) ≡ true → stops_at (decoded_cells F es ctrl) k i ≡ true
    stops_free e = stops_at-decoded_cells k i l ∙ or_left _ _ e

    -- and at the key
    pub stops_key : slot_key F es i ≡ k → stops_at (decoded_cells F es ctrl) k i ≡ true
    stops_key e = stops_at-decoded_cells k i l ∙ or_right (counts_as_free (slice_index ctrl i)) _ (ap (bytes_eq k) e ∙ key_itself k)

    -- and nowhere else
    pub stops_not : counts_as_free (slice_index ctrl i) ≡ false → (slot_key F es i ≡ k → ⊥) → stops_at (decoded_cells F es ctrl) k i ≡ false
    stops_not e other = stops_at-decoded_cells k i l ∙ or_from _ _ e (false_from_ne_true _ (λ t. other (sym (same_bytes k (slot_key F es i) t))))

  -- ---- a group of sixteen slots from b on
  module _ (least : 16 ≤ s) (mirror : IsMirrored ctrl) (b : ℕ) (from : b < s) where
    abbrev pub slot : ℕ → ℕ
    slot j = (b + j) % s

    slot_low : (j : ℕ) → slot j < s
    slot_low j = omega (arith, least)

    -- its bytes are those of its slots
    group_byte : (j : ℕ) → j < 16 → slice_index (bytes_at ctrl b 16) j ≡ slice_index ctrl (slot j)
    group_byte j h = index-bytes_at ctrl b 16 j h ∙ elim (cases_lt (b + j) s) [
      | inl inside ↦ ap (slice_index ctrl) (sym (mod-eq_of_lt {n = b + j} {m = s} inside))
      | inr past ↦
          let x : ℕ = b + j - s in
          let turn : x + s ≡ b + j = omega arith in
          let low : x < s = omega arith in
          let behind : b + j ≡ length ctrl - 16 + x = omega (arith, slots) in
          ap (slice_index ctrl) behind ∙ mirror x (omega arith)
          ∙ ap (slice_index ctrl) (sym (ap (λ y. y % s) (sym turn) ∙ add-mod_right x s ∙ mod-eq_of_lt {n = x} {m = s} low))
    ]

    module _ (k xs : List ℕ) (report : IsReport (bytes_at ctrl b 16) (tag F k) xs) where
      -- a free byte before slot n of the group stops the search
      pub stopped_free : (n : ℕ) → n ≤ 16 → unwrap_or (first_free (bytes_at ctrl b 16)) 16 < n → ((j : ℕ) → j < n → stops_at (decoded_cells F es ctrl) k (slot j) ≡ false) → ⊥
      stopped_free n few before passed = go (first_free (bytes_at ctrl b 16)) refl before
        where
          go : (o : Option ℕ) → first_free (bytes_at ctrl b 16) ≡ o → unwrap_or o 16 < n → ⊥
          go None e l = omega (arith, l, few)
          go (Some f) e l =
              let q = position-Some counts_as_free (bytes_at ctrl b 16) f 0 e in
              let free : counts_as_free (slice_index ctrl (slot f)) ≡ true = ap counts_as_free (sym (group_byte f (omega (arith, l, few)))) ∙ q.1 in
              true≢false (sym (stops_free k (slot f) (slot_low f) free) ∙ passed f l)

      -- and so does a match that has the key
      pub stopped_key : (n x : ℕ) → x < n → slot_key F es (slot x) ≡ k → ((j : ℕ) → j < n → stops_at (decoded_cells F es ctrl) k (slot j) ≡ false) → ⊥
      stopped_key n x l same passed = true≢false (sym (stops_key k (slot x) (slot_low x) same) ∙ passed x l)

      -- nothing else does, where control bytes are tags
      module _ (tags : (i : ℕ) → i < s → counts_as_free (slice_index ctrl i) ≡ false → slice_index ctrl i ≡ tag F (slot_key F es i)) (within : length (bytes_at ctrl b 16) ≡ 16) where
        passed_slot : (n j : ℕ) → n ≤ 16 → j < n → counts_as_free (slice_index (bytes_at ctrl b 16) j) ≡ false
            → ((x : ℕ) → Contains xs x → x < n → slot_key F es (slot x) ≡ k → ⊥) → stops_at (decoded_cells F es ctrl) k (slot j) ≡ false
        passed_slot n j few l occupied others =
            let byte = group_byte j (omega arith) in
            let here : counts_as_free (slice_index ctrl (slot j)) ≡ false = ap counts_as_free (sym byte) ∙ occupied in
            stops_not k (slot j) (slot_low j) here (λ same. others j
            (report.complete j (omega arith) (byte ∙ tags (slot j) (slot_low j) here ∙ ap (tag F) same)) l same)

        pub passes : (n : ℕ) → n ≤ 16 → n ≤ unwrap_or (first_free (bytes_at ctrl b 16)) 16 → ((x : ℕ) → Contains xs x → x < n → slot_key F es (slot x) ≡ k → ⊥)
            → (j : ℕ) → j < n → stops_at (decoded_cells F es ctrl) k (slot j) ≡ false
        passes n few after others j l = go (first_free (bytes_at ctrl b 16)) refl after
          where
            go : (o : Option ℕ) → first_free (bytes_at ctrl b 16) ≡ o → n ≤ unwrap_or o 16 → stops_at (decoded_cells F es ctrl) k (slot j) ≡ false
            go None e h = passed_slot n j few l (position-None counts_as_free (bytes_at ctrl b 16) 0 e j (omega (arith, l, few, within))) others
            go (Some f) e h =
                let q = position-Some counts_as_free (bytes_at ctrl b 16) f 0 e in
                passed_slot n j few l (q.2 j (omega (arith, l, h))) others

-- ---- where a search for k among cells ends
module _ (F : Format) (cs : Cells) (k : List ℕ) (count : IsSlotCount (length cs)) where
  abbrev pub position_of : ℕ → ℕ
  position_of q = probe_slot (home F k (length cs)) (length cs) q

  -- at the slot of a position where it stops, once it passed the positions before
  pub ends_there : (i n : ℕ) → n < length cs → position_of n ≡ i → ((q : ℕ) → q < n → stops_at cs k (position_of q) ≡ false) → stops_at cs k i ≡ true → is_at i (search_end F cs k) ≡ true
  ends_there i n l slot_is passed stop =
      ap (is_at i) (search_end-at F cs k n l passed (ap (stops_at cs k) slot_is ∙ stop) ∙ ap Some slot_is) ∙ eq-eqb i i refl

  -- otherwise it does not end there
  pub ends_elsewhere : (i n : ℕ) → n < length cs → position_of n ≡ i → (((q : ℕ) → q < n → stops_at cs k (position_of q) ≡ false) → ⊥) → is_at i (search_end F cs k) ≡ false
  unfolding search_end
  ends_elsewhere i n l slot_is stopped = false_from_ne_true _ (λ t. go (search_end F cs k) refl t)
    where
      go : (o : Option ℕ) → search_end F cs k ≡ o → is_at i o ≡ true → ⊥
      go None e t = true≢false (sym t)
      go (Some j) e t =
          let same : i ≡ j = eqb-true i j t in
          let f = find-order_some (stops_at cs k) (home F k (length cs)) (length cs) j e in
          let at : f.position ≡ n = probe_slot-apart (home F k (length cs)) (length cs) f.position n count f.within l (f.slot_is ∙ sym same ∙ sym slot_is) in
          stopped (λ q lq. f.before q (omega (arith, lq, at)))
