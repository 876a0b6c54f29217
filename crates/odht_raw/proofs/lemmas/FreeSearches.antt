-- A search for the first free slot: what a group reports, and where it ends in a placed table without the key.
use Rattle.std.proofs.Common.{false, true, ◌≡◌, ℕ, ◌+◌, ◌-◌, ◌*◌, ◌%◌, ◌<◌, ◌≤◌, inl, inr, sym, ap, ◌∙◌, subst, refl, arith, List, length, slice_index, IsTrue, Some, None}
use Rattle.odht_raw.proofs.lemmas.Below.{cases_lt, counts_as_free-control_byte, has_key-None, index-bytes_at, length-bytes_at, or_from, or_left, position-Some, probe_slot-lt, search_end-at, slice_index-mirror}
use Rattle.odht_raw.specs.Words.{bytes_at, counts_as_free, first_free, Format, home, is_free, IsFormat, IsPartsOf, IsSlotCount, map_of, probe_slot, slot_count, stops_at, Table}
use Rattle.odht_raw.specs.SearchResults.{answer}
use Rattle.odht_raw.specs.Frame.{CountsAsFree, CountsAsOccupied, HasNoFree, EachCountsAsOccupied}
use Rattle.odht_raw.specs.FreeSlots.{IsFirstFree, IsFirstFreeByte}
use Rattle.odht_raw.specs.SearchSteps.{slot_of, Passed}
use Rattle.odht_raw.specs.declared.raw_table.search_result.Search.TheVariants.{Free, Neither}
use Rattle.odht_raw.proofs.lemmas.GroupLooks.{no_free-more, position-None}
use Rattle.odht_raw.proofs.lemmas.GroupSearches.{OccupiedBefore, group-byte}
use Rattle.odht_raw.proofs.lemmas.PartCells.{slots_are, byte_is}
use Rattle.odht_raw.proofs.lemmas.PlainSearch.{no_end}
use Rattle.odht_raw.proofs.lemmas.ProbeSteps.{probe_slot-step, at_home}

-- ---- the pieces of a group
module _ (bs : List ℕ) (n size : ℕ) (within : n * size + size ≤ length bs) (before : HasNoFree bs (n * size)) where
  -- the first free byte of a piece is that of the group, after pieces without one
  pub first_byte : (i : ℕ) → first_free (bytes_at bs (n * size) size) ≡ Some i → IsFirstFreeByte bs (n * size + i)
  first_byte i e =
      let len = length-bytes_at bs (n * size) size within in
      let q = position-Some counts_as_free (bytes_at bs (n * size) size) i 0 e in
      let low : i < size = omega (arith, q.0) in
      record {
        within = omega arith;
        free = subst (λ c. IsTrue (counts_as_free c)) (index-bytes_at bs (n * size) size i low) q.1;
        earlier_occupied = λ j l. elim (cases_lt j (n * size)) [
          | inl there ↦ before j there
          | inr here ↦
              let m : ℕ = j - n * size in
              let at : n * size + m ≡ j = omega arith in
              subst (λ c. counts_as_free c ≡ false) (index-bytes_at bs (n * size) size m (omega arith) ∙ ap (slice_index bs) at) (q.2 m (omega arith))
        ];
      }

  -- where a piece has none, neither have the pieces up to it
  pub no_byte : first_free (bytes_at bs (n * size) size) ≡ None → HasNoFree bs ((n + 1) * size)
  no_byte e =
      let len = length-bytes_at bs (n * size) size within in
      no_free-more bs n size before (λ i l. position-None counts_as_free (bytes_at bs (n * size) size) 0 e i (omega arith))

-- ---- the groups of a probe order
-- the first free byte of a group is that of the first free slot, after groups without one
pub first_in_group : (ctrl bs : List ℕ) (hash s start p i : ℕ) → length ctrl ≡ s + 16 → 16 ≤ s → p % 16 ≡ 0 → p + 16 ≤ s → start ≡ probe_slot (hash % s) s p → bs ≡ bytes_at ctrl start 16
    → OccupiedBefore ctrl (hash % s) s p → IsFirstFreeByte bs i → IsFirstFree ctrl hash s ((start + i) % s)
first_in_group ctrl bs hash s start p i len few aligned within is read before byte =
    let low : start < s = omega (arith, is, probe_slot-lt (hash % s) s p (omega arith)) in
    let long : length bs ≡ 16 = ap length read ∙ length-bytes_at ctrl start 16 (omega arith) in
    let here : i < 16 = omega (arith, byte.within) in
    let step : (j : ℕ) → j < 16 → (start + j) % s ≡ probe_slot (hash % s) s (p + j) = λ j l. ap (λ x. (x + j) % s) is ∙ probe_slot-step (hash % s) s p j (omega arith) in
    record {
      position = p + i;
      in_order = omega arith;
      slot_is = sym (step i here);
      free = group-byte (λ c. IsTrue (counts_as_free c)) ctrl s start i len few low here (subst (λ x. IsTrue (counts_as_free (slice_index x i))) read byte.free);
      earlier_occupied = λ q l. elim (cases_lt q p) [
        | inl there ↦ before q there
        | inr past ↦
            let j : ℕ = q - p in
            let at : p + j ≡ q = omega arith in
            let less : j < 16 = omega arith in
            subst (CountsAsOccupied ctrl) (step j less ∙ ap (probe_slot (hash % s) s) at)
            (group-byte (λ c. counts_as_free c ≡ false) ctrl s start j len few low less (subst (λ x. counts_as_free (slice_index x j) ≡ false) read (byte.earlier_occupied j (omega arith))))
      ];
    }

-- the home slot is the first of the order
pub first_at_home : (ctrl : List ℕ) (hash s : ℕ) → IsSlotCount s → CountsAsFree ctrl (hash % s) → IsFirstFree ctrl hash s (hash % s)
first_at_home ctrl hash s count free =
    let few = count.least in
    let same : s ≡ s - 1 + 1 = omega arith in
    let home : probe_slot (hash % s) (s - 1 + 1) 0 ≡ hash % s = sym (at_home 16 (hash % s) (s - 1) (subst IsSlotCount same count) refl (omega arith)).slot_is in
    record {
      position = 0;
      in_order = omega arith;
      slot_is = ap (λ n. probe_slot (hash % s) n 0) same ∙ home;
      free = free;
      earlier_occupied = λ q l. absurd (omega (arith, l));
    }

-- ---- the parts of a placed table
module _ (F : Format) (P : Table) (k es ctrl : List ℕ) (f : IsFormat F) (h : IsPartsOf F P es ctrl) (s : ℕ) (len : length ctrl ≡ s + 16) where
  -- the mirror of a slot counts as free where its own byte does
  mirror_is : (i : ℕ) → i < 16 → counts_as_free (slice_index ctrl (length ctrl - 16 + i)) ≡ is_free P.cells i
  mirror_is i l =
      let few = h.placed.slots.least in
      let count = slots_are F f P es ctrl h s len in
      let at : length ctrl - 16 + i ≡ slot_count P + i = omega arith in
      (λ j. counts_as_free (slice_index (h.controls_are j) (at j)))
      ∙ ap counts_as_free (slice_index-mirror F P.cells i l (omega arith))
      ∙ counts_as_free-control_byte F P.cells i f h.placed.pairs

  -- a slot that counts as free is free
  pub is_free_slot : (i : ℕ) → i < slot_count P → CountsAsFree ctrl i → is_free P.cells i ≡ true
  is_free_slot i l (inl own) = sym (byte_is F f P es ctrl h i l) ∙ own
  is_free_slot i l (inr mirror) = sym (mirror_is i mirror.0) ∙ mirror.1

  -- and one that counts as occupied is occupied
  pub is_occupied_slot : (i : ℕ) → i < slot_count P → CountsAsOccupied ctrl i → is_free P.cells i ≡ false
  is_occupied_slot i l (inl own) = sym (byte_is F f P es ctrl h i l) ∙ own
  is_occupied_slot i l (inr mirror) = sym (mirror_is i mirror.0) ∙ mirror.1

  module _ (new : map_of P k ≡ None) where
    -- without the key a search passes the occupied slots
    passed_occupied : (p : ℕ) → p ≤ s → OccupiedBefore ctrl (F.hash k % s) s p → Passed F P k p
    passed_occupied p l before q less =
        let count = slots_are F f P es ctrl h s len in
        let few = h.placed.slots.least in
        let at : probe_slot (F.hash k % s) s q ≡ slot_of F P k q = ap (λ n. probe_slot (F.hash k % n) n q) count in
        let occupied = is_occupied_slot (slot_of F P k q) (probe_slot-lt (home F k (slot_count P)) (slot_count P) q (omega arith)) (subst (CountsAsOccupied ctrl) at (before q less)) in
        or_from _ _ occupied (has_key-None P.cells k new (slot_of F P k q))

    -- so it ends at the first free one
    pub first_free-answer : (i : ℕ) → IsFirstFree ctrl (F.hash k) s i → Free i ≡ answer F P.cells k
    unfolding answer
    first_free-answer i first =
        let count = slots_are F f P es ctrl h s len in
        let few = h.placed.slots.least in
        let slot_is : slot_of F P k first.position ≡ i = ap (λ n. probe_slot (F.hash k % n) n first.position) (sym count) ∙ first.slot_is in
        let low : i < slot_count P = omega (arith, slot_is, probe_slot-lt (home F k (slot_count P)) (slot_count P) first.position (omega arith)) in
        let free = is_free_slot i low first.free in
        let stops : stops_at P.cells k (slot_of F P k first.position) ≡ true = ap (stops_at P.cells k) slot_is ∙ or_left _ _ free in
        let e = search_end-at F P.cells k first.position (omega (arith, first.in_order)) (passed_occupied first.position (omega (arith, first.in_order)) first.earlier_occupied) stops ∙ ap Some slot_is in
        rw (e, free) refl

    -- and nowhere where each slot counts as occupied
    pub no_free-answer : EachCountsAsOccupied ctrl s → Neither ≡ answer F P.cells k
    no_free-answer none =
        let few = h.placed.slots.least in
        let count = slots_are F f P es ctrl h s len in
        no_end F P k es ctrl f h s len (passed_occupied s (omega arith) (λ q l. none _ (probe_slot-lt (F.hash k % s) s q (omega arith))))
