-- A search slot by slot on the parts of a placed table.
use Rattle.std.proofs.Common.{◌≡◌, ◌<◌, ◌∙◌, ◌+◌, ◌%◌, inl, inr, ℕ, true, false, true≢false, sym, ap, subst, refl, List, Option, Some, None, length, arith}
use Rattle.std.specs.Prelude.{slice_index, is_none}
use Rattle.odht_raw.proofs.lemmas.Below.{cases_lt, false_from_ne_true, or_from, or_left, or_right, pair_key, probe_slot-lt, same_bytes, search_end-at, search_end-nowhere}
use Rattle.odht_raw.specs.Words.{cell_at, counts_as_free, Format, has_key, home, is_free, IsFormat, IsPartsOf, Pair, probe_slot, search_end, slot_count, slot_key, stops_at, Table}
use Rattle.odht_raw.proofs.lemmas.PartCells.{slots_are, byte_is, key_is}
use Rattle.odht_raw.specs.ControlBytes.{order_slot}
use Rattle.odht_raw.specs.Parts.{EntryBytes}
use Rattle.odht_raw.specs.SearchEnds.{IsEnd, IsPlainEnd}
use Rattle.odht_raw.specs.SearchResults.{answer}
use Rattle.odht_raw.specs.SearchSteps.{slot_of, Passed}
use Rattle.odht_raw.specs.declared.raw_table.search_result.Search.{Search}
use Rattle.odht_raw.specs.declared.raw_table.search_result.Search.TheVariants.{Found, Free, Neither}

module _ (F : Format) (P : Table) (k es ctrl : List ℕ) (f : IsFormat F) (h : IsPartsOf F P es ctrl) where
  -- an occupied cell has the key that is in its entry, and no other
  has_key_is : (i : ℕ) → is_free P.cells i ≡ false → slot_key F es i ≡ k → has_key k (cell_at P.cells i) ≡ true
  has_key_is i occupied same = go (cell_at P.cells i) refl occupied
    where
      go : (c : Option Pair) → cell_at P.cells i ≡ c → is_none c ≡ false → has_key k c ≡ true
      go None g e = absurd (true≢false e)
      go (Some p) g e = pair_key k (Some p) p refl (sym same ∙ key_is F f P es ctrl h i p g)

  has_key_not : (i : ℕ) → (slot_key F es i ≡ k → ⊥) → has_key k (cell_at P.cells i) ≡ false
  has_key_not i other = go (cell_at P.cells i) refl
    where
      go : (c : Option Pair) → cell_at P.cells i ≡ c → has_key k c ≡ false
      go None g = refl
      go (Some p) g = false_from_ne_true _ (λ t. other (key_is F f P es ctrl h i p g ∙ sym (same_bytes k p.key t)))

  -- the search at position n of s slots, which is slot i of the hash x
  module _ (s x n i : ℕ) (hash : x ≡ F.hash k) (control : length ctrl ≡ s + 16) (within : n < s) (slot : i ≡ probe_slot (x % s) s n) where
    low : n < slot_count P
    low = subst (λ m. n < m) (slots_are F f P es ctrl h s control) within

    at : slot_of F P k n ≡ i
    at = sym (slot ∙ ap (λ m. probe_slot (x % m) m n) (slots_are F f P es ctrl h s control) ∙ ap (λ y. probe_slot (y % slot_count P) (slot_count P) n) hash)

    below : i < slot_count P
    below = subst (λ j. j < slot_count P) at (let pos = h.placed.slots.least in omega arith)

    ends : Passed F P k n → stops_at P.cells k i ≡ true → search_end F P.cells k ≡ Some i
    ends passed stop = search_end-at F P.cells k n low passed (subst (λ j. stops_at P.cells k j ≡ true) (sym at) stop) ∙ ap Some at

    -- it ends at a free control byte
    pub free_end : Passed F P k n → counts_as_free (slice_index ctrl i) ≡ true → Free i ≡ answer F P.cells k
    unfolding answer
    free_end passed free =
        let t : is_free P.cells i ≡ true = sym (byte_is F f P es ctrl h i below) ∙ free in
        let e = ends passed (or_left _ _ t) in
        rw (e, t) refl

    -- and at the key
    pub key_end : Passed F P k n → counts_as_free (slice_index ctrl i) ≡ false → slot_key F es i ≡ k → Found i ≡ answer F P.cells k
    unfolding answer
    key_end passed occupied same =
        let t : is_free P.cells i ≡ false = sym (byte_is F f P es ctrl h i below) ∙ occupied in
        let e = ends passed (or_right _ _ (has_key_is i t same)) in
        rw (e, t) refl

    -- else it goes on
    pub passed_on : Passed F P k n → counts_as_free (slice_index ctrl i) ≡ false → (slot_key F es i ≡ k → ⊥) → Passed F P k (n + 1)
    passed_on passed occupied other m l = elim (cases_lt m n) [
      | inl before ↦ passed m before
      | inr here ↦
          let e : n ≡ m = omega arith in
          let t : is_free P.cells i ≡ false = sym (byte_is F f P es ctrl h i below) ∙ occupied in
          subst (λ j. stops_at P.cells k (slot_of F P k j) ≡ false) e (subst (λ j. stops_at P.cells k j ≡ false) (sym at) (or_from _ _ t (has_key_not i other)))
    ]

  -- it ends nowhere where it passed each slot
  pub no_end : (s : ℕ) → length ctrl ≡ s + 16 → Passed F P k s → Neither ≡ answer F P.cells k
  unfolding answer
  no_end s control passed =
      let e = search_end-nowhere F P.cells k (subst (Passed F P k) (slots_are F f P es ctrl h s control) passed) in
      rw e refl

-- where the search slot by slot ends, a search does
pub plain-end : (F : Format) (E : EntryBytes) (ctrl k : List ℕ) (r : Search) → 0 < E.slots → IsPlainEnd F E ctrl k r → IsEnd F E ctrl k r
plain-end F E ctrl k (Found i) some h = h
plain-end F E ctrl k (Free i) some h = (h.0, inl h.1)
plain-end F E ctrl k Neither some h =
    let low = λ (q : ℕ). probe_slot-lt (home F k E.slots) E.slots q some in
    (λ i l. inl (h.0 i l), λ q l. inl (h.0 (order_slot F E k q) (low q), λ t e. h.1 (order_slot F E k q) (low q) e))
