-- Worked examples: keys that a search in any parts does not find, and keys that it does.
use Rattle.std.proofs.Common.{◌≡◌, ◌<◌, ℕ, zero, suc, sym, inl, inr, true, false, true≢false, not, List, slice_index, length, arith, ◌-◌, ◌+◌, ◌∙◌}
use Rattle.std.specs.List.{range_with_len, list_all}
use Rattle.odht_raw.specs.Words.{counts_as_free, Format, home, lists_differ, slot_key, tag}
use Rattle.odht_base.proofs.lemmas.Orders.{probe_slot-lt}
use Rattle.odht_header.proofs.lemmas.FirstErrors.{not-true}
use Rattle.odht_header.proofs.examples.Apart.{unequal_lists, tested}
use Rattle.odht_raw.specs.ControlBytes.{order_slot, GoesOnTo, IsMissing}
use Rattle.odht_raw.specs.Parts.{EntryBytes}

-- no slot is free by its own byte, and each has another key: the search goes on from each
pub on_everywhere : (F : Format) (E : EntryBytes) (ctrl k : List ℕ) → 0 < E.slots
    → list_all (λ i. not (counts_as_free (slice_index ctrl i))) (range_with_len 0 E.slots) ≡ true
    → list_all (λ i. lists_differ (slot_key F E.bytes i) k) (range_with_len 0 E.slots) ≡ true → GoesOnTo F E ctrl k E.slots
on_everywhere F E ctrl k pos occupied other q l =
    let low = probe_slot-lt (home F k E.slots) E.slots q pos in
    inl (
      not-true _ (tested (λ i. not (counts_as_free (slice_index ctrl i))) E.slots _ occupied low),
      λ t e. unequal_lists (slot_key F E.bytes (order_slot F E k q)) k (tested (λ i. lists_differ (slot_key F E.bytes i) k) E.slots _ other low) e,
    )

-- so the key is missing
pub missing_everywhere : (F : Format) (E : EntryBytes) (ctrl k : List ℕ) → 0 < E.slots
    → list_all (λ i. not (counts_as_free (slice_index ctrl i))) (range_with_len 0 E.slots) ≡ true
    → list_all (λ i. lists_differ (slot_key F E.bytes i) k) (range_with_len 0 E.slots) ≡ true → IsMissing F E ctrl k
missing_everywhere F E ctrl k pos occupied other = (E.slots, omega arith, on_everywhere F E ctrl k pos occupied other, λ l. absurd (omega (arith, l)))

-- a key whose home slot is free is missing
pub missing_at_home : (F : Format) (E : EntryBytes) (ctrl k : List ℕ) → counts_as_free (slice_index ctrl (order_slot F E k 0)) ≡ true → IsMissing F E ctrl k
missing_at_home F E ctrl k free = (0, omega arith, λ q l. absurd (omega (arith, l)), λ l. inl free)

-- a key in its home slot, whose two control bytes are its tag, is not missing
pub held_at_home : (F : Format) (E : EntryBytes) (ctrl k : List ℕ) → 0 < E.slots
    → counts_as_free (slice_index ctrl (order_slot F E k 0)) ≡ false → slice_index ctrl (order_slot F E k 0) ≡ tag F k
    → counts_as_free (slice_index ctrl (length ctrl - 16 + order_slot F E k 0)) ≡ false → slice_index ctrl (length ctrl - 16 + order_slot F E k 0) ≡ tag F k
    → slot_key F E.bytes (order_slot F E k 0) ≡ k → IsMissing F E ctrl k → ⊥
held_at_home F E ctrl k pos own is mirror too key (zero, l, on, free) = elim (free pos) [ inl f ↦ true≢false (sym f ∙ own) | inr f ↦ true≢false (sym f.1 ∙ mirror) ]
held_at_home F E ctrl k pos own is mirror too key (suc p, l, on, free) = elim (on 0 (omega arith)) [ inl g ↦ g.1 is key | inr g ↦ g.1.1 too key ]
