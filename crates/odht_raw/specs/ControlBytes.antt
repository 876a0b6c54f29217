-- What control bytes say of a slot, and where a search for a key k goes on, on any parts. E is the entries, ctrl the
-- control bytes with their mirror.
--     OfSlot T ctrl i      T holds of the control byte of slot i, or for a slot below 16 of its mirror
--     CountsAsFree ctrl i  one of these bytes counts as free
--     CountsAsOccupied ctrl i  one of them does not
--     HasNoFree bs n       none of the first n bytes of bs counts as free
--     EachCountsAsOccupied ctrl s   each of the s slots counts as occupied
--     order_slot F E k p   the slot at position p of the probe order of k
--     IsOther F E k i c    with the control byte c, slot i is not one where k is found: c is not the tag of k, or the
--                          entry has another key
--     Differs F E ctrl k i by one of its control bytes, slot i is not one where k is found
--     GoesOn F E ctrl k i  and by this byte the slot is not free either: a search for k goes on
--     GoesOnTo F E ctrl k p  a search for k goes on from each position before p
--     IsMissing F E ctrl k a search for k, slot by slot, can end without it: at a slot that counts as free, or after
--                          the last slot. What is behind such a slot is not asked, though a search by groups looks there
use Rattle.std.specs.Prelude.{◌≡◌, ℕ, ◌+◌, ◌-◌, ◌<◌, ◌≤◌, List, length, slice_index, ◌⊎◌, IsTrue, IsFalse}
use Rattle.odht_raw.specs.Words.{counts_as_free, Format, home, probe_slot, slot_key, tag}
use Rattle.odht_raw.specs.Parts.{EntryBytes}

abbrev pub OfSlot : (ℕ → Type 0) → List ℕ → ℕ → Type 0
OfSlot T ctrl i = T (slice_index ctrl i) ⊎ ((i < 16) × T (slice_index ctrl (length ctrl - 16 + i)))

abbrev pub CountsAsFree : List ℕ → ℕ → Type 0
CountsAsFree ctrl i = OfSlot (λ c. IsTrue (counts_as_free c)) ctrl i

abbrev pub CountsAsOccupied : List ℕ → ℕ → Type 0
CountsAsOccupied ctrl i = OfSlot (λ c. IsFalse (counts_as_free c)) ctrl i

abbrev pub HasNoFree : List ℕ → ℕ → Type 0
HasNoFree bs n = (i : ℕ) → i < n → IsFalse (counts_as_free (slice_index bs i))

abbrev pub EachCountsAsOccupied : List ℕ → ℕ → Type 0
EachCountsAsOccupied ctrl s = (i : ℕ) → i < s → CountsAsOccupied ctrl i

abbrev pub order_slot : Format → EntryBytes → List ℕ → ℕ → ℕ
order_slot F E k p = probe_slot (home F k E.slots) E.slots p

abbrev pub IsOther : Format → EntryBytes → List ℕ → ℕ → ℕ → Type 0
IsOther F E k i c = c ≡ tag F k → slot_key F E.bytes i ≡ k → ⊥

abbrev pub Differs : Format → EntryBytes → List ℕ → List ℕ → ℕ → Type 0
Differs F E ctrl k i = OfSlot (IsOther F E k i) ctrl i

abbrev pub GoesOn : Format → EntryBytes → List ℕ → List ℕ → ℕ → Type 0
GoesOn F E ctrl k i = OfSlot (λ c. IsFalse (counts_as_free c) × IsOther F E k i c) ctrl i

abbrev pub GoesOnTo : Format → EntryBytes → List ℕ → List ℕ → ℕ → Type 0
GoesOnTo F E ctrl k p = (q : ℕ) → q < p → GoesOn F E ctrl k (order_slot F E k q)

abbrev pub IsMissing : Format → EntryBytes → List ℕ → List ℕ → Type 0
IsMissing F E ctrl k =
    (p : ℕ) × (p ≤ E.slots) × GoesOnTo F E ctrl k p × (p < E.slots → CountsAsFree ctrl (order_slot F E k p))
