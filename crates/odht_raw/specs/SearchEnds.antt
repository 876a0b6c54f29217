-- Where a search for a key k ends on any parts, and what a find answers. E is the entries, ctrl the control bytes.
--     HoldsKeyAt F E k i        slot i is one of E, and its entry has the key k
--     IsEnd F E ctrl k r        a Found is a slot whose entry has the key k, a Free is a slot that counts as free by
--                               its control byte or its mirror; on Neither each slot counts as occupied by one of
--                               the two, and the search goes on from each (as IsAfter says too)
--     IsAfter F E ctrl k r      what comes before in the probe order: a Free is at a position before which the search
--                               goes on; so is a Found up to its group of sixteen, in which k is at no earlier
--                               position, but a free one may be; on Neither the search goes on from each position
--     IsPlainEnd F E ctrl k r   the end, where a slot counts as free or occupied by its own control byte alone and the
--                               key of each is compared
--     Among T bs b n            T holds of each of the first n slots from b on, and of their bytes bs
--     IsOtherAmong F E bs b k n k is found at none of the first n slots from b on, modulo the slot count
--     GoesOnAmong F E bs b k n  and none of their bytes counts as free
--     IsEndAmong F E bs b n k r a Found is the first of the n slots from b on where k is found, by its byte of bs; a
--                               Free is the first whose byte counts as free, and k is found before it at none;
--                               Neither is no such end
--     IsBesideKey F f E k v     some slot's entry is the key k and bytes that f decodes to v, whatever its control byte
use Rattle.std.specs.Prelude.{◌≡◌, ℕ, ◌+◌, ◌-◌, ◌%◌, ◌<◌, List, slice_index, IsTrue, IsFalse}
use Rattle.odht_raw.specs.Words.{counts_as_free, Format, slot_key, slot_value}
use Rattle.odht_raw.specs.SearchResults.{MatchSearchResult}
use Rattle.odht_raw.specs.ControlBytes.{CountsAsFree, HasNoFree, EachCountsAsOccupied, order_slot, IsOther, Differs, GoesOnTo}
use Rattle.odht_raw.specs.Parts.{EntryBytes}
use Rattle.odht_raw.specs.declared.raw_table.search_result.Search.{Search}

abbrev pub HoldsKeyAt : Format → EntryBytes → List ℕ → ℕ → Type 0
HoldsKeyAt F E k i = (i < E.slots) × (slot_key F E.bytes i ≡ k)

abbrev pub IsEnd : Format → EntryBytes → List ℕ → List ℕ → Search → Type 0
IsEnd F E ctrl k r =
    MatchSearchResult r
    (HoldsKeyAt F E k)
    (λ i. (i < E.slots) × CountsAsFree ctrl i)
    (EachCountsAsOccupied ctrl E.slots × GoesOnTo F E ctrl k E.slots)

abbrev pub IsAfter : Format → EntryBytes → List ℕ → List ℕ → Search → Type 0
IsAfter F E ctrl k r =
    MatchSearchResult r
    (λ i. (p : ℕ) × (p < E.slots) × (order_slot F E k p ≡ i) × GoesOnTo F E ctrl k (p - p % 16)
    × ((q : ℕ) → q < p → Differs F E ctrl k (order_slot F E k q)))
    (λ i. (p : ℕ) × (p < E.slots) × (order_slot F E k p ≡ i) × GoesOnTo F E ctrl k p)
    (GoesOnTo F E ctrl k E.slots)

abbrev pub IsPlainEnd : Format → EntryBytes → List ℕ → List ℕ → Search → Type 0
IsPlainEnd F E ctrl k r =
    MatchSearchResult r
    (HoldsKeyAt F E k)
    (λ i. (i < E.slots) × IsTrue (counts_as_free (slice_index ctrl i)))
    (HasNoFree ctrl E.slots × ((i : ℕ) → i < E.slots → slot_key F E.bytes i ≡ k → ⊥))

abbrev pub Among : (ℕ → ℕ → Type 0) → List ℕ → ℕ → ℕ → Type 0
Among T bs b n = (j : ℕ) → j < n → T (b + j) (slice_index bs j)

abbrev pub IsOtherAmong : Format → EntryBytes → List ℕ → ℕ → List ℕ → ℕ → Type 0
IsOtherAmong F E bs b k n = Among (λ x c. IsOther F E k (x % E.slots) c) bs b n

abbrev pub GoesOnAmong : Format → EntryBytes → List ℕ → ℕ → List ℕ → ℕ → Type 0
GoesOnAmong F E bs b k n = Among (λ x c. IsFalse (counts_as_free c) × IsOther F E k (x % E.slots) c) bs b n

abbrev pub IsEndAmong : Format → EntryBytes → List ℕ → ℕ → ℕ → List ℕ → Search → Type 0
IsEndAmong F E bs b n k r =
    MatchSearchResult r
    (λ i. (j : ℕ) × (j < n) × (i ≡ (b + j) % E.slots) × (slot_key F E.bytes i ≡ k) × IsOtherAmong F E bs b k j)
    (λ i. (j : ℕ) × (j < n) × (i ≡ (b + j) % E.slots) × IsTrue (counts_as_free (slice_index bs j)) × GoesOnAmong F E bs b k j)
    ⊥

abbrev pub IsBesideKey : {V : Type 0} → Format → (List ℕ → V) → EntryBytes → List ℕ → V → Type 0
IsBesideKey F f E k v =
    (i : ℕ) × (i < E.slots) × (slot_key F E.bytes i ≡ k) × (v ≡ f (slot_value F E.bytes i))
