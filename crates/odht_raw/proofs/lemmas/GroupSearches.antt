-- A search by groups on parts: where it is at each group, and what follows at its end.
use Rattle.std.proofs.Common.{false, ◌≡◌, ℕ, ◌+◌, ◌-◌, ◌/◌, ◌%◌, ◌<◌, ◌≤◌, inl, inr, sym, ap, ◌∙◌, subst, arith, List, length, slice_index, IsTrue}
use Rattle.std.specs.Prelude.{IsFalse}
use Rattle.odht_raw.proofs.lemmas.Below.{add-mod_right, cases_lt, index-bytes_at, length-bytes_at, mod-eq_of_lt, position-order_none, probe_slot-lt, probe_slot-onto, slice_index-controls, slice_index-mirror}
use Rattle.odht_raw.specs.Words.{bytes_at, cell_at, Cells, control_byte, controls, counts_as_free, Format, groups_read, home, IsFormat, IsPartsOf, IsSlotCount, probe_slot, reach, slot_count, Table}
use Rattle.odht_raw.specs.ControlBytes.{OfSlot, CountsAsFree, CountsAsOccupied, HasNoFree, EachCountsAsOccupied, order_slot, IsOther, Differs, GoesOn, GoesOnTo, IsMissing}
use Rattle.odht_raw.specs.SearchEnds.{Among, IsOtherAmong, GoesOnAmong, IsEnd, IsEndAmong, IsAfter}
use Rattle.odht_raw.specs.Parts.{EntryBytes}
use Rattle.odht_raw.specs.SearchSteps.{slot_of, Passed, IsGroupAt, EndsWithin}
use Rattle.odht_raw.specs.declared.raw_table.search_result.Search.{Search}
use Rattle.odht_raw.specs.declared.raw_table.search_result.Search.TheVariants.{Found, Free, Neither}
use Rattle.odht_raw.proofs.lemmas.PartCells.{slots_are}
use Rattle.odht_raw.proofs.lemmas.ProbeSteps.{probe_slot-step}

-- ---- sixteen control bytes, the mirror behind the last slot
-- of a table they are those of the slots from b on, around the end
controls-group : (F : Format) (cs : Cells) (b i : ℕ) → 16 ≤ length cs → b < length cs → i < 16 → slice_index (controls F cs) (b + i) ≡ control_byte F (cell_at cs ((b + i) % length cs))
controls-group F cs b i few l h = elim (cases_lt (b + i) (length cs)) [
  | inl inside ↦ slice_index-controls F cs (b + i) inside ∙ ap (λ x. control_byte F (cell_at cs x)) (sym (mod-eq_of_lt {n = b + i} {m = length cs} inside))
  | inr past ↦
      let x : ℕ = b + i - length cs in
      let split : b + i ≡ length cs + x = omega arith in
      let turn : x + length cs ≡ b + i = omega arith in
      let low : x < length cs = omega arith in
      ap (slice_index (controls F cs)) split ∙ slice_index-mirror F cs x (omega arith) low
      ∙ ap (λ y. control_byte F (cell_at cs y)) (sym (ap (λ y. y % length cs) (sym turn) ∙ add-mod_right x (length cs) ∙ mod-eq_of_lt {n = x} {m = length cs} low))
]

-- on any parts one of them is a control byte of its slot
pub group-byte : (T : ℕ → Type 0) (ctrl : List ℕ) (s b i : ℕ) → length ctrl ≡ s + 16 → 16 ≤ s → b < s → i < 16 → T (slice_index (bytes_at ctrl b 16) i) → OfSlot T ctrl ((b + i) % s)
group-byte T ctrl s b i len few l h t =
    let byte = index-bytes_at ctrl b 16 i h in
    elim (cases_lt (b + i) s) [
      | inl inside ↦ inl (rw (mod-eq_of_lt {n = b + i} {m = s} inside) (subst T byte t))
      | inr past ↦
          let x : ℕ = b + i - s in
          let turn : x + s ≡ b + i = omega arith in
          let low : x < s = omega arith in
          let is : (b + i) % s ≡ x = ap (λ y. y % s) (sym turn) ∙ add-mod_right x s ∙ mod-eq_of_lt {n = x} {m = s} low in
          let behind : b + i ≡ length ctrl - 16 + x = omega arith in
          inr (rw is (omega arith, subst T (byte ∙ ap (slice_index ctrl) behind) t))
    ]

-- so what holds of the first bytes of the group at position p, holds of the slots of these positions
pub among-slots : (T : ℕ → ℕ → Type 0) (ctrl : List ℕ) (b s start p n : ℕ) → length ctrl ≡ s + 16 → 16 ≤ s → p % 16 ≡ 0 → start ≡ probe_slot b s p → n ≤ 16
    → Among (λ x c. T (x % s) c) (bytes_at ctrl start 16) start n → (q : ℕ) → p ≤ q → q < p + n → OfSlot (T (probe_slot b s q)) ctrl (probe_slot b s q)
among-slots T ctrl b s start p n len few aligned is small all q from l =
    let i : ℕ = q - p in
    let at : p + i ≡ q = omega arith in
    let low : start < s = omega (arith, is, probe_slot-lt b s p (omega arith)) in
    let slot_is : (start + i) % s ≡ probe_slot b s q = ap (λ x. (x + i) % s) is ∙ probe_slot-step b s p i (omega arith) ∙ ap (probe_slot b s) at in
    subst (λ x. OfSlot (T x) ctrl x) slot_is (group-byte (T ((start + i) % s)) ctrl s start i len few low (omega arith) (all i (omega arith)))

-- the slots of the positions before p of the order from b on count as occupied
abbrev pub OccupiedBefore : List ℕ → ℕ → ℕ → ℕ → Type 0
OccupiedBefore ctrl b s p = (q : ℕ) → q < p → CountsAsOccupied ctrl (probe_slot b s q)

-- after one more group without a free byte
pub occupied-more : (ctrl bs : List ℕ) (b s start p : ℕ) → length ctrl ≡ s + 16 → 16 ≤ s → p % 16 ≡ 0 → start ≡ probe_slot b s p → bs ≡ bytes_at ctrl start 16
    → HasNoFree bs 16 → OccupiedBefore ctrl b s p → OccupiedBefore ctrl b s (p + 16)
occupied-more ctrl bs b s start p len few aligned is read none before q l = elim (cases_lt q p) [
  | inl low ↦ before q low
  | inr past ↦ among-slots (λ x c. counts_as_free c ≡ false) ctrl b s start p 16 len few aligned is (omega arith) (λ i h. subst (λ x. counts_as_free (slice_index x i) ≡ false) read (none i h)) q (omega arith) l
]

-- so does each slot after the last group
pub occupied-all : (ctrl : List ℕ) (b s : ℕ) → IsSlotCount s → OccupiedBefore ctrl b s s → EachCountsAsOccupied ctrl s
occupied-all ctrl b s count before i l = let q = probe_slot-onto b s i count l in subst (CountsAsOccupied ctrl) q.2 (before q.0 q.1)

-- ---- a placed table
module _ (F : Format) (P : Table) (E : EntryBytes) (ctrl k : List ℕ) (f : IsFormat F) (h : IsPartsOf F P E.bytes ctrl) (len : length ctrl ≡ E.slots + 16) where
  -- a search that passed the positions before the first position p of a group is there
  pub IsGroupAt-group : (p start : ℕ) → p % 16 ≡ 0 → p + 16 ≤ E.slots → start ≡ probe_slot (home F k E.slots) E.slots p → Passed F P k p → IsGroupAt F P E k p start (bytes_at ctrl start 16)
  IsGroupAt-group p start aligned l is passed =
      let count : E.slots ≡ slot_count P = slots_are F f P E.bytes ctrl h E.slots len in
      let few = h.placed.slots.least in
      let low : start < E.slots = omega (arith, is, probe_slot-lt (home F k E.slots) E.slots p (omega arith)) in
      let sixteen : length (bytes_at ctrl start 16) ≡ 16 = length-bytes_at ctrl start 16 (omega arith) in
      let step : (i : ℕ) → i < 16 → (start + i) % E.slots ≡ slot_of F P k (p + i) = λ i b.
      ap (λ x. (x + i) % E.slots) is ∙ probe_slot-step (home F k E.slots) E.slots p i (omega arith)
      ∙ ap (λ n. probe_slot (home F k n) n (p + i)) count in
      record {
        placed = h.placed;
        slots = count;
        entries_are = h.entries_are;
        passed = passed;
        within = omega arith;
        slots_are = λ i b. step i (omega arith);
        bytes_are = λ i b.
            index-bytes_at ctrl start 16 i (omega arith)
            ∙ ap (λ c. slice_index c (start + i)) h.controls_are
            ∙ controls-group F P.cells start i few (omega arith) (omega arith)
            ∙ ap (λ n. control_byte F (cell_at P.cells ((start + i) % n))) (sym count)
            ∙ ap (λ x. control_byte F (cell_at P.cells x)) (step i (omega arith));
      }

  -- one that ends in the group of position p reads the groups up to it
  pub reads-to : (p : ℕ) → p % 16 ≡ 0 → EndsWithin F P k p 16 → groups_read F P.cells k ≡ p / 16 + 1
  reads-to p aligned e = let same : e.0 / 16 + 1 ≡ p / 16 + 1 = omega (arith, e.1, e.2) in rw e.3 same

  -- one that passes each slot reads all
  pub reads-all : Passed F P k E.slots → groups_read F P.cells k ≡ E.slots / 16
  unfolding reach
  reads-all passed =
      let count : E.slots ≡ slot_count P = slots_are F f P E.bytes ctrl h E.slots len in
      rw (position-order_none _ (home F k (slot_count P)) (slot_count P) (subst (Passed F P k) count passed)) (ap (λ n. n / 16) (sym count))

-- ---- any parts
-- a slot from which the search goes on is not one where the key is found
differs-on : (F : Format) (E : EntryBytes) (ctrl k : List ℕ) (i : ℕ) → GoesOn F E ctrl k i → Differs F E ctrl k i
differs-on F E ctrl k i (inl on) = inl on.1
differs-on F E ctrl k i (inr on) = inr (on.0, on.1.1)

-- and counts as occupied
occupied-on : (F : Format) (E : EntryBytes) (ctrl k : List ℕ) (i : ℕ) → GoesOn F E ctrl k i → CountsAsOccupied ctrl i
occupied-on F E ctrl k i (inl on) = inl on.0
occupied-on F E ctrl k i (inr on) = inr (on.0, on.1.0)

-- where the search goes on from each position, each slot counts as occupied
pub no_free-on : (F : Format) (E : EntryBytes) (ctrl k : List ℕ) → IsSlotCount E.slots → GoesOnTo F E ctrl k E.slots → EachCountsAsOccupied ctrl E.slots
no_free-on F E ctrl k count on = occupied-all ctrl (home F k E.slots) E.slots count (λ q l. occupied-on F E ctrl k _ (on q l))

module _ (F : Format) (E : EntryBytes) (ctrl k : List ℕ) (start p : ℕ) (len : length ctrl ≡ E.slots + 16) (few : 16 ≤ E.slots) (aligned : p % 16 ≡ 0) (within : p + 16 ≤ E.slots) (is : start ≡ order_slot F E k p) where
  abbrev group : List ℕ
  group = bytes_at ctrl start 16

  start_low : start < E.slots
  start_low = omega (arith, is, probe_slot-lt (home F k E.slots) E.slots p (omega arith))

  slot_at : (j : ℕ) → j < 16 → (start + j) % E.slots ≡ order_slot F E k (p + j)
  slot_at j l = ap (λ x. (x + j) % E.slots) is ∙ probe_slot-step (home F k E.slots) E.slots p j (omega arith)

  -- after n more positions from which it goes on
  pub goes_on-more : (n : ℕ) → n ≤ 16 → GoesOnAmong F E group start k n → GoesOnTo F E ctrl k p → GoesOnTo F E ctrl k (p + n)
  goes_on-more n small all before q l = elim (cases_lt q p) [
    | inl low ↦ before q low
    | inr past ↦ among-slots (λ i c. IsFalse (counts_as_free c) × IsOther F E k i c) ctrl (home F k E.slots) E.slots start p n len few aligned is small all q (omega arith) l
  ]

  -- the same of positions where the key is not found
  differs-more : (n : ℕ) → n ≤ 16 → IsOtherAmong F E group start k n → GoesOnTo F E ctrl k p → (q : ℕ) → q < p + n → Differs F E ctrl k (order_slot F E k q)
  differs-more n small all before q l = elim (cases_lt q p) [
    | inl low ↦ differs-on F E ctrl k _ (before q low)
    | inr past ↦ among-slots (IsOther F E k) ctrl (home F k E.slots) E.slots start p n len few aligned is small all q (omega arith) l
  ]

  -- where a look at the group ends, the search ends
  pub group-end : (r : Search) → IsEndAmong F E group start 16 k r → IsEnd F E ctrl k r
  group-end (Found i) (j, below, place, key, other) = (omega (arith, place), key)
  group-end (Free i) (j, below, place, free, on) = (omega (arith, place), subst (CountsAsFree ctrl) (sym place) (group-byte (λ c. IsTrue (counts_as_free c)) ctrl E.slots start j len few start_low below free))
  group-end Neither h = absurd h

  -- and what comes before this end
  pub group-after : GoesOnTo F E ctrl k p → (r : Search) → IsEndAmong F E group start 16 k r → IsAfter F E ctrl k r
  group-after before (Found i) (j, below, place, key, other) =
      let first : p ≡ p + j - (p + j) % 16 = omega arith in
      (p + j, omega arith, sym (place ∙ slot_at j below), subst (GoesOnTo F E ctrl k) first before, differs-more j (omega arith) other before)
  group-after before (Free i) (j, below, place, free, on) = (p + j, omega arith, sym (place ∙ slot_at j below), goes_on-more j (omega arith) on before)
  group-after before Neither h = absurd h

-- a search that goes on to a slot that counts as free, or goes on from each, ends without the key
pub missing-free : (F : Format) (E : EntryBytes) (ctrl k : List ℕ) (i : ℕ) → IsEnd F E ctrl k (Free i) → IsAfter F E ctrl k (Free i) → IsMissing F E ctrl k
missing-free F E ctrl k i end (p, low, is, on) = (p, omega arith, on, λ l. subst (CountsAsFree ctrl) (sym is) end.1)

pub missing-neither : (F : Format) (E : EntryBytes) (ctrl k : List ℕ) → GoesOnTo F E ctrl k E.slots → IsMissing F E ctrl k
missing-neither F E ctrl k on = (E.slots, omega arith, on, λ l. absurd (omega (arith, l)))
