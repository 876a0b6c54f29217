-- A search for a key k among the parts of a placed table P, at a position of the probe order of k.
--     slot_of F P k p        the slot at position p of the order
--     Passed F P k p         no slot before position p is free or holds k
--     IsGroupAt F P E k p start bs   the search is at position p: it passed the earlier positions, E is the entries,
--                            and bs is the control bytes of the positions from p on, which are the slots from `start`
--                            on, modulo the slot count
--     EndsWithin F P k p n   the search ends at one of the n positions from p on
--     IsLook F P k p n r     r is the result of a look at these n positions: the answer where the search ends there,
--                            else None
--     IsGroupLook F E bs b n k r   r is what a look at the n slots from b on finds, whose control bytes are bs: on a placed
--                            table the answer of the search if it ends there (`on_placed`), on any parts such an end
--                            (`slot`), and None where the search goes on from each slot (`none`)
--     IsTag F k t            t is the tag of k, which is below that of any free slot
use Rattle.std.specs.Prelude.{◌≡◌, ℕ, ◌+◌, ◌%◌, ◌<◌, ◌≤◌, false, List, length, slice_index, Option, Some, MatchOption, IfSome, IsNone}
use Rattle.odht_raw.specs.Words.{cell_at, control_byte, entries, Format, home, IsPlaced, probe_slot, reach, slot_count, stops_at, Table, tag}
use Rattle.odht_raw.specs.SearchEnds.{IsEndAmong, GoesOnAmong}
use Rattle.odht_raw.specs.SearchResults.{answer}
use Rattle.odht_raw.specs.Parts.{EntryBytes}
use Rattle.odht_raw.specs.declared.raw_table.search_result.Search.{Search}

abbrev pub slot_of : Format → Table → List ℕ → ℕ → ℕ
slot_of F P k p = probe_slot (home F k (slot_count P)) (slot_count P) p

abbrev pub Passed : Format → Table → List ℕ → ℕ → Type 0
Passed F P k p = (q : ℕ) → q < p → stops_at P.cells k (slot_of F P k q) ≡ false

pub record IsGroupAt (F : Format) (P : Table) (E : EntryBytes) (k : List ℕ) (p start : ℕ) (bs : List ℕ) : Type 0 where
  pub placed : IsPlaced F P
  pub slots : E.slots ≡ slot_count P
  pub entries_are : E.bytes ≡ entries F P.cells
  pub passed : Passed F P k p
  pub within : p + length bs ≤ slot_count P
  pub slots_are : (i : ℕ) → i < length bs → (start + i) % E.slots ≡ slot_of F P k (p + i)
  pub bytes_are : (i : ℕ) → i < length bs → slice_index bs i ≡ control_byte F (cell_at P.cells (slot_of F P k (p + i)))

abbrev pub EndsWithin : Format → Table → List ℕ → ℕ → ℕ → Type 0
EndsWithin F P k p n = (q : ℕ) × (p ≤ q) × (q < p + n) × (reach F P.cells k ≡ Some q)

abbrev pub IsLook : Format → Table → List ℕ → ℕ → ℕ → Option Search → Type 0
IsLook F P k p n r = MatchOption r (Passed F P k (p + n)) (λ a. (a ≡ answer F P.cells k) × EndsWithin F P k p n)

pub record IsGroupLook (F : Format) (E : EntryBytes) (bs : List ℕ) (b n : ℕ) (k : List ℕ) (r : Option Search) : Type 0 where
  pub slot : IfSome r (IsEndAmong F E bs b n k)
  pub none : IsNone r → GoesOnAmong F E bs b k n
  pub on_placed : (P : Table) (p : ℕ) → IsGroupAt F P E k p b bs → IsLook F P k p n r

pub record IsTag (F : Format) (k : List ℕ) (t : ℕ) : Type 0 where
  pub is : t ≡ tag F k
  pub small : t < 128
