-- Where a search for a key is expected to end, looked up before other keys are inserted.
--     IsExpected F P k i       if i is a slot of the placed table P, the search for k ends at it, and it is free
--     EndsIfFree F P k i       if i is a free slot of P, the search for k ends at it
--     IsAhead F ctrl k a       a is the hash of k, and the slot where the search for k is expected to end in each
--                              placed table with the control bytes ctrl
--     AreAhead fits F ctrl items from as  each item of as is ahead for the item of items at the same index counted from
--                                    `from`, if that fits
use Rattle.std.specs.Prelude.{◌≡◌, ℕ, ◌+◌, ◌<◌, List, slice_get, Some, IsTrue}
use Rattle.odht_raw.specs.Words.{Format, is_free, IsPartsOf, slot_count, Table}
use Rattle.odht_raw.specs.SearchResults.{answer}
use Rattle.odht_raw.specs.declared.raw_table.search_result.Search.TheVariants.{Free}

abbrev pub IsExpected : Format → Table → List ℕ → ℕ → Type 0
IsExpected F P k i = i < slot_count P → Free i ≡ answer F P.cells k

abbrev pub EndsIfFree : Format → Table → List ℕ → ℕ → Type 0
EndsIfFree F P k i = i < slot_count P → IsTrue (is_free P.cells i) → Free i ≡ answer F P.cells k

pub record IsAhead (F : Format) (ctrl k : List ℕ) (a : ℕ × ℕ) : Type 0 where
  pub hash : a.0 ≡ F.hash k
  pub expected : (P : Table) (es : List ℕ) → IsPartsOf F P es ctrl → IsExpected F P k a.1

abbrev pub AreAhead : (ℕ → Type 0) → Format → List ℕ → List (List ℕ × List ℕ) → ℕ → List (ℕ × ℕ) → Type 0
AreAhead fits F ctrl items from ahead =
    (i : ℕ) (k v : List ℕ) (a : ℕ × ℕ) → slice_get items (from + i) ≡ Some (k, v) → fits (from + i) → slice_get ahead i ≡ Some a → IsAhead F ctrl k a
