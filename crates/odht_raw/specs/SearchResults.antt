-- What a search answers.
--     answer F cs k        the slot where the search for k among the cells ends, as Found or Free by its cell; else
--                          Neither
--     MatchSearchResult r P Q S  P for the slot of a Found, Q for the slot of a Free, S for Neither
--     with_cell P i p      the table P with the pair p written into slot i
--     GoesInto F P k i     a pair with the key k is placed into slot i of P, whatever its value, and no other slot
--                          changes
--     HasNoPlace F P k     no pair with the key k has a place in P
--     IsWherePlaced F P k r  r is where a pair with the key k is placed in P: a Found is the slot that holds k, a Free
--                          is the free slot that such a pair goes into, and on Neither it has no place
use Rattle.std.specs.Prelude.{◌≡◌, ℕ, List, set, Some, None, IsTrue, if◌then◌else◌}
use Rattle.std.specs.Option.{option_map_or}
use Rattle.odht_raw.specs.Words.{cell_at, Cells, Format, has_key, is_free, Pair, place, search_end, Table}
use Rattle.odht_raw.specs.declared.raw_table.search_result.Search.{Search}
use Rattle.odht_raw.specs.declared.raw_table.search_result.Search.TheVariants.{Found, Free, Neither}

unfoldable pub answer : Format → Cells → List ℕ → Search
answer F cs k = option_map_or (λ i. if is_free cs i then Free i else Found i) (search_end F cs k) Neither

abbrev pub MatchSearchResult : Search → (ℕ → Type 0) → (ℕ → Type 0) → Type 0 → Type 0
MatchSearchResult (Found i) P Q S = P i
MatchSearchResult (Free i) P Q S = Q i
MatchSearchResult Neither P Q S = S

abbrev pub with_cell : Table → ℕ → Pair → Table
with_cell P i p = record P { cells = set P.cells i (Some p) }

abbrev pub GoesInto : Format → Table → List ℕ → ℕ → Type 0
GoesInto F P k i = (v : List ℕ) → let p : Pair = record { key = k; value = v } in place F P p ≡ Some (with_cell P i p)

abbrev pub HasNoPlace : Format → Table → List ℕ → Type 0
HasNoPlace F P k = (v : List ℕ) → place F P (record { key = k; value = v }) ≡ None

abbrev pub IsWherePlaced : Format → Table → List ℕ → Search → Type 0
IsWherePlaced F P k r =
    MatchSearchResult r
    (λ i. IsTrue (has_key k (cell_at P.cells i)) × GoesInto F P k i)
    (λ i. IsTrue (is_free P.cells i) × GoesInto F P k i)
    (HasNoPlace F P k)
