-- Inserts into a plain table. An answer `None` is an error, which leaves the table unchanged.
--     target F cs k        the slot that holds k, or else the first free one of its probe order
--     place_in F cs p      the pair p in its key's target; place F P p the same of a table
--     run insert P ps      the inserts `insert` of the pairs in turn, None as soon as one answers None
--     place_all F P ps     the same of `place`
--     grown_slots P        the slots for twice as many pairs, and for one at least
--     grown F P            the pairs of P, in slot order, in that many slots
--     is_full P            P holds the most items that its slots may
--     is_full_for P k      P is full, and none of its pairs has the key k
--     IsFullFor P k        the same as a statement
--     insert_owned F P p      an insert of the owned table, which grows where P is full for the key of p
--     insert_view F P p       an insert of a view, which answers None there
use Rattle.std.specs.Prelude.{◌≡◌, ℕ, ◌*◌, max, Bool, ◌==◌, ◌&&◌, List, [], ◌∷◌, set, position, find, Option, Some, None, is_none, option_map, option_and_then, if◌then◌else◌}
use Rattle.std.specs.Option.{option_or}
use Rattle.odht_base.specs.Format.{Format}
use Rattle.odht_base.specs.Load.{max_items, slots_for}
use Rattle.odht_base.specs.Map.{map_of}
use Rattle.odht_base.specs.Search.{search_order}
use Rattle.odht_base.specs.Table.{Pair, Table, Cells, slot_count, empty, is_free, has_key, walk, count}

unfoldable pub target : Format → Cells → List ℕ → Option ℕ
target F cs k = option_or (position (has_key k) cs) (find (is_free cs) (search_order F cs k))

abbrev pub place_in : Format → Cells → Pair → Option Cells
place_in F cs p = option_map (λ i. set cs i (Some p)) (target F cs p.key)

unfoldable pub place : Format → Table → Pair → Option Table
place F P p = option_map (λ cs. record P { cells = cs }) (place_in F P.cells p)

abbrev pub run : (Table → Pair → Option Table) → Table → List Pair → Option Table
run insert P [] = Some P
run insert P (p ∷ ps) = option_and_then (λ Q. run insert Q ps) (insert P p)

abbrev pub place_all : Format → Table → List Pair → Option Table
place_all F = run (place F)

abbrev pub grown_slots : Table → Option ℕ
grown_slots P = slots_for (max 1 (2 * count P)) P.factor

unfoldable pub grown : Format → Table → Option Table
grown F P = option_and_then (λ s. place_all F (empty s P.factor) (walk P)) (grown_slots P)

abbrev pub is_full : Table → Bool
is_full P = count P == max_items (slot_count P) P.factor

abbrev pub is_full_for : Table → List ℕ → Bool
is_full_for P k = is_full P && is_none (map_of P k)

abbrev pub IsFullFor : Table → List ℕ → Type 0
IsFullFor P k = (count P ≡ max_items (slot_count P) P.factor) × (map_of P k ≡ None)

unfoldable pub insert_owned : Format → Table → Pair → Option Table
insert_owned F P p = if is_full_for P p.key then option_and_then (λ Q. place F Q p) (grown F P) else place F P p

unfoldable pub insert_view : Format → Table → Pair → Option Table
insert_view F P p = if is_full_for P p.key then None else place F P p
