-- Tables that inserts make, and the orders of inserts that make them.
--     IsMadeBy F insert P    inserts by `insert` of pairs of F, in turn, into an empty table of P's load factor leave P
--     IsMade F P             some list of inserts by the owned table or a view makes P from an empty table of its load
--                            factor, by the rule of this library at the maximum or by that of the original (CountRule)
--     occupied P             the slots that hold a pair, rising
--     pairs_of P out         the pairs of the slots `out`, in their order
--     IsInsertOrder F P out  `out` is the occupied slots of P, each once, and their pairs, placed in this order into an
--                            empty table of as many slots, give P
--     RemadeBy insert        inserts by `insert` of the pairs in an insert order of a valid table, in turn, into an empty
--                            table of as many slots give the table
use Rattle.std.specs.Prelude.{◌≡◌, ◌⊎◌, ℕ, List, filter, filter_map, Option, Some, is_some, All, IsPermutation}
use Rattle.std.specs.List.{range_with_len}
use Rattle.odht_base.specs.CountRule.{insert_owned_by_count, insert_view_by_count}
use Rattle.odht_base.specs.Format.{Format}
use Rattle.odht_base.specs.Insert.{run, place_all, insert_owned, insert_view}
use Rattle.odht_base.specs.Load.{IsSlotCount}
use Rattle.odht_base.specs.Table.{Pair, Table, slot_count, empty, cell_at}
use Rattle.odht_base.specs.Valid.{IsPairOf, IsValid}

abbrev pub IsMadeBy : Format → (Table → Pair → Option Table) → Table → Type 0
IsMadeBy F insert P = (s : ℕ) × (ps : List Pair) × IsSlotCount s × All (IsPairOf F) ps × (run insert (empty s P.factor) ps ≡ Some P)

abbrev pub IsMade : Format → Table → Type 0
IsMade F P = IsMadeBy F (insert_owned F) P ⊎ IsMadeBy F (insert_view F) P ⊎ IsMadeBy F (insert_owned_by_count F) P ⊎ IsMadeBy F (insert_view_by_count F) P

abbrev pub occupied : Table → List ℕ
occupied P = filter (λ i. is_some (cell_at P.cells i)) (range_with_len 0 (slot_count P))

abbrev pub pairs_of : Table → List ℕ → List Pair
pairs_of P out = filter_map (cell_at P.cells) out

pub record IsInsertOrder (F : Format) (P : Table) (out : List ℕ) : Type 0 where
  pub each_once : IsPermutation (occupied P) out
  pub gives : place_all F (empty (slot_count P) P.factor) (pairs_of P out) ≡ Some P

abbrev pub RemadeBy : (Format → Table → Pair → Option Table) → Type 0
RemadeBy insert =
    (F : Format) (P : Table) (order : List ℕ) → IsValid F P → IsInsertOrder F P order
    → run (insert F) (empty (slot_count P) P.factor) (pairs_of P order) ≡ Some P
