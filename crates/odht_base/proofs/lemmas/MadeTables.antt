-- A valid table is made by inserts exactly where it has an insert order; all four inserts make the same tables.
use Rattle.std.proofs.Common.{◌≡◌, ◌<◌, ◌≤◌, ◌+◌, ◌∙◌, inl, inr, ℕ, ap, List, [], ◌∷◌, Option, Some, None, length, arith, ◌↔◌}
use Rattle.std.specs.List.{cons_option}
use Rattle.std.proofs.lemmas.List.Sorted.{length_permutation}
use Rattle.odht_base.specs.CountRule.{insert_owned_by_count, insert_view_by_count}
use Rattle.odht_base.specs.Format.{Format}
use Rattle.odht_base.specs.Insert.{run, insert_owned, insert_view}
use Rattle.odht_base.specs.Load.{max_items}
use Rattle.odht_base.specs.Made.{IsMadeBy, IsMade, IsInsertOrder, occupied, pairs_of}
use Rattle.odht_base.specs.Ready.{IsStuck}
use Rattle.odht_base.specs.Table.{Pair, Table, slot_count, count, cell_at, empty}
use Rattle.odht_base.specs.Valid.{IsValid}
use Rattle.odht_base.proofs.lemmas.CountedInserts.{insert_owned_by_count-IsBased, insert_view_by_count-IsBased, insert_owned_by_count-PlacesBelow, insert_view_by_count-PlacesBelow}
use Rattle.odht_base.proofs.lemmas.OccupiedSlots.{length-occupied}
use Rattle.odht_base.proofs.lemmas.FreshRuns.{PlacesBelow, run-place_all, insert_owned-PlacesBelow, insert_view-PlacesBelow}
use Rattle.odht_base.proofs.lemmas.InsertOrders.{pairs_of-IsPairOf, IsInsertOrder-IsOrdered, not_ordered_if_fewer}
use Rattle.odht_base.proofs.lemmas.OrdersKept.{IsOrdered, empty-IsOrdered, run-IsOrdered}
use Rattle.odht_base.proofs.lemmas.TableInserts.{IsBased, insert_owned-IsBased, insert_view-IsBased}
use Rattle.odht_base.proofs.lemmas.FreeSlots.{slot_count-empty, count-empty, empty-IsValid}

-- the pairs of slots are no more than the slots
pairs_of-le : (P : Table) (out : List ℕ) → length (pairs_of P out) ≤ length out
pairs_of-le P [] = omega arith
pairs_of-le P (i ∷ out) = go (cell_at P.cells i) (pairs_of-le P out)
  where
    go : (c : Option Pair) → length (pairs_of P out) ≤ length out → length (cons_option c (pairs_of P out)) ≤ length (i ∷ out)
    go None l = omega arith
    go (Some p) l = omega arith

-- an insert order has as many slots as the table has pairs
pub length-IsInsertOrder : (F : Format) (P : Table) (out : List ℕ) → IsInsertOrder F P out → length out ≡ count P
length-IsInsertOrder F P out o = length_permutation (occupied P) out o.each_once ∙ length-occupied P

module _ (F : Format) (P : Table) (ok : IsValid F P) where
  -- ---- from an order to inserts
  -- an empty table of as many slots takes the pairs of an insert order without growth or error, and is then the table
  pub order-runs : (insert : Table → Pair → Option Table) → PlacesBelow F insert → (out : List ℕ) → IsInsertOrder F P out → run insert (empty (slot_count P) P.factor) (pairs_of P out) ≡ Some P
  order-runs insert places out o =
      let s = slot_count P in
      let fit = pairs_of-IsPairOf F P out ok.placed.pairs in
      let most : max_items (slot_count (empty s P.factor)) P.factor ≡ max_items s P.factor = ap (λ n. max_items n P.factor) (slot_count-empty s P.factor) in
      let room : count (empty s P.factor) + length (pairs_of P out) ≤ max_items (slot_count (empty s P.factor)) P.factor =
      omega (arith, count-empty s P.factor, pairs_of-le P out, length-IsInsertOrder F P out o, ok.room, most) in
      run-place_all F insert places (empty s P.factor) (pairs_of P out) (empty-IsValid s P.factor F ok.placed.slots ok.factor_low ok.factor_high) fit room ∙ o.gives

  -- so these inserts make it
  order-IsMadeBy : (insert : Table → Pair → Option Table) → PlacesBelow F insert → (out : List ℕ) → IsInsertOrder F P out → IsMadeBy F insert P
  order-IsMadeBy insert places out o =
      (slot_count P, pairs_of P out, ok.placed.slots, pairs_of-IsPairOf F P out ok.placed.pairs, order-runs insert places out o)

  -- so a table with an insert order is made by each of the four inserts
  pub made_by_each : (out : List ℕ) → IsInsertOrder F P out → IsMadeBy F (insert_owned F) P × IsMadeBy F (insert_view F) P × IsMadeBy F (insert_owned_by_count F) P × IsMadeBy F (insert_view_by_count F) P
  made_by_each out o = (
    order-IsMadeBy (insert_owned F) (insert_owned-PlacesBelow F) out o,
    order-IsMadeBy (insert_view F) (insert_view-PlacesBelow F) out o,
    order-IsMadeBy (insert_owned_by_count F) (insert_owned_by_count-PlacesBelow F) out o,
    order-IsMadeBy (insert_view_by_count F) (insert_view_by_count-PlacesBelow F) out o,
  )

  -- ---- and back
  -- a table that inserts make has its slots in an order in which each is ready
  madeBy-IsOrdered : (insert : Table → Pair → Option Table) → IsBased F insert → IsMadeBy F insert P → IsOrdered F P
  madeBy-IsOrdered insert based m =
      run-IsOrdered F insert based (empty m.0 P.factor) P m.1 (empty-IsValid m.0 P.factor F m.2 ok.factor_low ok.factor_high) (empty-IsOrdered F m.0 P.factor) m.3 m.4

  -- by any of the four
  made-IsOrdered : IsMade F P → IsOrdered F P
  made-IsOrdered (inl m) = madeBy-IsOrdered (insert_owned F) (insert_owned-IsBased F) m
  made-IsOrdered (inr (inl m)) = madeBy-IsOrdered (insert_view F) (insert_view-IsBased F) m
  made-IsOrdered (inr (inr (inl m))) = madeBy-IsOrdered (insert_owned_by_count F) (insert_owned_by_count-IsBased F) m
  made-IsOrdered (inr (inr (inr m))) = madeBy-IsOrdered (insert_view_by_count F) (insert_view_by_count-IsBased F) m

  -- a table is made exactly where it has an insert order
  pub IsMade-IsInsertOrder : IsMade F P ↔ ((out : List ℕ) × IsInsertOrder F P out)
  IsMade-IsInsertOrder = (
    λ m. let o = made-IsOrdered m in (o.order, IsInsertOrder-IsOrdered F P ok.placed o),
    λ o. inl (made_by_each o.0 o.1).0,
  )

  -- ---- the end of a search for an insert order
  -- stuck with fewer: no inserts make it
  pub not_made_if_fewer : (xs : List ℕ) → IsStuck F P xs → length xs < count P → IsMade F P → ⊥
  not_made_if_fewer xs stuck few m = not_ordered_if_fewer F P ok.placed xs stuck few (made-IsOrdered m)
