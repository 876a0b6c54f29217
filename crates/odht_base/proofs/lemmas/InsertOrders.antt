-- An insert order is all occupied slots in an order in which each is ready, and a search for one finds it or is stuck.
use Rattle.std.proofs.Common.{◌≡◌, ◌<◌, inl, inr, ℕ, refl, List, [], ◌∷◌, Option, Some, None, length, get_or, arith, All, Contains}
use Rattle.std.specs.List.{cons_option}
use Rattle.std.proofs.lemmas.List.Elements.{All-nil, All-cons, Contains-get_or}
use Rattle.std.proofs.lemmas.List.Sorted.{IsPermutation-sym}
use Rattle.odht_base.specs.Format.{Format}
use Rattle.odht_base.specs.Made.{IsInsertOrder, occupied, pairs_of}
use Rattle.odht_base.specs.Ready.{IsSoFar, IsStuck}
use Rattle.odht_base.specs.Table.{Pair, Table, slot_count, count, cell_at}
use Rattle.odht_base.specs.Valid.{HasPairsOf, HoldsPair, IsPairOf, IsPlaced}
use Rattle.odht_base.proofs.lemmas.OccupiedSlots.{occupied-Contains, occupied-apart, length-occupied}
use Rattle.odht_base.proofs.lemmas.OrdersKept.{IsOrdered, place_all-IsOrdered}
use Rattle.odht_base.proofs.lemmas.Pigeons.{pigeons, pigeons_fit}
use Rattle.odht_base.proofs.lemmas.ReadySlots.{contains_or_not}
use Rattle.odht_base.proofs.lemmas.Rebuilt.{so_far_gives}
use Rattle.odht_base.proofs.lemmas.SoFar.{so_far_holds, so_far_lt, stuck_has_all}

-- the pairs of slots are pairs of the format
pub pairs_of-IsPairOf : (F : Format) (P : Table) (out : List ℕ) → HasPairsOf F P.cells → All (IsPairOf F) (pairs_of P out)
pairs_of-IsPairOf F P [] fit = All-nil (IsPairOf F)
pairs_of-IsPairOf F P (i ∷ out) fit = go (cell_at P.cells i) (fit i) (pairs_of-IsPairOf F P out fit)
  where
    go : (c : Option Pair) → ((p : Pair) → c ≡ Some p → IsPairOf F p) → All (IsPairOf F) (pairs_of P out) → All (IsPairOf F) (cons_option c (pairs_of P out))
    go None one rest = rest
    go (Some p) one rest = All-cons (IsPairOf F) p (pairs_of P out) (one p refl) rest

module _ (F : Format) (P : Table) (ok : IsPlaced F P) where
  -- ---- orders in which each slot is ready
  -- taken slots with all occupied ones among them are an insert order
  order_if_whole : (xs : List ℕ) → IsSoFar F P xs → ((i : ℕ) (p : Pair) → HoldsPair P i p → Contains xs i) → IsInsertOrder F P xs
  order_if_whole xs s all =
      let held = λ (k d : ℕ) (l : k < length xs). (occupied-Contains P (get_or xs k d)).1 (so_far_holds F P xs s (get_or xs k d) (Contains-get_or xs k d l)) in
      let few = pigeons_fit (occupied P) xs (occupied-apart P) (λ k d l. let h = (occupied-Contains P (get_or (occupied P) k d)).0 (Contains-get_or (occupied P) k d l) in all (get_or (occupied P) k d) h.0 h.1) in
      record {
        each_once = IsPermutation-sym xs (occupied P) (pigeons xs (occupied P) s.apart held few);
        gives = so_far_gives F P ok xs s all;
      }

  -- so a table with such an order has an insert order
  pub IsInsertOrder-IsOrdered : (o : IsOrdered F P) → IsInsertOrder F P o.order
  IsInsertOrder-IsOrdered o = order_if_whole o.order o.so_far o.all

  -- and a table with an insert order has such an order
  pub IsOrdered-IsInsertOrder : (out : List ℕ) → IsInsertOrder F P out → IsOrdered F P
  IsOrdered-IsInsertOrder out o = place_all-IsOrdered F (slot_count P) P.factor P (pairs_of P out) ok.slots (pairs_of-IsPairOf F P out ok.pairs) o.gives

  -- ---- the end of a search
  -- as many slots as there are pairs: they are an insert order
  pub order_if_all : (xs : List ℕ) → IsSoFar F P xs → length xs ≡ count P → IsInsertOrder F P xs
  order_if_all xs s enough = order_if_whole xs s (λ i p h. elim (contains_or_not xs i) [ inl here ↦ here | inr out ↦ absurd (omega (arith, enough, so_far_lt F P xs i p s h out)) ])

  -- stuck with fewer: there is no order in which each slot is ready
  pub not_ordered_if_fewer : (xs : List ℕ) → IsStuck F P xs → length xs < count P → IsOrdered F P → ⊥
  not_ordered_if_fewer xs stuck few o =
      let all = λ (k d : ℕ) (l : k < length (occupied P)).
      let h = (occupied-Contains P (get_or (occupied P) k d)).0 (Contains-get_or (occupied P) k d l) in
      stuck_has_all F P xs o.order stuck o.so_far (get_or (occupied P) k d) (o.all (get_or (occupied P) k d) h.0 h.1) in
      omega (arith, few, length-occupied P, pigeons_fit (occupied P) xs (occupied-apart P) all)

  -- so there is no insert order
  pub no_order_if_fewer : (xs : List ℕ) → IsStuck F P xs → length xs < count P → (out : List ℕ) → IsInsertOrder F P out → ⊥
  no_order_if_fewer xs stuck few out o = not_ordered_if_fewer xs stuck few (IsOrdered-IsInsertOrder out o)
