-- Inserts in an insert order make a table again.
use Rattle.std.proofs.Common.{◌≡◌, ◌∙◌, ℕ, sym, ap, List, Some}
use Rattle.odht_base.specs.Insert.{run, insert_owned}
use Rattle.odht_raw.specs.Words.{Coding, empty, slot_count, Table}
use Rattle.odht_base.specs.Table.{fresh}
use Rattle.odht_base.proofs.lemmas.FreshRuns.{insert_owned-PlacesBelow}
use Rattle.odht_base.proofs.lemmas.MadeTables.{order-runs}
use Rattle.odht_base.proofs.lemmas.Options.{some_same}
use Rattle.odht.specs.Lists.{encoded_all}
use Rattle.odht.specs.Rebuilds.{IsRebuilding}

module _ {K V : Type 0} (c : Coding K V) (items : List (K × V)) (n percent : ℕ) (start : Table) (new : fresh n percent ≡ Some start) where
  -- inserting the items into the new table makes the table again
  pub rebuilt-is : (Q : Table) → run (insert_owned c.format) start (encoded_all c items) ≡ Some Q → (P : Table) → IsRebuilding c items n percent P → Q ≡ P
  rebuilt-is Q runs P is =
      let F = c.format in
      let starts = some_same start (empty (slot_count P) P.factor) (sym new ∙ is.size) in
      let from_start = ap (λ R. run (insert_owned F) R (encoded_all c items)) starts in
      let in_turn = ap (run (insert_owned F) (empty (slot_count P) P.factor)) is.in_order.pairs in
      let makes = order-runs F P is.valid (insert_owned F) (insert_owned-PlacesBelow F) is.in_order.order is.in_order.is_order in
      some_same Q P (sym runs ∙ from_start ∙ in_turn ∙ makes)
