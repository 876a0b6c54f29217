use Rattle.odht_base.specs.CountRule.{insert_owned_by_count, insert_view_by_count}
use Rattle.odht_base.specs.Insert.{insert_owned, insert_view}
use Rattle.odht_base.proofs.lemmas.CountedInserts.{insert_owned_by_count-PlacesBelow, insert_view_by_count-PlacesBelow}
use Rattle.odht_base.proofs.lemmas.FreshRuns.{insert_owned-PlacesBelow, insert_view-PlacesBelow}
use Rattle.odht_base.proofs.lemmas.MadeTables.{IsMade-IsInsertOrder, order-runs}
use Rattle.odht_base.proofs.laws.insert_orders_make_tables.Goals as goal

pub returns-clause-made : goal.returns-clause-made
returns-clause-made c F P ok = IsMade-IsInsertOrder F P ok

pub returns-clause-owned : goal.returns-clause-owned
returns-clause-owned c F P order ok is = order-runs F P ok (insert_owned F) (insert_owned-PlacesBelow F) order is

pub returns-clause-view : goal.returns-clause-view
returns-clause-view c F P order ok is = order-runs F P ok (insert_view F) (insert_view-PlacesBelow F) order is

pub returns-clause-owned_by_count : goal.returns-clause-owned_by_count
returns-clause-owned_by_count c F P order ok is = order-runs F P ok (insert_owned_by_count F) (insert_owned_by_count-PlacesBelow F) order is

pub returns-clause-view_by_count : goal.returns-clause-view_by_count
returns-clause-view_by_count c F P order ok is = order-runs F P ok (insert_view_by_count F) (insert_view_by_count-PlacesBelow F) order is
