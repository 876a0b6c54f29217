use Rattle.odht_base.specs.Insert.{insert_owned, insert_view}
use Rattle.odht_base.proofs.lemmas.FreshRuns.{insert_owned-PlacesBelow, insert_view-PlacesBelow, run-fresh}
use Rattle.odht_base.proofs.lemmas.TableInserts.{insert_owned-IsInsert, insert_view-IsInsert}
use Rattle.odht_base.proofs.lemmas.FreeSlots.{IsValid-free, place-IsValid_fits}
use Rattle.odht_base.proofs.laws.valid_tables_have_room.Goals as goal

pub returns-clause-free : goal.returns-clause-free
returns-clause-free c = IsValid-free

pub returns-clause-takes : goal.returns-clause-takes
returns-clause-takes c = place-IsValid_fits

pub returns-clause-owned : goal.returns-clause-owned
returns-clause-owned c F n p P ps low high e fit few =
    let q = run-fresh F (insert_owned F) (insert_owned-IsInsert F) (insert_owned-PlacesBelow F) n p P ps low high e fit few in
    (q.0, q.1, q.2)

pub returns-clause-view : goal.returns-clause-view
returns-clause-view c F n p P ps low high e fit few =
    let q = run-fresh F (insert_view F) (insert_view-IsInsert F) (insert_view-PlacesBelow F) n p P ps low high e fit few in
    (q.0, q.1, q.2)
