use Rattle.odht_base.specs.Insert.{insert_owned, insert_view}
use Rattle.odht_base.specs.Valid.{IsValid}
use Rattle.odht_base.proofs.lemmas.TableInserts.{insert_owned-IsInsert, insert_view-IsInsert}
use Rattle.odht_base.proofs.lemmas.InsertRuns.{run-keeps, map_of-run}
use Rattle.odht_base.proofs.laws.runs_have_the_last_values.Goals as goal

pub returns-clause-owned : goal.returns-clause-owned
returns-clause-owned c F P Q ps ok fit e = (
  run-keeps F (IsValid F) (insert_owned F) (insert_owned-IsInsert F) P Q ps ok fit e,
  map_of-run F (IsValid F) (insert_owned F) (insert_owned-IsInsert F) P Q ps ok fit e,
)

pub returns-clause-view : goal.returns-clause-view
returns-clause-view c F P Q ps ok fit e = (
  run-keeps F (IsValid F) (insert_view F) (insert_view-IsInsert F) P Q ps ok fit e,
  map_of-run F (IsValid F) (insert_view F) (insert_view-IsInsert F) P Q ps ok fit e,
)
