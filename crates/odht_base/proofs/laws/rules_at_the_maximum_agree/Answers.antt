use Rattle.odht_base.specs.CountRule.{insert_owned_by_count, insert_view_by_count}
use Rattle.odht_base.specs.Insert.{insert_owned, insert_view}
use Rattle.odht_base.proofs.lemmas.CountRules.{insert_owned-agrees, insert_view-agrees, run-agrees, run-apart}
use Rattle.odht_base.proofs.lemmas.TableInserts.{insert_owned-IsInsert, insert_view-IsInsert}
use Rattle.odht_base.proofs.laws.rules_at_the_maximum_agree.Goals as goal

pub returns-clause-owned : goal.returns-clause-owned
returns-clause-owned c F = run-agrees (insert_owned F) (insert_owned_by_count F) (insert_owned-agrees F)

pub returns-clause-view : goal.returns-clause-view
returns-clause-view c F = run-agrees (insert_view F) (insert_view_by_count F) (insert_view-agrees F)

pub returns-clause-new_keys_owned : goal.returns-clause-new_keys_owned
returns-clause-new_keys_owned c F = run-apart F (insert_owned F) (insert_owned-IsInsert F) (insert_owned_by_count F) (insert_owned-agrees F)

pub returns-clause-new_keys_view : goal.returns-clause-new_keys_view
returns-clause-new_keys_view c F = run-apart F (insert_view F) (insert_view-IsInsert F) (insert_view_by_count F) (insert_view-agrees F)
