use Rattle.std.proofs.Common.{rules, ◌≡◌, ◌∙◌, List, false, sym, subst}
use Rattle.odht_base.specs.Table.{Pair}
use Rattle.odht.specs.Dynamic.{dyn_format}
use Rattle.odht.specs.Plain.{IsRunOf}
use Rattle.odht.proofs.lemmas.PlainRuns.{run_more}
use Rattle.odht_tool_writes.specs.Deletes.{is_among, without}
use Rattle.odht_tool_writes.proofs.Deletions.{known, without-other}
use Rattle.odht_tool_writes.proofs.dynamic.deletes.insert_other.Goals as goal

pub returns-in-Ok-clause-inserted : goal.returns-in-Ok-clause-inserted
returns-in-Ok-clause-inserted g c ks P ps named was =
    let t = c.args.table.now in
    let t' = c.insert.new.self in
    let one : Pair = record { key = c.args.key.now; value = c.args.value.now } in
    let F = dyn_format t g.H.HashFn.hash in
    let said = c.in-Ok.ensures in
    let no : c.contains_key.result ≡ false = search rules in
    let other : is_among ks one.key ≡ false = known ks c.args.named.now.store one.key c.contains_key.result named c.contains_key.ensures ∙ no in
    subst (λ (xs : List Pair). IsRunOf F P xs t'.store) (sym (without-other ks ps one other))
    (run_more F P (without ks ps) one t.store t'.store was said.inserted said.maps said.stays)
