use Rattle.std.proofs.Common.{rules, ◌≡◌, ◌∙◌, ap, is_some, subst, sym}
use Rattle.std.specs.Io.KnownBytes.{Appends}
use Rattle.odht.specs.Dynamic.{dyn_coding}
use Rattle.odht.specs.Gets.{IsGet}
use Rattle.odht_tool_core.specs.DynTexts.{dynamic_text}
use Rattle.odht_tool_core.specs.JsonAnswers.{answer_in}
use Rattle.odht_tool_reads.proofs.KeyAnswers.{one_answered}
use Rattle.odht_tool_reads.proofs.lookups.tables.answer_one.Goals as goal

-- the value where it lies is the answer to the key
pub returns-clause-ok : goal.returns-clause-ok
returns-clause-ok g c =
    let coding = dyn_coding c.args.table.now g.H.HashFn.hash in
    let B = c.args.table.now.store.0.now in
    let f = g.F.Forms.pair c.args.style.forms in
    let line = answer_in c.args.style.printed (dynamic_text f.0) (dynamic_text f.1) in
    let key = c.args.key.now in
    let value = c.in_place-value.result in
    let old = g.O.Write.contents c.args.output.now in
    let new = g.O.Write.contents c.write_answer_in.new.output in
    let written : Appends old new (line (key, value)) = search rules in
    let got : IsGet coding B key value = subst (IsGet coding B key) (sym c.in_place-value.ensures) c.get.ensures in
    one_answered coding line B key value old new c.is_some.result got written c.is_some.ensures
