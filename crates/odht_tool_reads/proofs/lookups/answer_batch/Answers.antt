use Rattle.std.proofs.Common.{rules, arith, ◌≡◌, ◌<◌, ◌≤◌, Err, IfErr, length, subst, sym}
use Rattle.odht_tool_core.specs.JsonAnswers.{answer_in}
use Rattle.odht_tool_reads.specs.GetParts.{IsKeysFailure}
use Rattle.odht_tool_reads.specs.declared.lookups.TheConstants.{BATCH}
use Rattle.odht_tool_reads.proofs.KeyAnswers.{full_failure, nothing_flushed}
use Rattle.odht_tool_reads.proofs.lookups.answer_batch.Goals as goal

pub returns-then-is_few-clause-ok : goal.returns-then-is_few-clause-ok
returns-then-is_few-clause-ok g c =
    let coding = g.T.Lookups.coding c.args.table.now in
    let forms = g.F.Forms.pair c.args.style.answers.forms in
    let few : length (g.T.Keys.Keys.items c.args.keys.now) < BATCH = omega (arith, c.is_few.ensures.few c.if-is_few.true, c.count.ensures) in
    nothing_flushed coding (answer_in c.args.style.answers.printed (g.T.Keys.Key.Written.text forms.0) (g.T.Value.Written.text forms.1)) (g.T.Lookups.bytes c.args.table.now) c.args.style.coming.is_live (g.T.Keys.Keys.items c.args.keys.now) (g.O.Write.contents c.args.output.now) c.args.is_all_found few

-- where lines are not answered as they come, the keys that fail are a batch
pub returns-in_err-is_found-clause-full : goal.returns-in_err-is_found-clause-full
returns-in_err-is_found-clause-full g c quiet =
    let x = c.in_err-is_found.field-0.0 in
    let keys = g.T.Keys.Keys.items c.args.keys.now in
    let old = g.O.Write.contents c.args.output.now in
    let new = g.O.Write.contents c.answer.new.output in
    let failed : c.from_residual.result ≡ Err x = search rules in
    let why = c.in_err-is_found.ensures.err in
    let most : BATCH ≤ length keys = omega (arith, c.is_few.ensures.full quiet c.if-is_few.false, c.count.ensures) in
    subst (λ r. IfErr r (IsKeysFailure BATCH keys old new)) (sym failed) (full_failure BATCH keys old new x most why)
