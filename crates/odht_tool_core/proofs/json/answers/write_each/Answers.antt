use Rattle.std.proofs.Common.{◌≡◌, ◌+◌, suc, ◌<◌, length, take, sym, subst, arith}
use Rattle.std.specs.Io.KnownBytes.{Appends}
use Rattle.odht_tool_core.specs.JsonAnswers.{answer_in}
use Rattle.odht_tool_core.specs.Texts.{answers_by}
use Rattle.odht_tool_core.proofs.Answered.{answers_take, appends_more}
use Rattle.odht_tool_core.proofs.json.answers.write_each.Goals as goal

pub loop-at-preserved : goal.loop-at-preserved
loop-at-preserved g c =
    let f = g.K.Written.text (g.F.Forms.pair c.args.style.forms).0 in
    let h = g.V.Written.text (g.F.Forms.pair c.args.style.forms).1 in
    let at = c.loop-at.at in
    let keys = c.args.keys.now in
    let values = c.args.values.now in
    let next : at + 1 ≡ suc at = omega arith in
    let inside : at < length values = omega (arith, c.loop-at-test.true, c.requires) in
    let line = answers_take (answer_in c.args.style.printed f h) keys values at c.index-keys-at.result c.index-values-at.result c.loop-at-test.true inside c.index-keys-at.is c.index-values-at.is in
    let written = appends_more (g.O.Write.contents c.args.output.now) (g.O.Write.contents c.loop-at.output) (g.O.Write.contents c.write_answer_in.new.output)
    (answers_by (answer_in c.args.style.printed f h) (take at keys) (take at values)) (answer_in c.args.style.printed f h (c.index-keys-at.result, c.index-values-at.result)) c.loop-at.invariant c.in_ok-write_answer_in.ensures in
    let all = subst (Appends (g.O.Write.contents c.args.output.now) (g.O.Write.contents c.write_answer_in.new.output)) (sym line) written in
    subst (λ n. Appends (g.O.Write.contents c.args.output.now) (g.O.Write.contents c.write_answer_in.new.output) (answers_by (answer_in c.args.style.printed f h) (take n keys) (take n values))) (sym next) all
