use Rattle.std.proofs.Common.{◌≡◌, ◌+◌, suc, ◌<◌, length, take, sym, subst, arith}
use Rattle.std.specs.Io.KnownBytes.{Appends}
use Rattle.odht_tool_core.specs.Texts.{answer_line, answers_text}
use Rattle.odht_tool_core.proofs.Answered.{answers_take, appends_more}
use Rattle.odht_tool_core.proofs.answers.write_answers_as.Goals as goal

pub loop-at-preserved : goal.loop-at-preserved
loop-at-preserved g c =
    let f = g.K.Written.text (g.F.Forms.pair c.args.forms).0 in
    let h = g.V.Written.text (g.F.Forms.pair c.args.forms).1 in
    let at = c.loop-at.at in
    let keys = c.args.keys.now in
    let values = c.args.values.now in
    let next : at + 1 ≡ suc at = omega arith in
    let inside : at < length values = omega (arith, c.loop-at-test.true, c.requires) in
    let line = answers_take (answer_line f h) keys values at c.index-keys-at.result c.index-values-at.result c.loop-at-test.true inside c.index-keys-at.is c.index-values-at.is in
    let written = appends_more (g.O.Write.contents c.args.output.now) (g.O.Write.contents c.loop-at.output) (g.O.Write.contents c.write_answer.new.output)
    (answers_text f h (take at keys) (take at values)) (answer_line f h (c.index-keys-at.result, c.index-values-at.result)) c.loop-at.invariant c.in_ok-write_answer.ensures in
    let all = subst (Appends (g.O.Write.contents c.args.output.now) (g.O.Write.contents c.write_answer.new.output)) (sym line) written in
    subst (λ n. Appends (g.O.Write.contents c.args.output.now) (g.O.Write.contents c.write_answer.new.output) (answers_text f h (take n keys) (take n values))) (sym next) all
