use Rattle.std.proofs.Common.{◌≡◌, ◌∙◌, rules, subst, arith}
use Rattle.std.specs.Io.KnownBytes.{Appends}
use Rattle.odht_tool_core.specs.InfoTexts.{bar}
use Rattle.odht_tool_core.proofs.InfoLines.{bar-some}
use Rattle.odht_tool_core.proofs.histogram.write_bar.Goals as goal

pub returns-then-count-eq0 : goal.returns-then-count-eq0
unfolding bar
returns-then-count-eq0 g c = search rules

pub returns : goal.returns
returns g c =
    let all : c.loop.counter ≡ c.max-signs.result = omega (arith, c.loop-test.false, c.loop.auto.counter-end) in
    subst (Appends (g.W.Write.contents c.args.output.now) (g.W.Write.contents c.loop.output))
    (bar-some c.args.count c.args.most c.loop.counter (omega (arith, c.if-count-eq0.false)) (all ∙ c.max-signs.ensures)) c.loop.invariant
