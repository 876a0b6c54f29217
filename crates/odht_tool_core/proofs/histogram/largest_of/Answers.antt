use Rattle.std.proofs.Common.{◌∙◌, take_all, sym, ap, arith}
use Rattle.std.proofs.lemmas.Grind.{common_steps}
use Rattle.odht_tool_core.specs.InfoNumbers.{largest}
use Rattle.odht_tool_core.proofs.Tallies.{largest-none}
use Rattle.odht_tool_core.proofs.histogram.largest_of.Goals as goal

pub loop-count-init : goal.loop-count-init
loop-count-init c = sym largest-none

pub loop-count-preserved : goal.loop-count-preserved
unfolding largest
loop-count-preserved c = grind (arith, common_steps)

pub returns : goal.returns
returns c = c.loop-count.invariant ∙ ap largest (take_all c.loop-count.count-index c.args.counts.now c.loop-count-test.false)
