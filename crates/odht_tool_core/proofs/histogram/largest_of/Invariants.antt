use Rattle.std.proofs.Common.{◌≡◌, take}
use Rattle.odht_tool_core.specs.InfoNumbers.{largest}
use Rattle.odht_tool_core.proofs.histogram.largest_of.Given as goal

-- it is the largest of the counts so far
abbrev pub invariant-loop-count : goal.invariant-loop-count
invariant-loop-count l = l.most ≡ largest (take l.count-index l.counts)
