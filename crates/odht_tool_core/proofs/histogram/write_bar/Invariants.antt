use Rattle.std.proofs.Common.{replicate}
use Rattle.std.specs.Io.KnownBytes.{Appends}
use Rattle.odht_tool_core.proofs.histogram.write_bar.Given as goal

-- a sign was written in each turn
abbrev pub invariant-loop : goal.invariant-loop
invariant-loop g l = Appends (g.W.Write.contents l.initial.output) (g.W.Write.contents l.output) (replicate l.counter 35)
