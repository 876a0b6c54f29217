use Rattle.std.proofs.Common.{replicate}
use Rattle.std.specs.Io.KnownBytes.{Appends}
use Rattle.odht_tool_core.proofs.progress.write_signs.Given as goal

-- a character was written in each turn
abbrev pub invariant-loop : goal.invariant-loop
invariant-loop g l = Appends (g.E.Write.contents l.initial.errors) (g.E.Write.contents l.errors) (replicate l.counter l.fn.sign)
