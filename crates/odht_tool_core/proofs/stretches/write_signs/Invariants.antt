use Rattle.std.proofs.Common.{take, map}
use Rattle.std.specs.Io.KnownBytes.{Appends}
use Rattle.odht_tool_core.specs.InfoTexts.{stretch_sign}
use Rattle.odht_tool_core.proofs.stretches.write_signs.Given as goal

-- the signs so far are written
abbrev pub invariant-loop-count : goal.invariant-loop-count
invariant-loop-count g l = Appends (g.O.Write.contents l.initial.output) (g.O.Write.contents l.output) (map (stretch_sign l.len) (take l.count-index l.counts))
