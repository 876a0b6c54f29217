use Rattle.std.specs.Io.KnownBytes.{Appends}
use Rattle.std.specs.List.{flat_map, range_with_len}
use Rattle.odht_tool_core.specs.InfoTexts.{tally_line}
use Rattle.odht_tool_core.proofs.histogram.write_bars.Given as goal

-- the lines of the counts so far are written
abbrev pub invariant-loop-index : goal.invariant-loop-index
invariant-loop-index g l =
    Appends (g.W.Write.contents l.initial.output) (g.W.Write.contents l.output) (flat_map (tally_line l.counts l.longest) (range_with_len 0 l.index))
