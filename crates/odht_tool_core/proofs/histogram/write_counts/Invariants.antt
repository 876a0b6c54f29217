use Rattle.std.specs.Io.KnownBytes.{Appends}
use Rattle.std.specs.List.{flat_map, range_with_len}
use Rattle.odht_tool_core.specs.InfoTexts.{count_item}
use Rattle.odht_tool_core.proofs.histogram.write_counts.Given as goal

-- the counts so far are written
abbrev pub invariant-loop-index : goal.invariant-loop-index
invariant-loop-index g l =
    Appends (g.W.Write.contents l.initial.output) (g.W.Write.contents l.output) (flat_map (count_item l.counts) (range_with_len 0 l.index))
