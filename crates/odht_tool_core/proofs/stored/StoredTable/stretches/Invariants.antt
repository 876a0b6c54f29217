use Rattle.std.proofs.Common.{◌≡◌, map}
use Rattle.std.specs.List.{range_with_len}
use Rattle.odht_tool_core.specs.InfoNumbers.{stretch_count}
use Rattle.odht_tool_core.proofs.stored.StoredTable.stretches.Given as goal

-- the counts so far are those of the stretches so far
abbrev pub invariant-loop-stretch : goal.invariant-loop-stretch
invariant-loop-stretch l = l.counts.items ≡ map (stretch_count l.self) (range_with_len 0 l.stretch)
