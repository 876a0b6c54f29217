use Rattle.odht_tool_core.specs.InfoNumbers.{IsHistogram, group_numbers}
use Rattle.odht_tool_core.proofs.stored.StoredTable.histogram.Given as goal

-- the occupied slots so far are counted
abbrev pub invariant-loop-slot : goal.invariant-loop-slot
invariant-loop-slot l = IsHistogram (group_numbers l.self l.hash l.bound l.slot) l.histogram
