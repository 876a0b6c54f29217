use Rattle.std.proofs.Common.{◌-◌, length}
use Rattle.odht_tool_core.proofs.Finds.{IsSearchedTo}
use Rattle.odht_tool_core.proofs.find.find_tables.Given as goal

-- what is found before this byte
abbrev pub invariant-loop-at : goal.invariant-loop-at
invariant-loop-at l = IsSearchedTo l.bytes l.at l.false_slots l.tables.items

abbrev pub decreases-loop-at : goal.decreases-loop-at
decreases-loop-at l = length l.bytes - l.at
