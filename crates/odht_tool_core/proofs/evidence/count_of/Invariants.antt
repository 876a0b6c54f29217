use Rattle.std.proofs.Common.{◌≡◌, ◌≤◌, count_by}
use Rattle.odht_tool_core.specs.Evidence.{looks, parts_to}
use Rattle.odht_tool_core.proofs.evidence.count_of.Given as goal

-- those so far that look so are counted
abbrev pub invariant-loop-slot : goal.invariant-loop-slot
invariant-loop-slot l = (l.count ≡ count_by (looks l.look) (parts_to l.side l.table l.slot)) × (l.count ≤ l.slot)
