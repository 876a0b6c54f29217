use Rattle.std.proofs.Common.{◌≡◌, ◌≤◌, length}
use Rattle.odht_tool_core.specs.InfoNumbers.{occupied_in}
use Rattle.odht_tool_core.proofs.stored.StoredTable.count_in.Given as goal

-- the occupied slots so far are counted
abbrev pub invariant-loop-index : goal.invariant-loop-index
invariant-loop-index l = (l.count ≡ length (occupied_in l.self l.first l.index)) × (l.count ≤ l.index)
