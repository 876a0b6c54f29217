use Rattle.std.proofs.Common.{◌≡◌}
use Rattle.std.specs.List.{list_all}
use Rattle.odht_tool_core.specs.Evidence.{looks, parts_to}
use Rattle.odht_tool_core.proofs.evidence.are_all.Given as goal

-- all so far look so, or not
abbrev pub invariant-loop-slot : goal.invariant-loop-slot
invariant-loop-slot l = l.are_all ≡ list_all (looks l.look) (parts_to l.side l.table l.slot)
