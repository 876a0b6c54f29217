use Rattle.std.proofs.Common.{◌≡◌, ◌+◌, ◌-◌, length}
use Rattle.std.specs.List.{list_any, range_with_len}
use Rattle.odht_tool_core.specs.Near.{is_slip}
use Rattle.odht_tool_core.proofs.near.is_near.Given as goal

-- whether there is a slip is told by the bytes that are left
abbrev pub invariant-loop-at : goal.invariant-loop-at
invariant-loop-at l =
    list_any (is_slip l.one l.other) (range_with_len l.at (length l.one + 1 - l.at))
    ≡ list_any (is_slip l.one l.other) (range_with_len 0 (length l.one + 1))
