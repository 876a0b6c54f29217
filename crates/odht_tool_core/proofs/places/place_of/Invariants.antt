use Rattle.std.proofs.Common.{◌≡◌, ◌≢◌, ◌+◌, ◌-◌, ◌≤◌, ◌==◌, length, drop}
use Rattle.std.specs.List.{position_or_len}
use Rattle.odht_tool_core.proofs.places.place_of.Given as goal

-- the byte is not before the place, which is behind sixteen bytes or more once it has moved
abbrev pub invariant-loop-at : goal.invariant-loop-at
invariant-loop-at l =
    (l.at ≤ length l.bytes)
    × (position_or_len (λ x. x == l.byte) l.bytes ≡ l.at + position_or_len (λ x. x == l.byte) (drop l.at l.bytes))
    × (l.at ≢ 0 → 16 ≤ l.at)

abbrev pub decreases-loop-at : goal.decreases-loop-at
decreases-loop-at l = length l.bytes - l.at
