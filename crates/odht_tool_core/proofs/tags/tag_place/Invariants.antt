use Rattle.std.proofs.Common.{◌-◌, ◌≢◌, ◌≤◌, ◌<◌, ℕ, length}
use Rattle.odht_base.specs.Bytes.{bytes_at}
use Rattle.odht_tool_core.specs.Finds.{tag_bytes}
use Rattle.odht_tool_core.proofs.tags.tag_place.Given as goal

-- no tag stands before this byte
abbrev pub invariant-loop-at : goal.invariant-loop-at
invariant-loop-at l = (l.at ≤ length l.bytes) × ((i : ℕ) → i < l.at → bytes_at l.bytes i 4 ≢ tag_bytes)

abbrev pub decreases-loop-at : goal.decreases-loop-at
decreases-loop-at l = l.end - l.at
