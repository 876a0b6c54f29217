use Rattle.std.proofs.Common.{◌≡◌, ◌<◌, ℕ, true}
use Rattle.odht_base.specs.Bounds.{ends_within}
use Rattle.odht_tool_core.proofs.stored.StoredTable.first_longer.Given as goal

-- searches from the homes so far end in time
abbrev pub invariant-loop-home : goal.invariant-loop-home
invariant-loop-home l = (b : ℕ) → b < l.home → ends_within l.self.control l.groups b ≡ true
