use Rattle.std.proofs.Common.{◌≡◌}
use Rattle.odht_tool_core.specs.InfoNumbers.{largest, miss_numbers}
use Rattle.odht_tool_core.proofs.stored.StoredTable.longest_miss.Given as goal

-- the longest from the homes so far
abbrev pub invariant-loop-home : goal.invariant-loop-home
invariant-loop-home l = l.longest ≡ largest (miss_numbers l.self l.bound l.home)
