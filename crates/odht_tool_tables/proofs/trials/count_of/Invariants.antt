use Rattle.std.proofs.Common.{◌≡◌, ◌+◌, length}
use Rattle.odht_tool_tables.proofs.trials.count_of.Given as goal

-- those counted and those left are all
abbrev pub invariant-loop-pair : goal.invariant-loop-pair
invariant-loop-pair g l = l.count + length l._pair-iterator ≡ length l.fn.pairs
