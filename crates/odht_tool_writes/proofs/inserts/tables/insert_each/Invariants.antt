use Rattle.std.proofs.Common.{take}
use Rattle.odht_tool_writes.proofs.OwnedRuns.{AreRun}
use Rattle.odht_tool_writes.proofs.inserts.tables.insert_each.Given as goal

-- the pairs so far are inserted
abbrev pub invariant-loop-index : goal.invariant-loop-index
invariant-loop-index g l = AreRun g.H.HashFn.hash l.fn.table l.table (take l.index l.pairs)
