use Rattle.std.proofs.Common.{take}
use Rattle.odht.specs.DynOwned.{IsDynWith}
use Rattle.odht_tool_writes.specs.Deletes.{AreNamed}
use Rattle.odht_tool_writes.proofs.dynamic.deletes.named_keys.Given as goal

-- the table has the keys so far
abbrev pub invariant-loop-at : goal.invariant-loop-at
invariant-loop-at g l = IsDynWith l.key_len 0 (AreNamed (take l.at l.keys)) l.named
