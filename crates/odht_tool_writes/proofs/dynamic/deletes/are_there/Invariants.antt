use Rattle.std.proofs.Common.{◌≡◌, true, take}
use Rattle.odht.specs.Dynamic.{dyn_format}
use Rattle.odht.specs.Tables.{OfTable}
use Rattle.odht_tool_writes.specs.Deletes.{have_values}
use Rattle.odht_tool_writes.proofs.dynamic.deletes.are_there.Given as goal

-- the keys so far have values
abbrev pub invariant-loop-at : goal.invariant-loop-at
invariant-loop-at g l = OfTable (dyn_format l.table g.H.HashFn.hash) l.table.store.0.now (λ P. have_values P (take l.at l.keys) ≡ true)
