use Rattle.std.proofs.Common.{◌≡◌, ◌++◌, List, map}
use Rattle.odht_base.specs.Table.{Pair, Table}
use Rattle.odht.specs.Dynamic.{dyn_format, dyn_store}
use Rattle.odht_tool_writes.specs.Merges.{IsFilled}
use Rattle.odht_tool_writes.proofs.dynamic.merges.insert_kept.Given as goal

-- the table is filled with the pairs so far too, and these and what is left are the pairs
abbrev pub invariant-loop-key : goal.invariant-loop-key
invariant-loop-key g l =
    let F = dyn_format l.fn.table g.H.HashFn.hash in
    let done : List Pair = map (λ x. record { key = x.0.now; value = x.1.now }) l.yielded in
    record {
      lengths : l.table ≡ dyn_store l.fn.table.key_len l.fn.table.value_len l.table.store;
      pairs : l.fn.pairs ≡ done ++ l.key-iterator;
      filled : (start : Table) (ps : List Pair) → IsFilled F l.duplicates start ps l.fn.table.store → IsFilled F l.duplicates start (ps ++ done) l.table.store;
    }
