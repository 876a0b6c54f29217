use Rattle.std.proofs.Common.{◌≡◌, ◌++◌, List, map}
use Rattle.odht_base.specs.Table.{Pair}
use Rattle.odht.specs.Dynamic.{dyn_format, dyn_store}
use Rattle.odht.specs.Plain.{IsRunOf}
use Rattle.odht_tool_writes.proofs.commands.rebuild.insert_pairs.Given as goal

-- the pairs so far are inserted, and these and what is left are the pairs
abbrev pub invariant-loop-key : goal.invariant-loop-key
invariant-loop-key g l =
    let F = dyn_format l.fn.table g.H.HashFn.hash in
    let done : List Pair = map (λ x. record { key = x.0.now; value = x.1.now }) l.yielded in
    record {
      lengths : l.table ≡ dyn_store l.fn.table.key_len l.fn.table.value_len l.table.store;
      pairs : l.fn.pairs ≡ done ++ l.key-iterator;
      ran : IsRunOf F l.fn.table.store done l.table.store;
    }
