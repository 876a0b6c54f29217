use Rattle.std.proofs.Common.{◌≡◌, List, [], None, map, take}
use Rattle.odht_base.specs.Format.{format_of}
use Rattle.odht_base.specs.Table.{Pair, Table}
use Rattle.odht_tool_writes.specs.Merges.{IsFilled, all_of, input_pairs, repeat_of}
use Rattle.odht_tool_core.specs.ReadyShapes.{typed_len}
use Rattle.odht_tool_writes.proofs.dynamic.merges.merge_into.Given as goal

-- the table is filled with the pairs of the files so far, of which no key is repeated where that is a failure
abbrev pub invariant-loop-at : goal.invariant-loop-at
invariant-loop-at g l =
    let F = format_of (typed_len l.texts.key) (typed_len l.texts.value) g.H.HashFn.hash in
    let done : List (List Pair) = map input_pairs (take l.at l.inputs) in
    record {
      key_len : l.table.key_len ≡ typed_len l.texts.key;
      value_len : l.table.value_len ≡ typed_len l.texts.value;
      filled : (start : Table) → IsFilled F l.duplicates start [] l.fn.table.store → IsFilled F l.duplicates start (all_of done) l.table.store;
      none : repeat_of l.duplicates done ≡ None;
    }
