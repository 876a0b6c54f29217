use Rattle.std.proofs.Common.{◌≡◌, ◌++◌, suc, All, List, ℕ, Ok, length, map}
use Rattle.std.specs.Vec.{vec_len}
use Rattle.std.specs.Vec.Iter.{into_iter_items}
use Rattle.odht_tool_writes.specs.Merges.{IsInputOf, all_pairs, input_pairs}
use Rattle.odht_tool_core.specs.AnyShapes.{any_key, any_value}
use Rattle.odht_tool_core.specs.ReadyShapes.{typed_len}
use Rattle.odht_tool_writes.proofs.commands.merge.inputs_of.Given as goal

-- the files so far are read, and these and what is left are the files
abbrev pub invariant-loop-bytes : goal.invariant-loop-bytes
invariant-loop-bytes l =
    let done : List (List ℕ) = map (λ bytes. bytes.items) l.yielded in
    record {
      files : l.fn.others.items ≡ l.yielded ++ into_iter_items l.bytes-iterator;
      many : vec_len l.inputs ≡ suc (length done);
      inputs : All (IsInputOf (typed_len (any_key l.shape)) (typed_len (any_value l.shape))) l.inputs.items;
      pairs : all_pairs l.shape l.hash l.bound l.fn.first.items done ≡ Ok (map input_pairs l.inputs.items);
    }
