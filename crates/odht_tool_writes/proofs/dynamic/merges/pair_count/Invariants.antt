use Rattle.std.proofs.Common.{◌≡◌, length, map, take}
use Rattle.odht_tool_writes.specs.Merges.{all_of, input_pairs}
use Rattle.odht_tool_writes.proofs.dynamic.merges.pair_count.Given as goal

-- the pairs of the files so far are counted
abbrev pub invariant-loop-input : goal.invariant-loop-input
invariant-loop-input l = l.count ≡ length (all_of (map input_pairs (take l.input-index l.inputs)))
