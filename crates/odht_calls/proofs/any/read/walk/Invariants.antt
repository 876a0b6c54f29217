use Rattle.std.proofs.Common.{◌≡◌, ◌++◌, ◌≤◌, All, length, map, drop}
use Rattle.odht_base.specs.Format.{format_of}
use Rattle.odht_raw.specs.DynParts.{HasLengthsOf, bytes_coding}
use Rattle.odht_raw.specs.Walks.{decoded_slots}
use Rattle.odht_calls.specs.Pieces.{pieces}
use Rattle.odht_calls.proofs.lemmas.AnyLists.{read}
use Rattle.odht_calls.proofs.any.read.walk.Given as goal

-- the pairs so far are in the arrays, these and what is left are the walk, and what is left has the lengths of the table
abbrev pub invariant-loop-slot : goal.invariant-loop-slot
invariant-loop-slot g l =
    let key_len = l.fn.layout.key_len in
    let value_len = l.fn.layout.value_len in
    let K = bytes_coding (format_of key_len value_len g.H.HashFn.hash) in
    record {
      walk : decoded_slots K l.initial.slot-iterator ≡ map read l.yielded ++ decoded_slots K l.slot-iterator;
      written : l.written ≡ length (map read l.yielded);
      within : l.written ≤ l.fn.room;
      lengths : All (λ x. HasLengthsOf key_len value_len x.1) l.slot-iterator;
      keys : pieces key_len l.fn.room l.keys ≡ map (λ x. x.1.0) (map read l.yielded) ++ drop l.written (pieces key_len l.fn.room l.fn.keys);
      values : pieces value_len l.fn.room l.values ≡ map (λ x. x.1.1) (map read l.yielded) ++ drop l.written (pieces value_len l.fn.room l.fn.values);
    }
