use Rattle.std.proofs.Common.{◌≡◌, ◌++◌, ◌≤◌, length, map, drop}
use Rattle.odht_calls.proofs.read.walk.Given as goal

-- the pairs so far are in the arrays, and these and what is left are the walk
abbrev pub invariant-loop-slot : goal.invariant-loop-slot
invariant-loop-slot g l = record {
  walk : l.initial.slot-iterator ≡ l.yielded ++ l.slot-iterator;
  written : l.written ≡ length l.yielded;
  within : l.written ≤ length l.fn.keys;
  keys : l.keys ≡ map (λ x. x.1.0) l.yielded ++ drop l.written l.fn.keys;
  values : l.values ≡ map (λ x. x.1.1) l.yielded ++ drop l.written l.fn.values;
}
