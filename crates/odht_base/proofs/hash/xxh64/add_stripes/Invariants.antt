use Rattle.std.proofs.Common.{◌≡◌, ◌-◌, ◌^◌, length}
use Rattle.odht_base.specs.Xxh64.{rest, accumulated, plus, prime_1, prime_2}
use Rattle.odht_base.proofs.hash.xxh64.add_stripes.Given as goal

abbrev pub invariant-loop-stripe : goal.invariant-loop-stripe
invariant-loop-stripe l = record {
  first : accumulated 0 (plus prime_1 prime_2) l.bytes ≡ accumulated 0 l.first l.left;
  second : accumulated 1 prime_2 l.bytes ≡ accumulated 1 l.second l.left;
  third : accumulated 2 0 l.bytes ≡ accumulated 2 l.third l.left;
  fourth : accumulated 3 (2 ^ 64 - prime_1) l.bytes ≡ accumulated 3 l.fourth l.left;
  left : rest 32 l.bytes ≡ rest 32 l.left;
}

abbrev pub decreases-loop-stripe : goal.decreases-loop-stripe
decreases-loop-stripe l = length l.left
