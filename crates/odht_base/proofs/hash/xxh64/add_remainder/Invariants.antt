use Rattle.std.proofs.Common.{◌≡◌, length}
use Rattle.odht_base.specs.Xxh64.{rest, add_eight}
use Rattle.odht_base.proofs.lemmas.Stripes.{consumed}
use Rattle.odht_base.proofs.hash.xxh64.add_remainder.Given as goal

abbrev pub invariant-loop-piece : goal.invariant-loop-piece
invariant-loop-piece l = record { state : consumed add_eight 8 l.fn.state l.bytes ≡ consumed add_eight 8 l.state l.left; left : rest 8 l.bytes ≡ rest 8 l.left }

abbrev pub decreases-loop-piece : goal.decreases-loop-piece
decreases-loop-piece l = length l.left
