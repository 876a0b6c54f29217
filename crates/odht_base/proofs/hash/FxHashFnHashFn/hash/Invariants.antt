use Rattle.std.proofs.Common.{◌≡◌, length}
use Rattle.odht_base.proofs.lemmas.Pieces.{ended}
use Rattle.odht_base.proofs.hash.FxHashFnHashFn.hash.Given as goal

abbrev pub invariant-loop-piece : goal.invariant-loop-piece
invariant-loop-piece l = ended 0 l.bytes ≡ ended l.state l.rest

abbrev pub decreases-loop-piece : goal.decreases-loop-piece
decreases-loop-piece l = length l.rest
