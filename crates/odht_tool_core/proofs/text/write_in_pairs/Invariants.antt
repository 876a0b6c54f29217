use Rattle.std.proofs.Common.{◌≡◌, ℕ, List, ◌++◌, ◌%◌, None, length}
use Rattle.std.specs.Io.KnownBytes.{Appends}
use Rattle.odht_tool_core.proofs.text.write_in_pairs.Given as goal

-- the digits in front of the rest are written, and nothing failed
abbrev pub invariant-loop-pair : goal.invariant-loop-pair
invariant-loop-pair g l = (written : List ℕ) × Appends (g.W.Write.contents l.initial.output) (g.W.Write.contents l.output) written
    × (written ++ l.rest ≡ l.digits) × (length l.rest % 2 ≡ 0) × (l.fault ≡ None)

abbrev pub decreases-loop-pair : goal.decreases-loop-pair
decreases-loop-pair g l = length l.rest
