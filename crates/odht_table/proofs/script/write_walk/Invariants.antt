use Rattle.std.proofs.Common.{◌≡◌, ◌++◌}
use Rattle.std.specs.List.{flat_map}
use Rattle.std.specs.Io.KnownBytes.{Appends}
use Rattle.odht_table.specs.Answers.{pair_line}
use Rattle.odht_table.proofs.script.write_walk.Given as goal

-- the lines of the pairs so far are written, and these and what is left are the walk
abbrev pub invariant-loop-key : goal.invariant-loop-key
invariant-loop-key g l =
    Appends (g.W.Write.contents l.initial.output) (g.W.Write.contents l.output) (flat_map pair_line l.yielded)
    × (l.fn.walk ≡ l.yielded ++ l.key-iterator)
