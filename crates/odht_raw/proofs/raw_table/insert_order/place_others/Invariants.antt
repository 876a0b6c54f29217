use Rattle.std.proofs.Common.{◌-◌, length, drop}
use Rattle.odht_raw.specs.DynParts.{parts_format}
use Rattle.odht_raw.specs.Frontiers.{AreFrontiers}
use Rattle.odht_raw.specs.Waiting.{IsBegun}
use Rattle.odht_raw.proofs.raw_table.insert_order.place_others.Given as goal

-- the first slots are placed, and the others wait; the frontiers are those of the others
abbrev pub invariant-loop-placed : goal.invariant-loop-placed
invariant-loop-placed g l =
    let F = parts_format l.table g.H.HashFn.hash in
    record {
      begun : IsBegun F l.table.parts l.out l.placed;
      frontiers : AreFrontiers (drop l.placed l.out) l.table.parts.entries.slots l.frontiers;
    }

abbrev pub decreases-loop-placed : goal.decreases-loop-placed
decreases-loop-placed g l = length l.out - l.placed
