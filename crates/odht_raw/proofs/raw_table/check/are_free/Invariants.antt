use Rattle.std.proofs.Common.{◌+◌, length}
use Rattle.odht_raw.specs.DynParts.{parts_format}
use Rattle.odht_raw.specs.Summaries.{IsFreeSlot}
use Rattle.odht_raw.proofs.lemmas.GroupLooks.{IsTaken}
use Rattle.odht_raw.proofs.raw_table.check.are_free.Given as goal

-- each slot that was taken is free
abbrev pub invariant-slots : goal.invariant-slots
invariant-slots g l =
    let F = parts_format l.table g.H.HashFn.hash in
    IsTaken l.initial.free l.free (λ i. IsFreeSlot F l.table.parts (l.start + i))

abbrev pub decreases-slots : goal.decreases-slots
decreases-slots g l = length l.free
