use Rattle.std.proofs.Common.{arith, ◌+◌}
use Rattle.odht_base.proofs.lemmas.SlotCounts.{few_slots}
use Rattle.odht_raw.proofs.lemmas.ProbeSteps.{room}
use Rattle.odht_raw.proofs.raw_table.probe_seq.ProbeSeq.is_last.Goals as goal

-- there are at most 2 ^ 63 slots
pub overflow_add-result : goal.overflow_add-result
overflow_add-result g c =
    let at = c.self.invariant in
    omega (arith, few_slots (c.self.inside.mask + 1) at.slots, room _ _ _ _ _ _ _ _ at, at.within)
