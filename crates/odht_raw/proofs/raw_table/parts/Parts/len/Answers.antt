use Rattle.std.proofs.Common.{arith}
use Rattle.odht_base.proofs.lemmas.SlotCounts.{few_slots}
use Rattle.odht_raw.proofs.raw_table.parts.Parts.len.Goals as goal

pub returns-clause-few : goal.returns-clause-few
returns-clause-few g c = omega (arith, c.slots.ensures, few_slots c.self.inside.stored.entries.slots c.self.invariant.slots)
