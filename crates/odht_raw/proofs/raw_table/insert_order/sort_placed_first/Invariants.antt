use Rattle.odht_raw.proofs.lemmas.PartedSlots.{IsParted}
use Rattle.odht_raw.proofs.raw_table.insert_order.sort_placed_first.Given as goal

abbrev pub invariant-loop-at : goal.invariant-loop-at
invariant-loop-at l = IsParted l.fn.slots l.slots l.at l.front
