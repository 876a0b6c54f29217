use Rattle.odht_raw.proofs.lemmas.WaitingRanges.{NoneBefore}
use Rattle.odht_raw.proofs.raw_table.insert_order.is_range_waiting.Given as goal

abbrev pub invariant-loop-at : goal.invariant-loop-at
invariant-loop-at l = NoneBefore l.slots l.fn.start l.at
