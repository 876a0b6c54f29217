use Rattle.std.proofs.Common.{◌≡◌, ◌≤◌, ◌-◌, ◌%◌}
use Rattle.odht_raw.proofs.lemmas.ListedSlots.{IsListedBelow}
use Rattle.odht_raw.proofs.raw_table.orders.list_occupied.Given as goal

abbrev pub invariant-spans : goal.invariant-spans
invariant-spans l = record {
  within : l.start ≤ l.slot_count;
  groups : l.start % 16 ≡ 0;
  listed : IsListedBelow l.control l.start l.out l.listed;
}

abbrev pub decreases-spans : goal.decreases-spans
decreases-spans l = l.slot_count - l.start
