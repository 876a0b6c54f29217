use Rattle.odht_base.proofs.lemmas.Orders.{probe_slot-group, order-IsPermutation}
use Rattle.odht_base.proofs.laws.orders_list_each_slot_once.Goals as goal

pub returns-clause-slot : goal.returns-clause-slot
returns-clause-slot c = probe_slot-group

pub returns-clause-each_once : goal.returns-clause-each_once
returns-clause-each_once c = order-IsPermutation
