use Rattle.odht_base.proofs.lemmas.SlotWalks.{walk_from-start, pairs-slots_from, slots_from-goes_on, slots_from-end}
use Rattle.odht_base.proofs.laws.walks_go_on_from_any_slot.Goals as goal

pub returns-clause-start : goal.returns-clause-start
returns-clause-start c = walk_from-start

pub returns-clause-pairs : goal.returns-clause-pairs
returns-clause-pairs c = pairs-slots_from

pub returns-clause-goes_on : goal.returns-clause-goes_on
returns-clause-goes_on c P i n s p left e = slots_from-goes_on P i n s p left e

pub returns-clause-past_end : goal.returns-clause-past_end
returns-clause-past_end c = slots_from-end
