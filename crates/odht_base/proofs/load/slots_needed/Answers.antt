use Rattle.std.proofs.Common.{◌<◌, ◌≤◌, ◌^◌, ◌/◌, sym, ap, ◌∙◌, subst}
use Rattle.std.specs.Prelude.{max}
use Rattle.odht_base.proofs.lemmas.Least.{slots_for-least}
use Rattle.odht_base.proofs.lemmas.NextPower.{next-IsLeastSlots, next_none}
use Rattle.odht_base.proofs.load.slots_needed.Goals as goal

pub returns-then-occupied-clause-value : goal.returns-then-occupied-clause-value
returns-then-occupied-clause-value c = sym (next_none _ _ c.requires (subst (λ m. 2 ^ 63 < m) c.div_ceil-occupied.ensures c.if-occupied.true))

pub returns-clause-least : goal.returns-clause-least
returns-clause-least c =
    let at = c.max.ensures ∙ ap (λ m. max m 16) c.div_ceil-occupied.ensures in
    next-IsLeastSlots _ _ c.requires c.next_power_of_two.ensures.power.0 _ c.next_power_of_two.ensures.power.1
    (subst (λ m. m ≤ c.next_power_of_two.result) at c.next_power_of_two.ensures.lower_bound)
    (subst (λ m. c.next_power_of_two.result / 2 < max 1 m) at c.next_power_of_two.ensures.upper_bound)
    (subst (λ m. m ≤ 2 ^ 63) c.div_ceil-occupied.ensures c.if-occupied.false)

pub returns-clause-value : goal.returns-clause-value
returns-clause-value c = sym (slots_for-least _ _ _ (returns-clause-least c))
