use Rattle.std.proofs.Common.{◌≡◌, ◌+◌, ◌-◌, ◌<◌, true, inl, inr, length, refl, sym, subst, arith}
use Rattle.std.proofs.lemmas.Bool.{cases_lt}
use Rattle.odht_base.specs.Bounds.{ends_within}
use Rattle.odht_raw.proofs.lemmas.Bounds.{first_longer-at, first_longer-none}
use Rattle.odht_raw.proofs.raw_table.bound.first_longer.Goals as goal

pub homes-init : goal.homes-init
homes-init c b l low = absurd (omega (arith, l))

pub returns-in-None : goal.returns-in-None
returns-in-None c =
    let slots = c.slot_count_of-slots.ensures in
    let low : c.homes.home < length c.args.control.now - 16 = omega (arith, c.homes-test.true, slots) in
    sym (first_longer-at c.args.control.now c.args.groups c.homes.home low (λ a l. c.homes.invariant a l (omega (arith, l, low))) (c.in-None.ensures.longer refl))

pub homes-preserved : goal.homes-preserved
homes-preserved c b l low = elim (cases_lt b c.homes.home) [
  | inl before ↦ c.homes.invariant b before low
  | inr here ↦ (
      let place : c.homes.home + (b - c.homes.home) ≡ b = omega (arith, here) in
      subst (λ h. ends_within c.args.control.now c.args.groups h ≡ true) place
      (c.in-Some.ensures.within.each (b - c.homes.home) (omega (arith, l, here)) (omega (arith, place, low))))
]

pub returns : goal.returns
returns c =
    let slots = c.slot_count_of-slots.ensures in
    sym (first_longer-none c.args.control.now c.args.groups (λ b l. c.homes.invariant b (omega (arith, l, c.homes-test.false, slots)) l))
