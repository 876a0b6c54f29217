use Rattle.std.proofs.Common.{rules, ◌∙◌, ◌+◌, ◌<◌, length, sym, ap, refl, true≢false, slice_index, arith}
use Rattle.odht_raw.proofs.lemmas.GroupLooks.{taken-first, taken-next, taken-all}
use Rattle.odht_raw.proofs.raw_table.check.are_free.Given.{Over}
use Rattle.odht_raw.proofs.raw_table.check.are_free.Goals.{In-Some, then-control-slot-via-then-control-slot, then-control-slot-via-else-control-slot+then-not-has_zeros}
use Rattle.odht_raw.proofs.raw_table.check.are_free.Goals as goal

-- the slot that is looked at is one of the table
module _ (g : Over) (c : In-Some g) where
  within : c.args.start + c.in-Some.index < c.args.table.now.parts.entries.slots
  within = c.requires.within c.in-Some.index (taken-first _ _ _ c.in-Some.index c.slots.invariant c.in-Some.ensures.next)

  inside : c.args.start + c.in-Some.index < length c.controls-control.result.now
  inside = omega (arith, within, c.controls-control.ensures.len)

pub overflow_add-slot : goal.overflow_add-slot
overflow_add-slot g c =
    let low = inside g (goal.at.overflow_add-slot g c).In-Some in
    let few = c.type_inv.control in
    search rules

pub bounds-control-slot : goal.bounds-control-slot
bounds-control-slot g c = inside g (goal.at.bounds-control-slot g c).In-Some

pub has_zeros-requires : goal.has_zeros-requires
has_zeros-requires g c = within g (goal.at.has_zeros-requires g c).In-Some

pub slots-preserved : goal.slots-preserved
slots-preserved g c =
    taken-next _ _ _ _ c.in-Some.index c.slots.invariant c.in-Some.ensures.next c.in-Some.ensures.rest
    (ap (λ b. slice_index b (c.args.start + c.in-Some.index)) (sym c.controls-control.ensures.value) ∙ c.if-control-slot.false, c.has_zeros.ensures.zeros.0 c.if-not-has_zeros.false)

pub returns-then-control-slot : goal.returns-then-control-slot
returns-then-control-slot g c = (
  λ t. absurd (true≢false (sym t)),
  λ all.
      let free = all c.in-Some.index (taken-first _ _ _ c.in-Some.index c.slots.invariant c.in-Some.ensures.next) in
      elim c.then-control-slot.branch [
        | then-control-slot-via-then-control-slot w ↦ absurd (w.if-control-slot.true (ap (λ b. slice_index b (c.args.start + c.in-Some.index)) c.controls-control.ensures.value ∙ free.0))
        | then-control-slot-via-else-control-slot+then-not-has_zeros w ↦ absurd (true≢false (sym (w.has_zeros.ensures.zeros.1 free.1) ∙ w.if-not-has_zeros.true))
      ],
)

pub returns : goal.returns
returns g c = (λ t. taken-all _ _ _ c.slots.invariant c.in_default.ensures.next, λ all. refl)
