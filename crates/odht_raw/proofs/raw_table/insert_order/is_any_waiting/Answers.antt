use Rattle.std.proofs.Common.{◌∙◌, ◌≤◌, ◌+◌, true≢false, sym, refl, arith}
use Rattle.odht_base.proofs.lemmas.SlotCounts.{few_slots}
use Rattle.odht_raw.proofs.lemmas.WaitingRanges.{behind_inside, behind_left, behind_last, behind_first, behind_around}
use Rattle.odht_raw.proofs.raw_table.insert_order.is_any_waiting.Goals as goal

pub overflow_add-end : goal.overflow_add-end
overflow_add-end c = omega (arith, few_slots (c.args.mask + 1) c.requires.slots, c.requires.base, c.requires.few)

pub overflow_add-slot_count : goal.overflow_add-slot_count
overflow_add-slot_count c = omega (arith, few_slots (c.args.mask + 1) c.requires.slots)

pub returns-then-end-slot : goal.returns-then-end-slot
returns-then-end-slot c = (
  λ t. absurd (true≢false (sym t)),
  λ w. absurd (behind_left c.args.slots.now (c.args.mask + 1) c.args.base c.args.count c.args.slot c.args.left c.requires.left c.requires.slot c.if-left-base.true c.if-end-slot.true w),
)

pub is_range_waiting-requires-clause-end : goal.is_range_waiting-requires-clause-end
is_range_waiting-requires-clause-end c = omega (arith, few_slots (c.args.mask + 1) c.requires.slots)

pub returns-then-end-slot_count : goal.returns-then-end-slot_count
returns-then-end-slot_count c =
    let same = behind_inside c.args.slots.now (c.args.mask + 1) c.args.base c.args.count c.if-end-slot_count.true in
    (λ t. same.1 (c.is_range_waiting.ensures.0 t), λ w. c.is_range_waiting.ensures.1 (same.0 w))

pub is_range_waiting-requires-2-clause-end : goal.is_range_waiting-requires-2-clause-end
is_range_waiting-requires-2-clause-end c = omega (arith, few_slots (c.args.mask + 1) c.requires.slots)

pub returns-then-is_range_waiting : goal.returns-then-is_range_waiting
returns-then-is_range_waiting c = (
  λ t. behind_last c.args.slots.now (c.args.mask + 1) c.args.base c.args.count c.if-end-slot_count.false c.requires.base (omega (arith, c.requires.few, c.requires.slots.least))
      (c.is_range_waiting-2.ensures.0 c.if-is_range_waiting.true),
  λ w. refl,
)

pub returns : goal.returns
returns c =
    let few : c.args.count ≤ c.args.mask + 1 = omega (arith, c.requires.few, c.requires.slots.least) in (
      λ t. behind_first c.args.slots.now (c.args.mask + 1) c.args.base c.args.count c.if-end-slot_count.false c.requires.base few (c.is_range_waiting-3.ensures.0 t),
      λ w. c.is_range_waiting-3.ensures.1 (behind_around c.args.slots.now (c.args.mask + 1) c.args.base c.args.count c.if-end-slot_count.false c.requires.base few w
          (λ last. true≢false (sym (c.is_range_waiting-2.ensures.1 last) ∙ c.if-is_range_waiting.false))),
    )
