use Rattle.std.proofs.Common.{◌≡◌, ◌∙◌, ◌≤◌, ◌<◌, ◌+◌, ◌-◌, ◌%◌, bit_and, true≢false, sym, subst, refl, arith}
use Rattle.odht_base.proofs.lemmas.SlotCounts.{few_slots}
use Rattle.odht_raw.specs.Waiting.{WaitsBehind, IsUnblocked}
use Rattle.odht_raw.proofs.lemmas.Frontiers.{blocked, unblocked, frontier_next, base_low}
use Rattle.odht_raw.proofs.lemmas.ProbeSteps.{bit_and-mask}
use Rattle.odht_raw.proofs.raw_table.insert_order.is_unblocked.Goals.{After-min-count}
use Rattle.odht_raw.proofs.raw_table.insert_order.is_unblocked.Goals as goal

pub overflow_add-before : goal.overflow_add-before
overflow_add-before c = omega (arith, few_slots (c.args.mask + 1) c.requires.slots)

pub overflow_add-before-in-groups : goal.overflow_add-before-in-groups
overflow_add-before-in-groups c = omega (arith, few_slots (c.args.mask + 1) c.requires.slots, c.requires.slot)

-- how far the slot is behind the first slot of the group
behind_is : (c : After-min-count) → bit_and (c.args.slot + (c.args.mask + 1) - c.groups.frontier.base) c.args.mask ≡ (c.args.slot + (c.args.mask + 1) - c.groups.frontier.base) % (c.args.mask + 1)
behind_is c = bit_and-mask (c.args.slot + (c.args.mask + 1) - c.groups.frontier.base) c.args.mask c.requires.slots

pub returns-then-is_any_waiting-clause-unblocked : goal.returns-then-is_any_waiting-clause-unblocked
returns-then-is_any_waiting-clause-unblocked c =
    let at = (goal.at.returns-then-is_any_waiting-clause-unblocked c).After-min-count in
    let v = c.groups.invariant in
    let n = c.min-count.result in
    let few : n ≤ 16 = omega (arith, c.min-count.ensures) in
    let near : n ≤ (c.args.slot + (c.args.mask + 1) - c.groups.frontier.base) % (c.args.mask + 1) = omega (arith, c.min-count.ensures, behind_is at) in (
      λ t. absurd (true≢false (sym t)),
      λ u. absurd (blocked v.frontier c.requires.slots c.args.slot c.requires.slot c.requires.next.waits n few near (c.is_any_waiting.ensures.0 c.if-is_any_waiting.true)
          (subst (λ h. IsUnblocked c.args.slots.now h (c.args.mask + 1) c.args.slot) (sym v.home) u)),
    )

pub returns-then-before-lt-REFERENCE_GROUP_SIZE-clause-unblocked : goal.returns-then-before-lt-REFERENCE_GROUP_SIZE-clause-unblocked
returns-then-before-lt-REFERENCE_GROUP_SIZE-clause-unblocked c =
    let at = (goal.at.returns-then-before-lt-REFERENCE_GROUP_SIZE-clause-unblocked c).After-min-count in
    let v = c.groups.invariant in
    let ns = c.args.slots.now in
    let s = c.args.mask + 1 in
    let b = c.groups.frontier.base in
    let near : (c.args.slot + s - b) % s < 16 = omega (arith, c.if-before-lt-REFERENCE_GROUP_SIZE.true, behind_is at) in
    let is : c.min-count.result ≡ (c.args.slot + s - b) % s = omega (arith, c.min-count.ensures, near, behind_is at) in (
      λ t. subst (λ h. IsUnblocked ns h s c.args.slot) v.home
          (unblocked v.frontier c.requires.slots c.args.slot c.requires.slot c.requires.next.waits near
          (λ w. true≢false (sym (c.is_any_waiting.ensures.1 (subst (WaitsBehind ns s b) (sym is) w)) ∙ c.if-is_any_waiting.false))),
      λ u. refl,
    )

pub overflow_add-frontier : goal.overflow_add-frontier
overflow_add-frontier c = omega (arith, few_slots (c.args.mask + 1) c.requires.slots, c.groups.invariant.frontier.within)

pub overflow_add-frontier-in-groups : goal.overflow_add-frontier-in-groups
overflow_add-frontier-in-groups c =
    omega (arith, few_slots (c.args.mask + 1) c.requires.slots, c.groups.invariant.frontier.within, base_low c.groups.invariant.frontier c.requires.slots)

pub groups-preserved : goal.groups-preserved
groups-preserved c =
    let at = (goal.at.groups-preserved c).After-min-count in
    let v = c.groups.invariant in
    let ns = c.args.slots.now in
    let s = c.args.mask + 1 in
    let b = c.groups.frontier.base in
    let p = c.groups.frontier.position in
    let far : (c.args.slot + s - b) % s < 16 → ⊥ = λ near. omega (arith, near, c.if-before-lt-REFERENCE_GROUP_SIZE.false, behind_is at) in
    let is : c.min-count.result ≡ 16 = omega (arith, c.min-count.ensures, c.if-before-lt-REFERENCE_GROUP_SIZE.false) in
    record {
      frontier = frontier_next v.frontier c.requires.slots c.args.slot c.requires.slot c.requires.next.waits far
          (λ w. true≢false (sym (c.is_any_waiting.ensures.1 (subst (WaitsBehind ns s b) (sym is) w)) ∙ c.if-is_any_waiting.false))
          (bit_and (b + (p + 16)) c.args.mask) (bit_and-mask (b + (p + 16)) c.args.mask c.requires.slots);
      home = v.home;
    }
