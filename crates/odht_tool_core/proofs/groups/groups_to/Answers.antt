use Rattle.std.proofs.Common.{◌≡◌, ◌∙◌, ◌+◌, ◌-◌, ◌*◌, ◌/◌, ◌%◌, ◌<◌, inl, min, sym, ap, arith}
use Rattle.odht_base.specs.Probe.{probe_slot}
use Rattle.odht_base.proofs.lemmas.SlotCounts.{few_slots}
use Rattle.odht_tool_core.specs.GroupNumbers.{capped, groups_to, most_groups}
use Rattle.odht_tool_core.proofs.GroupBounds.{capped_within, capped_past, groups_past, most_within}
use Rattle.odht_tool_core.proofs.GroupPlaces.{groups_at, in_group, not_before_next}
use Rattle.odht_tool_core.proofs.groups.groups_to.Goals.{After-steps_to, then-group-groups, else-group-groups}
use Rattle.odht_tool_core.proofs.groups.groups_to.Goals as goal

pub steps_to-requires-clause-few : goal.steps_to-requires-clause-few
steps_to-requires-clause-few c = few_slots c.args.slot_count c.requires.slots

-- the steps lead from the first slot of the group to the slot
at_group : (c : After-steps_to) → (probe_slot (c.args.hash % c.args.slot_count) c.args.slot_count (16 * c.loop-group.group) + c.steps_to.result) % c.args.slot_count ≡ c.args.slot
at_group c =
    let s = c.args.slot_count in
    let h = c.args.hash % s in
    let v = c.loop-group.invariant in
    let pos : s - 1 + 1 ≡ s = (let l = c.requires.within in omega arith) in
    let seen : c.loop-group.group < s / 16 = omega (arith, c.loop-group-test.true, c.most_groups-most.ensures, most_within c.args.bound (s / 16)) in
    let start : c.index.result ≡ probe_slot h s (16 * c.loop-group.group) =
    c.index.ensures.slot ∙ ap (λ b. probe_slot b (c.loop-group.probe.mask + 1) c.loop-group.probe.position) v.home
    ∙ ap (λ m. probe_slot h (m + 1) c.loop-group.probe.position) v.mask ∙ ap (λ n. probe_slot h n c.loop-group.probe.position) pos
    ∙ ap (probe_slot h s) (v.position seen) in
    ap (λ x. (x + c.steps_to.result) % s) (sym start) ∙ c.steps_to.ensures.slot

pub returns-then-steps_to-lt16-clause-groups : goal.returns-then-steps_to-lt16-clause-groups
returns-then-steps_to-lt16-clause-groups c =
    let s = c.args.slot_count in
    let h = c.args.hash in
    let group = c.loop-group.group in
    let n = c.steps_to.result in
    let few : n < 16 = c.if-steps_to-lt16.true in
    let o = c.args.bound in
    let seen : group < most_groups o (s / 16) = omega (arith, c.loop-group-test.true, c.most_groups-most.ensures) in
    let low : 16 * group + n < s = omega (arith, seen, most_within o (s / 16), few) in
    let whole : (16 * group + n) / 16 + 1 ≡ group + 1 = omega (arith, few) in
    let is : groups_to h s c.args.slot ≡ group + 1 =
    groups_at h s c.args.slot (16 * group + n) c.requires.slots low (in_group (h % s) s group n c.args.slot few (at_group (goal.at.returns-then-steps_to-lt16-clause-groups c).After-steps_to)) ∙ whole in
    sym (ap (capped o) is ∙ capped_within o (s / 16) (group + 1) (omega (arith, seen)))

pub loop-group-preserved : goal.loop-group-preserved
loop-group-preserved c =
    let v = c.loop-group.invariant in
    let at = v.position (omega (arith, c.loop-group-test.true, c.most_groups-most.ensures, most_within c.args.bound (c.args.slot_count / 16))) in
    record {
      home = elim c.if-group-groups.branch [
        | then-group-groups w ↦ ap (λ q. q.home) (w.probe-is ∙ w.advance.ensures) ∙ v.home
        | else-group-groups w ↦ ap (λ q. q.home) w.probe-is ∙ v.home
      ];
      mask = elim c.if-group-groups.branch [
        | then-group-groups w ↦ ap (λ q. q.mask) (w.probe-is ∙ w.advance.ensures) ∙ v.mask
        | else-group-groups w ↦ ap (λ q. q.mask) w.probe-is ∙ v.mask
      ];
      position = λ l. elim c.if-group-groups.branch [
        | then-group-groups w ↦ ap (λ q. q.position) (w.probe-is ∙ w.advance.ensures) ∙ omega (arith, at)
        | else-group-groups w ↦ absurd (omega (arith, w.if-group-groups))
      ];
      before = not_before_next c.args.hash c.args.slot_count c.args.slot c.loop-group.group c.steps_to.result c.requires.slots c.steps_to.ensures.below c.if-steps_to-lt16.false
          (at_group (goal.at.loop-group-preserved c).After-steps_to) v.before;
    }

pub returns-clause-groups : goal.returns-clause-groups
returns-clause-groups c =
    let s = c.args.slot_count in
    let x = groups_to c.args.hash s c.args.slot in
    let past = groups_past c.args.hash s c.args.slot c.loop-group.group c.requires.slots c.requires.within c.loop-group.invariant.before in
    let more : most_groups c.args.bound (s / 16) < x = omega (arith, past.0, c.loop-group-test.false, c.most_groups-most.ensures) in
    c.min.ensures ∙ ap (λ m. min (s / 16) (m + 1)) c.most_groups-most.ensures ∙ capped_past c.args.bound (s / 16) x past.1 (inl more)
