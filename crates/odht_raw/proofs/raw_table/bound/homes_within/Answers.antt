use Rattle.std.proofs.Common.{◌≡◌, ◌∙◌, ◌+◌, ◌-◌, ◌*◌, ◌/◌, ◌<◌, ◌≤◌, ℕ, List, false, is_some, length, None, inl, inr, sym, ap, arith}
use Rattle.odht_raw.proofs.lemmas.Below.{cases_lt, le-min, min-le_left, min-le_right, mod-eq_of_lt}
use Rattle.odht_raw.specs.Words.{bytes_at, first_free, late_free, probe_slot}
use Rattle.odht_raw.proofs.lemmas.Bounds.{has_free, ends_at, goes_on, late-further, late-none, probe_slot-further}
use Rattle.odht_raw.proofs.raw_table.bound.homes_within.Goals.{After-late_free}
use Rattle.odht_raw.proofs.raw_table.bound.homes_within.Goals as goal

-- the bytes that are read are those of the group at the probe's position
module _ (c : After-late_free) where
  abbrev ctrl : List ℕ
  ctrl = c.args.control.now

  abbrev j : ℕ
  j = c.groups.probe.position / 16

  -- the group begins at the probe's position
  at_probe : c.start-start.result ≡ probe_slot c.groups.probe.home (length ctrl - 16) c.groups.probe.position
  at_probe = c.start-start.ensures.slot ∙ ap (λ b. probe_slot c.groups.probe.home (length b - 16) c.groups.probe.position) c.groups.invariant.control

  -- which is that of the home's group of this number
  at_group : c.start-start.result ≡ probe_slot c.args.home (length ctrl - 16) (16 * j)
  at_group =
      let v = c.groups.invariant in
      let place : c.groups.probe.position ≡ 16 * j = omega (arith, c.start-start.ensures.aligned) in
      at_probe ∙ (λ i. probe_slot (v.home i) (length ctrl - 16) (place i))

  -- what is looked for in it
  late : c.late_free.result ≡ late_free (bytes_at ctrl c.start-start.result 16)
  late =
      let there = ap (λ b. bytes_at b (probe_slot c.groups.probe.home (length b - 16) c.groups.probe.position) 16) c.groups.invariant.control in
      c.late_free.ensures ∙ ap late_free (c.read.ensures.bytes ∙ there ∙ ap (λ x. bytes_at ctrl x 16) (sym at_probe))

  -- the groups up to this one have no free byte, where this one has none
  occupied_to : late_free (bytes_at ctrl c.start-start.result 16) ≡ None
      → (i : ℕ) → 16 * i < c.groups.probe.position + 16 → has_free ctrl c.args.groups c.args.home i ≡ false
  occupied_to none i l = elim (cases_lt (16 * i) c.groups.probe.position) [
    | inl before ↦ c.groups.invariant.occupied i before
    | inr here ↦ (
        let same : j ≡ i = omega (arith, here, l, c.start-start.ensures.aligned) in
        ap (has_free ctrl c.args.groups c.args.home) (sym same)
        ∙ ap (λ x. is_some (first_free (bytes_at ctrl x 16))) (sym at_group)
        ∙ ap is_some (late-none (bytes_at ctrl c.start-start.result 16) none))
  ]

pub groups-init : goal.groups-init
groups-init c =
    let slots = c.slot_count_of-slots.ensures in
    let place : c.new-probe.result.position ≡ 0 = ap (λ q. q.position) c.new-probe.ensures in
    record {
      control = ap (λ q. q.control) c.new-probe.ensures;
      home = ap (λ q. q.home) c.new-probe.ensures ∙ mod-eq_of_lt {n = c.args.home} {m = c.slot_count_of-slots.result} (omega (arith, c.requires.home, slots));
      left = omega (arith, place);
      occupied = λ j l. absurd (omega (arith, l, place));
    }

-- the homes up to the free byte have it in this group too
pub returns-in-Some-clause-within : goal.returns-in-Some-clause-within
returns-in-Some-clause-within c =
    let at = (goal.at.returns-in-Some-clause-within c).After-late_free in
    let ctrl = c.args.control.now in
    let home = c.args.home in
    let start = c.start-start.result in
    let v = c.groups.invariant in
    let slots = c.slot_count_of-slots.ensures in
    let control : length c.groups.probe.control ≡ length ctrl = ap length v.control in
    let j : ℕ = c.groups.probe.position / 16 in
    let early : j < c.args.groups = omega (arith, v.left, c.start-start.ensures.aligned, c.groups-test.true) in
    let within : j < (length ctrl - 16) / 16 = omega (arith, c.start-start.ensures.within, c.start-start.ensures.aligned, control) in
    let below : start < c.slot_count_of-slots.result = omega (arith, c.start-start.ensures.below, control, slots) in
    let near : c.min.result ≤ c.in-Some.index = omega (arith, c.min.ensures, min-le_left c.in-Some.index (c.slot_count_of-slots.result - 1 - start)) in
    let inside : c.min.result ≤ c.slot_count_of-slots.result - 1 - start = omega (arith, c.min.ensures, min-le_right c.in-Some.index (c.slot_count_of-slots.result - 1 - start)) in
    record {
      some = omega arith;
      few = omega (arith, inside, below, slots);
      each = λ i l low.
          let further : probe_slot home (length ctrl - 16) (16 * j) + i < length ctrl - 16 = omega (arith, at_group at, l, inside, below, slots) in
          ends_at ctrl c.args.groups (home + i) j (le-min early within)
          (ap (λ x. is_some (first_free (bytes_at ctrl x 16))) (probe_slot-further home (length ctrl - 16) (16 * j) i further ∙ ap (λ x. x + i) (sym (at_group at)))
          ∙ late-further ctrl start i c.in-Some.index (sym (late at) ∙ c.in-Some.is) (omega (arith, l, near)) (omega (arith, l, inside, below, slots)));
    }

pub returns-then-is_last-clause-longer : goal.returns-then-is_last-clause-longer
returns-then-is_last-clause-longer c is =
    let at = (goal.at.returns-then-is_last-clause-longer c).After-late_free in
    let control = ap length c.groups.invariant.control in
    let last = c.is_last.ensures.0 c.if-is_last.true in
    let after = ap (λ q. q.position) c.read.ensures.counted in
    let same = ap (λ q. length q.control) c.read.ensures.counted in
    goes_on c.args.control.now c.args.groups c.args.home (λ j l.
    let few : j < (length c.args.control.now - 16) / 16 = omega (arith, l, min-le_right c.args.groups ((length c.args.control.now - 16) / 16)) in
    occupied_to at (sym (late at) ∙ c.in_default.is) j (omega (arith, few, last, after, same, control)))

pub groups-preserved : goal.groups-preserved
groups-preserved c =
    let at = (goal.at.groups-preserved c).After-late_free in
    let v = c.groups.invariant in
    let read = c.read.ensures.counted in
    let place : c.advance.new.self.position ≡ c.groups.probe.position + 16 = ap (λ q. q.position) c.advance.ensures ∙ ap (λ q. q.position + 16) read in
    record {
      control = ap (λ q. q.control) c.advance.ensures ∙ ap (λ q. q.control) read ∙ v.control;
      home = ap (λ q. q.home) c.advance.ensures ∙ ap (λ q. q.home) read ∙ v.home;
      left = omega (arith, place, v.left, c.groups-test.true);
      occupied = λ j l. occupied_to at (sym (late at) ∙ c.in_default.is) j (omega (arith, l, place));
    }

pub returns-clause-longer : goal.returns-clause-longer
returns-clause-longer c is =
    let v = c.groups.invariant in
    let done : c.groups.left ≡ 0 = omega (arith, c.groups-test.false) in
    goes_on c.args.control.now c.args.groups c.args.home (λ j l.
    let few : j < c.args.groups = omega (arith, l, min-le_left c.args.groups ((length c.args.control.now - 16) / 16)) in
    v.occupied j (omega (arith, few, v.left, done)))
