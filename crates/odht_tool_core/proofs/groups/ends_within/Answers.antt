use Rattle.std.proofs.Common.{◌≡◌, ◌∙◌, ◌+◌, ◌-◌, ◌/◌, ◌<◌, is_some, length, inl, inr, min, sym, ap, arith}
use Rattle.std.proofs.Math.Nat.{mod-eq_of_lt, min-le_right}
use Rattle.std.proofs.lemmas.Bool.{cases_lt}
use Rattle.odht_base.specs.Bytes.{bytes_at}
use Rattle.odht_base.specs.Groups.{first_free}
use Rattle.odht_base.specs.Probe.{probe_slot}
use Rattle.odht_raw.proofs.lemmas.Bounds.{ends_at, goes_on}
use Rattle.odht_tool_core.proofs.GroupBounds.{is_free}
use Rattle.odht_tool_core.proofs.groups.ends_within.Goals.{After-read, then-group-groups, else-group-groups}
use Rattle.odht_tool_core.proofs.groups.ends_within.Goals as goal

-- as many groups as sixteens of slots
all : (c : After-read) → (length c.args.control.now - 16) / 16 ≡ c.args.slots / 16
all c = let l = c.requires.mirrored in omega (arith, l)

-- a group is one of the first, and of those that there are, where it is seen
seen : (c : After-read) → c.loop-group.group < min c.args.most (c.args.slots / 16)
seen c = omega (arith, c.loop-group-test.true, c.min-group-end.ensures)

there : (c : After-read) → c.loop-group.group < c.args.slots / 16
there c = omega (arith, seen c, min-le_right c.args.most (c.args.slots / 16))

-- the bytes that are read are those of the group
read : (c : After-read) → is_some (first_free c.read.result.now) ≡ is_free c.args.control.now c.args.home c.loop-group.group
read c =
    let v = c.loop-group.invariant in
    ap (λ b. is_some (first_free b)) (c.read.ensures.bytes ∙ (λ i. bytes_at (v.control i) (probe_slot (v.home i) (length (v.control i) - 16) (v.position (there c) i)) 16))

pub loop-group-init : goal.loop-group-init
loop-group-init c = record {
  control = ap (λ q. q.control) c.new-probe.ensures;
  home = ap (λ q. q.home) c.new-probe.ensures ∙ mod-eq_of_lt {n = c.args.home} {m = c.args.slots} c.requires.home;
  position = λ l. ap (λ q. q.position) c.new-probe.ensures;
  before = λ j l. absurd (omega (arith, l));
}

pub returns-then-any_empty : goal.returns-then-any_empty
returns-then-any_empty c =
    let at = (goal.at.returns-then-any_empty c).After-read in
    let j = c.loop-group.group in
    let early : j < min c.args.most ((length c.args.control.now - 16) / 16) = omega (arith, seen at, ap (min c.args.most) (all at)) in
    sym (ends_at c.args.control.now c.args.most c.args.home j early
    (sym (read at) ∙ sym (ap is_some c.of.ensures.free) ∙ sym c.any_empty.ensures ∙ c.if-any_empty.true))

pub advance-requires : goal.advance-requires
advance-requires c =
    let v = c.loop-group.invariant in
    let more = c.if-group-groups.true in
    let at = v.position (omega (arith, more)) in
    let read = c.read.ensures.counted in
    let mirrored = c.requires.mirrored in
    omega (arith, at, more, ap (λ q. q.position) read, ap (λ q. length q.control) read, ap length v.control, mirrored)

pub loop-group-preserved : goal.loop-group-preserved
loop-group-preserved c =
    let v = c.loop-group.invariant in
    let at = (goal.at.loop-group-preserved c).After-read in
    let read_is = c.read.ensures.counted in
    record {
      control = elim c.if-group-groups.branch [
        | then-group-groups w ↦ ap (λ q. q.control) (w.probe-is ∙ w.advance.ensures) ∙ ap (λ q. q.control) read_is ∙ v.control
        | else-group-groups w ↦ ap (λ q. q.control) (w.probe-is ∙ read_is) ∙ v.control
      ];
      home = elim c.if-group-groups.branch [
        | then-group-groups w ↦ ap (λ q. q.home) (w.probe-is ∙ w.advance.ensures) ∙ ap (λ q. q.home) read_is ∙ v.home
        | else-group-groups w ↦ ap (λ q. q.home) (w.probe-is ∙ read_is) ∙ v.home
      ];
      position = λ l. elim c.if-group-groups.branch [
        | then-group-groups w ↦ ap (λ q. q.position) (w.probe-is ∙ w.advance.ensures) ∙ ap (λ q. q.position + 16) read_is ∙ omega (arith, v.position (there at))
        | else-group-groups w ↦ absurd (omega (arith, w.if-group-groups))
      ];
      before = λ j l. elim (cases_lt j c.loop-group.group) [
        | inl low ↦ v.before j low
        | inr high ↦ (
            let same : c.loop-group.group ≡ j = omega (arith, l, high) in
            ap (is_free c.args.control.now c.args.home) (sym same) ∙ sym (read at) ∙ sym (ap is_some c.of.ensures.free) ∙ sym c.any_empty.ensures ∙ c.if-any_empty.false)
      ];
    }

pub returns : goal.returns
returns c =
    let l = c.requires.mirrored in
    let whole : (length c.args.control.now - 16) / 16 ≡ c.args.slots / 16 = omega (arith, l) in
    sym (goes_on c.args.control.now c.args.most c.args.home
    (λ j low. c.loop-group.invariant.before j (omega (arith, low, ap (min c.args.most) whole, c.loop-group-test.false, c.min-group-end.ensures))))
