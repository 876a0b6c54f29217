use Rattle.std.proofs.Common.{◌≡◌, ◌∙◌, ℕ, ◌+◌, ◌-◌, ◌%◌, sym, ap, subst, arith, List, length}
use Rattle.odht_raw.specs.Words.{bytes_at, probe_slot}
use Rattle.odht_raw.specs.Frame.{HasNoFree}
use Rattle.odht_raw.proofs.lemmas.FreeSearches.{first_in_group}
use Rattle.odht_raw.proofs.lemmas.GroupSearches.{OccupiedBefore, occupied-more, occupied-all}
use Rattle.odht_raw.proofs.lemmas.ProbeSteps.{bit_and-mask}
use Rattle.odht_raw.proofs.raw_table.group_search.first_free_by_groups.Given.{Over}
use Rattle.odht_raw.proofs.raw_table.group_search.first_free_by_groups.Goals as goal
use Rattle.odht_raw.proofs.raw_table.group_search.first_free_by_groups.Goals.{After-first_free_of_group}

-- what is known of the group that is read
module _ (g : Over) (c : After-first_free_of_group g) where
  abbrev ctrl : List ℕ
  ctrl = c.args.control.now

  abbrev s : ℕ
  s = c.args.mask + 1

  slots : length c.groups.probe.control - 16 ≡ s
  slots = omega (arith, c.requires.control, ap length c.groups.invariant.control)

  -- it begins at the slot of the probe's position
  start : c.start-start.result ≡ probe_slot (c.args.hash % s) s c.groups.probe.position
  start = c.start-start.ensures.slot ∙ (λ i. probe_slot (c.groups.invariant.home i) (slots i) c.groups.probe.position)

  -- and is of these control bytes
  read : c.read.result.now ≡ bytes_at ctrl c.start-start.result 16
  read = c.read.ensures.bytes ∙ (λ i. bytes_at (c.groups.invariant.control i) (sym c.start-start.ensures.slot i) 16)

  -- without a free byte in it, the slots up to its end count as occupied
  passed_group : HasNoFree c.read.result.now 16 → OccupiedBefore ctrl (c.args.hash % s) s (c.groups.probe.position + 16)
  passed_group none = occupied-more ctrl c.read.result.now (c.args.hash % s) s c.start-start.result c.groups.probe.position c.requires.control c.requires.slots.least c.start-start.ensures.aligned start read none c.groups.invariant.occupied

pub returns-in-Some : goal.returns-in-Some
returns-in-Some g c =
    let at = (goal.at.returns-in-Some g c).After-first_free_of_group in
    rw (bit_and-mask (c.start-start.result + c.in-Some.index) c.args.mask c.requires.slots)
    (first_in_group (ctrl g at) c.read.result.now c.args.hash (s g at) c.start-start.result c.groups.probe.position c.in-Some.index c.requires.control c.requires.slots.least c.start-start.ensures.aligned
    (omega (arith, slots g at, c.start-start.ensures.within)) (start g at) (read g at) c.groups.invariant.occupied c.in-Some.ensures)

pub returns-then-is_last : goal.returns-then-is_last
returns-then-is_last g c =
    let at = (goal.at.returns-then-is_last g c).After-first_free_of_group in
    let all : c.groups.probe.position + 16 ≡ s g at =
    omega (arith, c.is_last.ensures.0 c.if-is_last.true, ap (λ q. q.position) c.read.ensures.counted, ap (λ q. length q.control) c.read.ensures.counted, slots g at) in
    occupied-all (ctrl g at) _ (s g at) c.requires.slots (subst (OccupiedBefore _ _ _) all (passed_group g at c.in_default.ensures))

pub groups-preserved : goal.groups-preserved
groups-preserved g c =
    let at = (goal.at.groups-preserved g c).After-first_free_of_group in
    let place : c.advance.new.self.position ≡ c.groups.probe.position + 16 = ap (λ q. q.position) c.advance.ensures ∙ ap (λ q. q.position + 16) c.read.ensures.counted in
    record {
      control = ap (λ q. q.control) c.advance.ensures ∙ ap (λ q. q.control) c.read.ensures.counted ∙ c.groups.invariant.control;
      home = ap (λ q. q.home) c.advance.ensures ∙ ap (λ q. q.home) c.read.ensures.counted ∙ c.groups.invariant.home;
      occupied = subst (OccupiedBefore _ _ _) (sym place) (passed_group g at c.in_default.ensures);
    }
