use Rattle.std.proofs.Common.{rules, arith, ◌≡◌, ◌∙◌, ◌+◌, ◌*◌, ◌/◌, ◌%◌, ◌≤◌, ap, subst}
use Rattle.odht_raw.specs.Words.{Format, format_of, home, IsFormat, probe_slot}
use Rattle.odht_base.proofs.lemmas.SlotCounts.{sixteens}
use Rattle.odht_raw.proofs.lemmas.ProbedSlots.{group_begins}
use Rattle.odht_raw.specs.SearchSteps.{IsGroupLook}
use Rattle.odht_raw.specs.Reads.{read_entries, read_controls}
use Rattle.odht_raw.specs.Searches.{IsPassed}
use Rattle.odht_raw.proofs.lemmas.Reads.{read_more, read_end, read_all}
use Rattle.odht_raw.proofs.raw_table.read_search.search_read.Given.{Over}
use Rattle.odht_raw.proofs.raw_table.read_search.search_read.Goals as goal
use Rattle.odht_raw.proofs.raw_table.read_search.search_read.Goals.{After-look_at_read}

-- the group that is read
module _ (g : Over) (c : After-look_at_read g) where
  abbrev F : Format
  F = format_of c.args.place.now.layout.key_len c.args.place.now.layout.value_len g.H.HashFn.hash

  -- it is one of the table's
  within : 16 * c.loop-group.group + 16 ≤ c.args.place.now.slots
  within = omega (arith, c.loop-group-test.true)

  -- and begins at the slot of its first position
  begins : c.probed_slot-start.result ≡ probe_slot (home F c.args.key.now c.args.place.now.slots) c.args.place.now.slots (16 * c.loop-group.group)
  begins =
      let s = c.args.place.now.slots in
      group_begins c.hash-hash.result s c.loop-group.group c.probed_slot-start.result c.requires.slots c.probed_slot-start.ensures.slot
      ∙ ap (λ h. probe_slot (h % s) s (16 * c.loop-group.group)) c.hash-hash.ensures

pub returns-in-Some-clause-given : goal.returns-in-Some-clause-given
returns-in-Some-clause-given g c B h w =
    let at = (goal.at.returns-in-Some-clause-given g c).After-look_at_read in
    let p = c.args.place.now in
    let f : IsFormat (F g at) = search rules in
    let group = c.loop-group.group in
    let counted : group + 1 ≡ 16 * group / 16 + 1 = omega arith in
    read_end (F g at) p B c.args.key.now f c.requires.slots w (16 * group) c.probed_slot-start.result c.read_exact_at.new.out (omega arith) (within g at) (begins g at) c.probed_slot-start.ensures.below (c.in_ok-read_exact_at.ensures.given B h)
    (c.loop-group.invariant.passed B h w) (group + 1) c.in-Some.end counted (subst (IsGroupLook (F g at) (read_entries p B) c.read_exact_at.new.out c.probed_slot-start.result 16 c.args.key.now) c.in-Some.is (c.in_ok-end.ensures.given B h))

pub returns-clause-given : goal.returns-clause-given
returns-clause-given g c B h w =
    let p = c.args.place.now in
    let F : Format = format_of p.layout.key_len p.layout.value_len g.H.HashFn.hash in
    let f : IsFormat F = search rules in
    let m = sixteens p.slots c.requires.slots in
    let all : 16 * c.loop-group.group ≡ p.slots = omega (arith, c.loop-group.auto.group-end, c.loop-group-test.false, m.2) in
    read_all F p B c.args.key.now f c.requires.slots w (subst (IsPassed F (read_entries p B) (read_controls p B) c.args.key.now) all (c.loop-group.invariant.passed B h w))

pub loop-group-preserved : goal.loop-group-preserved
loop-group-preserved g c =
    let at = (goal.at.loop-group-preserved g c).After-look_at_read in
    let p = c.args.place.now in
    let f : IsFormat (F g at) = search rules in
    let group = c.loop-group.group in
    let next : 16 * group + 16 ≡ 16 * (group + 1) = omega arith in
    record {
      passed = λ B h w. subst (IsPassed (F g at) (read_entries p B) (read_controls p B) c.args.key.now) next (read_more (F g at) p B c.args.key.now f c.requires.slots w (16 * group) c.probed_slot-start.result c.read_exact_at.new.out (omega arith) (within g at) (begins g at) c.probed_slot-start.ensures.below (c.in_ok-read_exact_at.ensures.given B h) (c.loop-group.invariant.passed B h w) (subst (IsGroupLook (F g at) (read_entries p B) c.read_exact_at.new.out c.probed_slot-start.result 16 c.args.key.now) c.in_default.is (c.in_ok-end.ensures.given B h)));
    }
