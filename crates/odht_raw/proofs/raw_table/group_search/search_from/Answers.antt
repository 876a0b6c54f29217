use Rattle.std.proofs.Common.{rules, ◌<◌, arith, refl, ◌≡◌, ◌∙◌, ℕ, ◌+◌, ◌-◌, ◌/◌, ◌≤◌, sym, ap, subst, List, min}
use Rattle.odht_raw.specs.Words.{bytes_at, Format, IsPartsOf, IsSlotCount, probe_slot, Table}
use Rattle.odht_base.proofs.lemmas.SlotCounts.{sixteens}
use Rattle.odht_raw.specs.ControlBytes.{order_slot}
use Rattle.odht_raw.specs.Parts.{EntryBytes, hashed_by}
use Rattle.odht_raw.specs.SearchEnds.{GoesOnAmong}
use Rattle.odht_raw.specs.SearchSteps.{Passed, IsGroupAt}
use Rattle.odht_raw.specs.Searches.{IsPassed}
use Rattle.odht_raw.proofs.lemmas.GroupSearches.{IsGroupAt-group, reads-to, reads-all, goes_on-more, group-end, group-after}
use Rattle.odht_raw.proofs.lemmas.PassedSearches.{none-ends}
use Rattle.odht_raw.specs.Stored.{stored_format}
use Rattle.odht_raw.proofs.raw_table.group_search.search_from.Given.{Over}
use Rattle.odht_raw.proofs.raw_table.group_search.search_from.Goals as goal
use Rattle.odht_raw.proofs.raw_table.group_search.search_from.Goals.{After-search_group}

-- one more group is read, and it is one of the table's
one_more : (read before first from position slots : ℕ) → read ≡ min (before + 1) 18446744073709551615 → before ≤ first + (position - from) / 16 → from ≤ position → position + 16 ≤ slots → read ≤ first + (slots - from) / 16
one_more read before first from position slots counted few begun within = omega arith

-- what is known of the group that is read
module _ (g : Over) (c : After-search_group g) where
  abbrev F : Format
  F = hashed_by g.H.HashFn.hash (stored_format c.args.stored.now)

  abbrev E : EntryBytes
  E = c.args.stored.now.entries

  abbrev k : List ℕ
  k = c.args.key.now

  abbrev ctrl : List ℕ
  ctrl = c.args.scan.now.control

  count : IsSlotCount E.slots
  count = c.requires.slots

  within : c.groups.probe.position + 16 ≤ E.slots
  within = c.groups.invariant.within

  -- it begins at the slot of the position
  begins : c.index-start.result ≡ order_slot F E k c.groups.probe.position
  begins = c.index-start.ensures.slot ∙ (λ i. probe_slot (c.groups.invariant.at.home i) (c.groups.invariant.mask i) c.groups.probe.position)

  -- and is of these control bytes
  read : c.group-bytes.result.now ≡ bytes_at ctrl c.index-start.result 16
  read = c.group-bytes.ensures.bytes ∙ ap (λ b. bytes_at b c.index-start.result 16) c.groups.invariant.control

  -- the searches of the slots before it were passed
  placed_group : (P : Table) → IsPartsOf F P E.bytes ctrl → IsGroupAt F P E k c.groups.probe.position c.index-start.result c.group-bytes.result.now
  placed_group P h =
      subst (IsGroupAt F P E k c.groups.probe.position c.index-start.result) (sym read)
      (IsGroupAt-group F P E ctrl k c.requires.sought.format h c.requires.mirrored c.groups.probe.position c.index-start.result c.groups.invariant.at.aligned within begins
      (c.groups.invariant.at.passed.on_placed P (subst (IsPartsOf F P E.bytes) (sym c.groups.invariant.control) h)))

  before : IsPassed F E ctrl k c.groups.probe.position
  before = subst (λ b. IsPassed F E b k c.groups.probe.position) c.groups.invariant.control c.groups.invariant.at.passed

  -- where the search goes on from it, it passed all positions up to the next one
  passed_group : GoesOnAmong F E c.group-bytes.result.now c.index-start.result k 16 → ((P : Table) → IsPartsOf F P E.bytes ctrl → Passed F P k (c.groups.probe.position + 16))
      → IsPassed F E ctrl k (c.groups.probe.position + 16)
  passed_group on placed = record {
    on = goes_on-more F E ctrl k c.index-start.result c.groups.probe.position c.requires.mirrored count.least c.groups.invariant.at.aligned within begins 16 (omega arith) (subst (λ bs. GoesOnAmong F E bs c.index-start.result k 16) read on) before.on;
    on_placed = placed;
  }

pub returns-in-Some : goal.returns-in-Some
returns-in-Some g c =
    let at = (goal.at.returns-in-Some g c).After-search_group in
    let p : ℕ = c.groups.probe.position in
    let F = F g at in
    let E = E g at in
    let k = k g at in
    let ctrl = ctrl g at in
    let mirrored = c.requires.mirrored in
    let aligned = c.groups.invariant.at.aligned in
    let ends = rw (read g at) at c.in-Some.ensures.slot in
    let placed = λ (P : Table) (h : IsPartsOf F P E.bytes ctrl). c.in-Some.ensures.on_placed P p (placed_group g at P h) in
    let counted = ap (λ q. q.groups) c.group-bytes.ensures.counted in
    record {
      end = record {
        on_placed = λ P h. (placed P h).0;
        slot = group-end F E ctrl k c.index-start.result p mirrored (count g at).least aligned (within g at) (begins g at) c.in-Some.end ends;
        earlier = group-after F E ctrl k c.index-start.result p mirrored (count g at).least aligned (within g at) (begins g at) (before g at).on c.in-Some.end ends;
      };
      groups = λ P h. rw (reads-to F P E ctrl k c.requires.sought.format h mirrored p aligned (placed P h).1)
          (omega (arith, counted, c.groups.invariant.read_so_far, c.groups.invariant.from, aligned, c.requires.at.aligned));
      few = one_more _ _ _ _ _ _ counted c.groups.invariant.few c.groups.invariant.from (within g at);
      control = ap (λ q. q.control) c.group-bytes.ensures.counted ∙ c.groups.invariant.control;
    }

pub returns-then-is_last : goal.returns-then-is_last
returns-then-is_last g c =
    let at = (goal.at.returns-then-is_last g c).After-search_group in
    let p : ℕ = c.groups.probe.position in
    let F = F g at in
    let E = E g at in
    let k = k g at in
    let ctrl = ctrl g at in
    let mirrored = c.requires.mirrored in
    let control = ap (λ q. q.control) c.group-bytes.ensures.counted ∙ c.groups.invariant.control in
    let all : p + 16 ≡ E.slots = omega (arith, c.is_last.ensures.0 c.if-is_last.true, c.groups.invariant.mask, c.groups.invariant.within) in
    let passed = subst (IsPassed F E ctrl k) all (passed_group g at (c.in_default.ensures.none refl) (λ P h. c.in_default.ensures.on_placed P p (placed_group g at P h))) in
    let counted = ap (λ q. q.groups) c.group-bytes.ensures.counted in
    record {
      end = none-ends F E ctrl k c.requires.sought.format mirrored (count g at) passed;
      groups = λ P h. rw (reads-all F P E ctrl k c.requires.sought.format h mirrored (passed.on_placed P h))
          (omega (arith, counted, c.groups.invariant.read_so_far, c.groups.invariant.from, all, c.groups.invariant.at.aligned, c.requires.at.aligned));
      few = one_more _ _ _ _ _ _ counted c.groups.invariant.few c.groups.invariant.from (within g at);
      control = control;
    }

pub groups-preserved : goal.groups-preserved
groups-preserved g c =
    let at = (goal.at.groups-preserved g c).After-search_group in
    let counted : c.group-bytes.new.self.groups ≡ min (c.groups.scan.groups + 1) 18446744073709551615 = ap (λ q. q.groups) c.group-bytes.ensures.counted in
    let place : c.advance.new.self.position ≡ c.groups.probe.position + 16 = ap (λ q. q.position) c.advance.ensures in
    let masked : c.advance.new.self.mask ≡ c.groups.probe.mask = ap (λ q. q.mask) c.advance.ensures in
    let control = ap (λ q. q.control) c.group-bytes.ensures.counted ∙ c.groups.invariant.control in
    let passed = passed_group g at (c.in_default.ensures.none refl) (λ P h. c.in_default.ensures.on_placed P c.groups.probe.position (placed_group g at P h)) in
    let more : c.groups.probe.position + 16 < c.groups.probe.mask + 1 = search rules in
    let sixteen = sixteens c.args.stored.now.entries.slots c.requires.slots in
    record {
      control = control;
      mask = ap (λ m. m + 1) masked ∙ c.groups.invariant.mask;
      within = omega (arith, place, c.groups.invariant.at.aligned, more, c.groups.invariant.mask, sixteen.2);
      from = omega (arith, place, c.groups.invariant.from);
      read_so_far = omega (arith, counted, c.groups.invariant.read_so_far, place, c.groups.invariant.from);
      few = omega (arith, counted, c.groups.invariant.few, place, c.groups.invariant.from);
      at = record {
        home = ap (λ q. q.home) c.advance.ensures ∙ c.groups.invariant.at.home;
        aligned = omega (arith, place, c.groups.invariant.at.aligned);
        passed = subst (λ (x : List ℕ × ℕ). IsPassed (F g at) (E g at) x.0 (k g at) x.1) (λ i. (sym control i, sym place i)) passed;
      };
    }
