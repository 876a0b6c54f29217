use Rattle.std.proofs.Common.{◌≡◌, ◌∙◌, ◌+◌, ◌-◌, ◌%◌, ◌<◌, ◌≤◌, ◌↔◌, ◌/◌, ◌^◌, ℕ, false, true≢false, IsTrue, bit_and, length, sym, ap, subst, subst₂, arith, refl, inl, inr}
use Rattle.odht_raw.specs.Words.{bytes_at, Format, IsSlotCount, probe_slot, slot_key, stops_at, tag}
use Rattle.std.proofs.lemmas.Bool.{cases_lt}
use Rattle.odht_raw.specs.Checks.{cells_of, IsGroupSearch}
use Rattle.odht_raw.specs.DynParts.{parts_format}
use Rattle.odht_raw.proofs.lemmas.KeyPasses.{slots_decoded, stops_key}
use Rattle.odht_raw.proofs.lemmas.KeyPositions.{home_position, distance, later_position, not_in_group, passes_more, ends_here, ends_earlier}
use Rattle.odht_raw.proofs.raw_table.check.is_reached_by_groups.Given.{Over}
use Rattle.odht_raw.proofs.raw_table.check.is_reached_by_groups.Goals.{After-start-start}
use Rattle.odht_raw.proofs.raw_table.check.is_reached_by_groups.Goals as goal

-- what holds at each group
module _ (g : Over) (c : After-start-start g) where
  abbrev s : ℕ
  s = c.args.table.now.parts.entries.slots

  count : IsSlotCount s
  count = c.len-slots.ensures.whole.slots

  mirrored : length c.args.table.now.parts.control ≡ s + 16
  mirrored = c.len-slots.ensures.whole.mirrored

  slots : c.len-slots.result ≡ s
  slots = c.len-slots.ensures.value

  probed : length c.groups.probe.control - 16 ≡ s
  probed = omega (arith, ap length c.groups.invariant.control, mirrored)

  low : c.start-start.result < s
  low = omega (arith, c.start-start.ensures.below, probed)

  -- the slot's distance behind the group's first slot
  behind_is : bit_and ((c.args.slot + (2 ^ 64 - c.start-start.result)) % 2 ^ 64) (c.len-slots.result - 1) ≡ (c.args.slot + s - c.start-start.result) % s
  behind_is = ap (λ n. bit_and ((c.args.slot + (2 ^ 64 - c.start-start.result)) % 2 ^ 64) (n - 1)) slots ∙ distance c.args.slot c.start-start.result s count low

  within : c.groups.probe.position + 16 ≤ s
  within = omega (arith, c.start-start.ensures.within, probed)

  -- which is that of the position in the order
  first_is : c.start-start.result ≡ probe_slot (c.args.hash % s) s c.groups.probe.position
  first_is = c.start-start.ensures.slot ∙ (λ i. probe_slot (c.groups.invariant.home i) (probed i) c.groups.probe.position)

  cells : length (cells_of (parts_format c.args.table.now g.H.HashFn.hash) c.args.table.now.parts) ≡ s
  cells = slots_decoded (parts_format c.args.table.now g.H.HashFn.hash) c.args.table.now.parts.entries.bytes c.args.table.now.parts.control s mirrored

  -- a slot that is not in the group is behind it
  far : 16 ≤ bit_and ((c.args.slot + (2 ^ 64 - c.start-start.result)) % 2 ^ 64) (c.len-slots.result - 1) → (c.args.slot + s - c.start-start.result) % s < 16 → ⊥
  far h l = omega (arith, l, behind_is, h)

  own_later : 16 ≤ bit_and ((c.args.slot + (2 ^ 64 - c.start-start.result)) % 2 ^ 64) (c.len-slots.result - 1) → (n : ℕ) × (n < s) × (probe_slot (c.args.hash % s) s n ≡ c.args.slot) × (c.groups.probe.position + 16 ≤ n)
  own_later h =
      let v = c.groups.invariant in
      later_position c.args.hash s c.start-start.result c.groups.probe.position c.args.slot count c.start-start.ensures.aligned within first_is c.requires.slot (far h) v.others

  -- the group at hand was looked at for the key's tag
  looked : IsGroupSearch (bytes_at c.args.table.now.parts.control c.start-start.result 16) (tag (parts_format c.args.table.now g.H.HashFn.hash) (slot_key (parts_format c.args.table.now g.H.HashFn.hash) c.args.table.now.parts.entries.bytes c.args.slot)) c.groups.group
  looked = subst₂ (λ b h. IsGroupSearch (bytes_at c.args.table.now.parts.control b 16) (h / 2 ^ 25) c.groups.group) (sym first_is) c.requires.hash c.groups.invariant.looked

pub hold_other_keys-requires-clause-group : goal.hold_other_keys-requires-clause-group
hold_other_keys-requires-clause-group g c = looked g (goal.at.hold_other_keys-requires-clause-group g c).After-start-start

pub hold_other_keys-requires-in-groups-clause-group : goal.hold_other_keys-requires-in-groups-clause-group
hold_other_keys-requires-in-groups-clause-group g c = looked g (goal.at.hold_other_keys-requires-in-groups-clause-group g c).After-start-start

pub returns-then-before-lt-REFERENCE_GROUP_SIZE : goal.returns-then-before-lt-REFERENCE_GROUP_SIZE
returns-then-before-lt-REFERENCE_GROUP_SIZE g c fitting =
    let at = (goal.at.returns-then-before-lt-REFERENCE_GROUP_SIZE g c).After-start-start in
    let F : Format = (parts_format c.args.table.now g.H.HashFn.hash) in
    let k = slot_key F c.args.table.now.parts.entries.bytes c.args.slot in
    let v = c.groups.invariant in
    let is = behind_is g at in
    ends_here c.args.hash (s g at) c.start-start.result c.groups.probe.position c.args.slot (count g at) c.start-start.ensures.aligned (within g at) (first_is g at) c.requires.slot
    F (cells_of F c.args.table.now.parts) k (cells g at) c.requires.hash
    (subst (λ n. n < 16) is c.if-before-lt-REFERENCE_GROUP_SIZE.true) (v.passed fitting)
    (stops_key F c.args.table.now.parts.entries.bytes c.args.table.now.parts.control (s g at) (mirrored g at) k c.args.slot c.requires.slot refl)
    c.hold_other_keys.result
    (subst (λ n. IsTrue c.hold_other_keys.result ↔ ((j : ℕ) → j < n → stops_at (cells_of F c.args.table.now.parts) k ((c.start-start.result + j) % s g at) ≡ false)) is (c.hold_other_keys.ensures fitting))

pub returns-then-not-hold_other_keys : goal.returns-then-not-hold_other_keys
returns-then-not-hold_other_keys g c fitting =
    let at = (goal.at.returns-then-not-hold_other_keys g c).After-start-start in
    let F : Format = (parts_format c.args.table.now g.H.HashFn.hash) in
    let k = slot_key F c.args.table.now.parts.entries.bytes c.args.slot in
    let v = c.groups.invariant in
    ends_earlier c.args.hash (s g at) c.start-start.result c.groups.probe.position c.args.slot (count g at) c.start-start.ensures.aligned (within g at) (first_is g at) c.requires.slot
    F (cells_of F c.args.table.now.parts) k (cells g at) c.requires.hash
    (far g at c.if-before-lt-REFERENCE_GROUP_SIZE.false) v.others
    (λ passed. true≢false (sym ((c.hold_other_keys-in-groups.ensures fitting).1 passed) ∙ c.if-not-hold_other_keys.true))

pub advance-requires : goal.advance-requires
advance-requires g c =
    let at = (goal.at.advance-requires g c).After-start-start in
    let n = own_later g at c.if-before-lt-REFERENCE_GROUP_SIZE.false in
    let v = c.groups.invariant in
    let least = (count g at).least in
    omega (arith, probed g at, n.1, n.3, least)

pub groups-preserved : goal.groups-preserved
groups-preserved g c =
    let at = (goal.at.groups-preserved g c).After-start-start in
    let F : Format = (parts_format c.args.table.now g.H.HashFn.hash) in
    let k = slot_key F c.args.table.now.parts.entries.bytes c.args.slot in
    let v = c.groups.invariant in
    let read = c.read.ensures.counted in
    let place : c.read.new.self.position ≡ c.groups.probe.position + 16 = ap (λ q. q.position) read ∙ ap (λ q. q.position) c.advance.ensures in
    let control : c.advance.new.self.control ≡ c.args.table.now.parts.control = ap (λ q. q.control) c.advance.ensures ∙ v.control in
    let home : c.advance.new.self.home ≡ c.args.hash % s g at = ap (λ q. q.home) c.advance.ensures ∙ v.home in
    let long : length c.advance.new.self.control - 16 ≡ s g at = omega (arith, ap length control, mirrored g at) in
    record {
      control = ap (λ q. q.control) read ∙ control;
      home = ap (λ q. q.home) read ∙ home;
      looked =
          let next = c.read.ensures.bytes ∙ (λ i. bytes_at (control i) (probe_slot (home i) (long i) (sym (ap (λ q. q.position) read) i)) 16) in
          subst₂ (λ b h. IsGroupSearch b h c.of-group.result) next c.tag_of-tag.ensures (record { report = c.of-group.ensures.matches; free = c.of-group.ensures.free });
      others = λ q l e. elim (cases_lt q c.groups.probe.position) [
        | inl before ↦ v.others q before e
        | inr here ↦
            let j : ℕ = q - c.groups.probe.position in
            let sum : q ≡ c.groups.probe.position + j = omega (arith, here) in
            not_in_group c.args.hash (s g at) c.start-start.result c.groups.probe.position c.args.slot (count g at) c.start-start.ensures.aligned (within g at) (first_is g at) c.requires.slot
            (far g at c.if-before-lt-REFERENCE_GROUP_SIZE.false) j (omega (arith, l, place, here)) (ap (probe_slot (c.args.hash % s g at) (s g at)) (sym sum) ∙ e)
      ];
      passed = λ fitting q l. passes_more c.args.hash (s g at) c.start-start.result c.groups.probe.position c.args.slot (count g at) c.start-start.ensures.aligned (within g at) (first_is g at) c.requires.slot
          F (cells_of F c.args.table.now.parts) k (cells g at) c.requires.hash 16 (omega arith) (v.passed fitting) ((c.hold_other_keys-in-groups.ensures fitting).0 c.if-not-hold_other_keys.false) q (omega (arith, l, place));
    }

pub groups-init : goal.groups-init
groups-init g c =
    let s = c.args.table.now.parts.entries.slots in
    let count = c.len-slots.ensures.whole.slots in
    let least = count.least in
    let slots : c.len-slots.result ≡ s = c.len-slots.ensures.value in
    let place : c.new-probe.result.position ≡ 0 = ap (λ q. q.position) c.new-probe.ensures in
    let home : c.args.hash % s < s = omega (arith, least) in
    record {
      control = ap (λ q. q.control) c.new-probe.ensures ∙ c.controls.ensures.value;
      home = ap (λ q. q.home) c.new-probe.ensures ∙ ap (λ n. c.args.hash % n) slots;
      looked = subst (λ b. IsGroupSearch (bytes_at c.args.table.now.parts.control b 16) (c.args.hash / 2 ^ 25) c.args.first)
          (sym (ap (probe_slot (c.args.hash % s) s) place ∙ home_position (c.args.hash % s) s home)) c.requires.group;
      others = λ q l. absurd (omega (arith, l, place));
      passed = λ fitting q l. absurd (omega (arith, l, place));
    }
