use Rattle.std.proofs.Common.{◌≡◌, ◌∙◌, ℕ, Some, ◌+◌, ◌-◌, ◌%◌, ◌/◌, ◌^◌, ◌<◌, ◌≤◌, true, bit_and, List, length, slice_get, sym, ap, subst, subst₂, arith, refl}
use Rattle.std.specs.Option.{unwrap_or}
use Rattle.std.proofs.lemmas.Option.{get_or_from_slice_get, slice_get_within}
use Rattle.std.specs.Prelude.{Contains, slice_index}
use Rattle.odht_raw.specs.Words.{bytes_at, Format, probe_slot, slot_key}
use Rattle.odht_raw.specs.Checks.{cells_of, IsGroupSearch}
use Rattle.odht_raw.specs.DynParts.{parts_format}
use Rattle.odht_raw.specs.Parts.{TableParts}
use Rattle.odht_raw.proofs.lemmas.Homes.{HasHomes, parts_homes}
use Rattle.odht_raw.proofs.lemmas.KeyPasses.{slots_decoded, stops_key}
use Rattle.odht_raw.proofs.lemmas.KeyPositions.{home_position, ends_here, distance}
use Rattle.odht_raw.proofs.lemmas.PartLooks.{are_clear}
use Rattle.odht_raw.proofs.raw_table.check.is_reached.Given.{Over}
use Rattle.odht_raw.proofs.raw_table.check.is_reached.Goals.{After-of-group}
use Rattle.odht_raw.proofs.raw_table.check.is_reached.Goals as goal

-- what is known once the first group was looked at
module _ (g : Over) (c : After-of-group g) where
  abbrev F : Format
  F = parts_format c.args.table.now g.H.HashFn.hash

  abbrev T : TableParts
  T = c.args.table.now.parts

  abbrev s : ℕ
  s = T.entries.slots

  abbrev key : List ℕ
  key = slot_key F T.entries.bytes c.args.slot

  -- the home of the key
  abbrev home : ℕ
  home = c.args.hash % s

  parts : HasHomes F T
  parts = parts_homes _ _ _ _ _ c.len-slots.ensures.whole g.met.H.HashFn.fits

  slots : c.len-slots.result ≡ s
  slots = c.len-slots.ensures.value

  home_low : home < s
  home_low = let least = parts.slots.least in omega (arith, least)

  control : c.new-probe.result.control ≡ T.control
  control = ap (λ q. q.control) c.new-probe.ensures ∙ c.controls.ensures.value

  -- the first group begins there
  home_is : c.start.result ≡ home
  home_is =
      let probed : length c.new-probe.result.control - 16 ≡ s = omega (arith, ap length control, parts.mirrored) in
      let is : c.new-probe.result.home ≡ home = ap (λ q. q.home) c.new-probe.ensures ∙ ap (λ n. c.args.hash % n) slots in
      let first : c.new-probe.result.position ≡ 0 = ap (λ q. q.position) c.new-probe.ensures in
      c.start.ensures.slot ∙ (λ i. probe_slot (is i) (probed i) (first i)) ∙ home_position home s home_low

  -- how far the slot is behind it
  behind_is : bit_and ((c.args.slot + (2 ^ 64 - c.start.result)) % 2 ^ 64) (c.len-slots.result - 1) ≡ (c.args.slot + s - home) % s
  behind_is = (λ i. bit_and ((c.args.slot + (2 ^ 64 - home_is i)) % 2 ^ 64) (slots i - 1)) ∙ distance c.args.slot home s parts.slots home_low

  look : IsGroupSearch (bytes_at T.control home 16) (c.args.hash / 2 ^ 25) c.of-group.result
  look =
      let read = c.read.ensures.bytes ∙ (λ i. bytes_at (control i) ((sym c.start.ensures.slot ∙ home_is) i) 16) in
      subst₂ (λ b h. IsGroupSearch b h c.of-group.result) read c.tag_of.ensures (record { report = c.of-group.ensures.matches; free = c.of-group.ensures.free })

-- the first match of a report is an index of its group
first_low : (bs xs : List ℕ) (i : ℕ) → ((j : ℕ) → Contains xs j → (j < length bs) × (slice_index bs j < 128)) → slice_get xs 0 ≡ Some i → i < length bs
first_low bs xs i occupied is = (occupied i (0, slice_get_within xs 0 i is, get_or_from_slice_get xs 0 i i is)).0

pub returns-then-before-unwrap_or : goal.returns-then-before-unwrap_or
returns-then-before-unwrap_or g c fitting =
    let at = (goal.at.returns-then-before-unwrap_or g c).After-of-group in
    let p = parts g at in
    let least = p.slots.least in
    let is = behind_is g at in
    let behind = (c.args.slot + s g at - home g at) % s g at in
    let index = c.in-Some.index in
    let first : slice_get c.of-group.result.matches 0 ≡ Some index = sym c.first_match.ensures ∙ c.in-Some.is in
    let low : index < 16 = subst (λ n. index < n) c.read.ensures.len (first_low c.read.result.now c.of-group.result.matches index c.of-group.ensures.matches.occupied first) in
    let before : behind ≤ index = subst (λ n. n ≤ index) is c.if-before-index.true in
    let near : behind < 16 = omega (arith, before, low) in
    let free : behind ≤ unwrap_or c.of-group.result.free 16 = subst₂ (λ n m. n ≤ m) is (c.unwrap_or.ensures ∙ ap (λ o. unwrap_or o 16) c.first_empty.ensures) c.if-before-unwrap_or.true in
    let unmatched : behind ≤ unwrap_or (slice_get c.of-group.result.matches 0) 16 = subst (λ o. behind ≤ unwrap_or o 16) (sym first) before in
    let tagged : IsGroupSearch (bytes_at (T g at).control (home g at) 16) ((F g at).hash (key g at) / 2 ^ 25) c.of-group.result =
    subst (λ h. IsGroupSearch (bytes_at (T g at).control (home g at) 16) (h / 2 ^ 25) c.of-group.result) c.requires.hash (look g at) in
    ends_here c.args.hash (s g at) (home g at) 0 c.args.slot p.slots (omega arith) (omega (arith, least)) (sym (home_position (home g at) (s g at) (home_low g at))) c.requires.slot
    (F g at) (cells_of (F g at) (T g at)) (key g at) (slots_decoded (F g at) (T g at).entries.bytes (T g at).control (s g at) p.mirrored) c.requires.hash
    near (λ q l. absurd (omega (arith, l)))
    (stops_key (F g at) (T g at).entries.bytes (T g at).control (s g at) p.mirrored (key g at) c.args.slot c.requires.slot refl)
    true (
      λ t. are_clear (F g at) (T g at) p.mirrored least fitting (home g at) (home_low g at) (key g at) c.of-group.result tagged behind (omega (arith, near)) free unmatched,
      λ passed. refl,
    )

pub is_reached_by_groups-requires-clause-group : goal.is_reached_by_groups-requires-clause-group
is_reached_by_groups-requires-clause-group g c = look g (goal.at.is_reached_by_groups-requires-clause-group g c).After-of-group
