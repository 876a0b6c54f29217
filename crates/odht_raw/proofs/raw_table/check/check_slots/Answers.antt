use Rattle.std.proofs.Common.{◌≡◌, ◌∙◌, ◌+◌, ◌-◌, ◌%◌, ◌<◌, ◌≤◌, Contains, length, min, sym, ap, subst, arith}
use Rattle.odht_raw.specs.Words.{bytes_at, Format, free_in}
use Rattle.odht_raw.proofs.lemmas.Below.{length-bytes_at, sixteens}
use Rattle.odht_raw.specs.DynParts.{parts_format}
use Rattle.odht_raw.specs.Parts.{TableParts}
use Rattle.odht_raw.specs.Summaries.{AreFree}
use Rattle.odht_raw.proofs.lemmas.SlotSummary.{all_passed, all_counted, all_reached, free_slots_pass}
use Rattle.odht_raw.proofs.lemmas.SpanLooks.{free_low}
use Rattle.odht_raw.proofs.raw_table.check.check_slots.Given.{Over}
use Rattle.odht_raw.proofs.raw_table.check.check_slots.Goals.{After-len-slots, After-controls-control, then-not-are_free+in_ok-check_in_order, else-not-are_free}
use Rattle.odht_raw.proofs.raw_table.check.check_slots.Goals as goal

-- how many slots there are
module _ (g : Over) (c : After-len-slots g) where
  abbrev T : TableParts
  T = c.args.table.now.parts

  slots : c.len-slots.result ≡ T.entries.slots
  slots = c.len-slots.ensures.value

  all : length T.control - 16 ≡ T.entries.slots
  all = omega (arith, c.len-slots.ensures.whole.mirrored)

-- the span
module _ (g : Over) (c : After-controls-control g) where
  abbrev counted : After-len-slots g
  counted = (goal.at.After-controls-control g c).After-len-slots

  size_is : c.min-size.result ≡ min ((T g counted).entries.slots - c.spans.start) 64
  size_is = c.min-size.ensures ∙ ap (λ n. min (n - c.spans.start) 64) (slots g counted)

  before : c.spans.start < (T g counted).entries.slots
  before = omega (arith, slots g counted, c.spans-test.true)

  within : c.spans.start + c.min-size.result ≤ (T g counted).entries.slots
  within = omega (arith, size_is, before)

  groups : c.min-size.result % 16 ≡ 0
  groups =
      let m = sixteens (T g counted).entries.slots c.len-slots.ensures.whole.slots in
      omega (arith, size_is, before, c.spans.invariant.groups, m.2)

  read : bytes_at c.controls-control.result.now c.spans.start c.min-size.result ≡ bytes_at (T g counted).control c.spans.start c.min-size.result
  read = ap (λ b. bytes_at b c.spans.start c.min-size.result) c.controls-control.ensures.value

  long : length (bytes_at (T g counted).control c.spans.start c.min-size.result) ≡ c.min-size.result
  long = length-bytes_at (T g counted).control c.spans.start c.min-size.result (omega (arith, within, c.len-slots.ensures.whole.mirrored))

pub free_and_occupied-free-requires-clause-groups : goal.free_and_occupied-free-requires-clause-groups
free_and_occupied-free-requires-clause-groups g c = let at = (goal.at.free_and_occupied-free-requires-clause-groups g c).After-controls-control in ap (λ b. length b % 16) (read g at) ∙ ap (λ n. n % 16) (long g at) ∙ groups g at

pub free_and_occupied-free-requires-clause-some : goal.free_and_occupied-free-requires-clause-some
free_and_occupied-free-requires-clause-some g c = let at = (goal.at.free_and_occupied-free-requires-clause-some g c).After-controls-control in omega (arith, ap length (read g at), long g at, size_is g at, before g at)

pub are_free-requires : goal.are_free-requires
are_free-requires g c = record {
  within = λ i marked.
      let at = (goal.at.are_free-requires g c).After-controls-control in
      let low = free_low (bytes_at c.controls-control.result.now c.spans.start c.min-size.result) i (subst (λ xs. Contains xs i) c.free_and_occupied-free.ensures.free marked) in
      omega (arith, low, ap length (read g at), long g at, within g at);
}

pub check_in_order-requires-clause-size : goal.check_in_order-requires-clause-size
check_in_order-requires-clause-size g c = within g (goal.at.check_in_order-requires-clause-size g c).After-controls-control

pub check_occupied-requires-clause-free : goal.check_occupied-requires-clause-free
check_occupied-requires-clause-free g c =
    let at = (goal.at.check_occupied-requires-clause-free g c).After-controls-control in
    let F : Format = (parts_format c.args.table.now g.H.HashFn.hash) in
    let T : TableParts = c.args.table.now.parts in
    elim c.if-not-are_free.branch [
      | then-not-are_free+in_ok-check_in_order w ↦ λ i marked.
          let low = free_low (bytes_at T.control c.spans.start c.min-size.result) i marked in
          w.in_ok-check_in_order.ensures.ok (c.spans.start + i) (omega (arith, low, long g at))
      | else-not-are_free w ↦
          let marked = c.free_and_occupied-free.ensures.free ∙ ap free_in (read g at) in
          free_slots_pass F T c.spans.start _ (subst (AreFree F T c.spans.start) marked (c.are_free.ensures.0 w.if-not-are_free.false))
    ]

pub spans-preserved : goal.spans-preserved
spans-preserved g c =
    let at = (goal.at.spans-preserved g c).After-controls-control in
    record {
      within = within g at;
      groups = omega (arith, groups g at, c.spans.invariant.groups);
      known = c.in_ok-summary.ensures.ok;
    }

pub returns-clause-err : goal.returns-clause-err
returns-clause-err g c =
    let at = (goal.at.returns-clause-err g c).After-len-slots in
    let end : length c.args.table.now.parts.control - 16 ≡ c.spans.start = omega (arith, all g at, slots g at, c.spans-test.false, c.spans.invariant.within) in
    sym (all_passed (parts_format c.args.table.now g.H.HashFn.hash) c.args.table.now.parts c.args.searches c.spans.start c.spans.summary.occupied c.spans.summary.unreachable c.spans.invariant.known end)

pub returns-clause-occupied : goal.returns-clause-occupied
returns-clause-occupied g c =
    let at = (goal.at.returns-clause-occupied g c).After-len-slots in
    let end : length c.args.table.now.parts.control - 16 ≡ c.spans.start = omega (arith, all g at, slots g at, c.spans-test.false, c.spans.invariant.within) in
    all_counted (parts_format c.args.table.now g.H.HashFn.hash) c.args.table.now.parts c.args.searches c.spans.start c.spans.summary.occupied c.spans.summary.unreachable c.spans.invariant.known end

pub returns-clause-reached : goal.returns-clause-reached
returns-clause-reached g c =
    let at = (goal.at.returns-clause-reached g c).After-len-slots in
    let end : length c.args.table.now.parts.control - 16 ≡ c.spans.start = omega (arith, all g at, slots g at, c.spans-test.false, c.spans.invariant.within) in
    all_reached (parts_format c.args.table.now g.H.HashFn.hash) c.args.table.now.parts c.args.searches c.spans.start c.spans.summary.occupied c.spans.summary.unreachable c.spans.invariant.known end
