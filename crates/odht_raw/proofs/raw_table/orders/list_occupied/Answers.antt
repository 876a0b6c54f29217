use Rattle.std.proofs.Common.{◌≡◌, ◌∙◌, ◌+◌, ◌≤◌, ◌%◌, ◌++◌, length, map, take, ap, subst, Contains, arith}
use Rattle.odht_raw.specs.Words.{bytes_at, slot_count as slots_of}
use Rattle.odht_raw.proofs.lemmas.Below.{few_slots, length-bytes_at, sixteens}
use Rattle.odht_raw.specs.Waiting.{waiting}
use Rattle.odht_raw.proofs.lemmas.ListedSlots.{IsListedBelow, listed_span, listed_all, occupied_low}
use Rattle.odht_raw.proofs.raw_table.orders.list_occupied.Goals.{After-min-size}
use Rattle.odht_raw.proofs.raw_table.orders.list_occupied.Goals as goal

-- the span
module _ (c : After-min-size) where
  within : c.spans.start + c.min-size.result ≤ c.args.slot_count
  within = omega (arith, c.min-size.ensures, c.spans-test.true)

  groups : c.min-size.result % 16 ≡ 0
  groups =
      let m = sixteens c.args.slot_count c.requires.slots in
      omega (arith, c.min-size.ensures, c.spans-test.true, c.spans.invariant.groups, m.2)

  inside : c.spans.start + c.min-size.result ≤ length c.args.control.now
  inside = omega (arith, within, c.requires.control)

  long : length (bytes_at c.args.control.now c.spans.start c.min-size.result) ≡ c.min-size.result
  long = length-bytes_at c.args.control.now c.spans.start c.min-size.result inside

pub free_and_occupied-others-requires-clause-groups : goal.free_and_occupied-others-requires-clause-groups
free_and_occupied-others-requires-clause-groups c = let at = (goal.at.free_and_occupied-others-requires-clause-groups c).After-min-size in ap (λ n. n % 16) (long at) ∙ groups at

pub free_and_occupied-others-requires-clause-some : goal.free_and_occupied-others-requires-clause-some
free_and_occupied-others-requires-clause-some c = let at = (goal.at.free_and_occupied-others-requires-clause-some c).After-min-size in omega (arith, long at, c.min-size.ensures, c.spans-test.true)

pub list_marked-listed-requires-clause-slots : goal.list_marked-listed-requires-clause-slots
list_marked-listed-requires-clause-slots c i marked =
    let at = (goal.at.list_marked-listed-requires-clause-slots c).After-min-size in
    let low = occupied_low (bytes_at c.args.control.now c.spans.start c.min-size.result) i (subst (λ xs. Contains xs i) c.free_and_occupied-others.ensures.occupied marked) in
    omega (arith, low, long at, within at, few_slots c.args.slot_count c.requires.slots)

pub spans-preserved : goal.spans-preserved
spans-preserved c =
    let at = (goal.at.spans-preserved c).After-min-size in
    record {
      within = within at;
      groups = omega (arith, groups at, c.spans.invariant.groups);
      listed = listed_span c.args.control.now c.spans.start c.min-size.result c.spans.out c.list_marked-listed.new.out c.spans.listed c.list_marked-listed.result
          (inside at) c.list_marked-listed.auto.out c.list_marked-listed.ensures.room
          (c.list_marked-listed.ensures.listed ∙ ap (λ marks. take (length c.list_marked-listed.new.out) (take c.spans.listed c.spans.out ++ map (λ i. waiting (c.spans.start + i)) marks)) c.free_and_occupied-others.ensures.occupied)
          c.spans.invariant.listed;
    }

pub returns : goal.returns
returns c P slots same room =
    let end : c.spans.start ≡ slots_of P = omega (arith, slots, c.spans-test.false, c.spans.invariant.within) in
    listed_all c.args.control.now P c.spans.out c.spans.listed
    (λ i l. same i (omega (arith, slots, l)))
    (c.spans.auto.out ∙ room)
    (subst (λ s. IsListedBelow c.args.control.now s c.spans.out c.spans.listed) end c.spans.invariant.listed)
