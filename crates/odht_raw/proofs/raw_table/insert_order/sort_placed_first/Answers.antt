use Rattle.std.proofs.Common.{◌<◌, ◌≤◌, ◌-◌, length, sym, subst, arith, AllPairs, IsPermutation}
use Rattle.odht_raw.proofs.lemmas.Below.{IsPermutation-put_mid, IsPermutation-trans, take_rest}
use Rattle.odht_raw.proofs.lemmas.PartedSlots.{all_placed, parted_none, parted_waiting, parted_placed, parted_rises}
use Rattle.odht_raw.proofs.lemmas.PendingSlots.{ended}
use Rattle.odht_raw.proofs.raw_table.insert_order.sort_placed_first.Goals.{then-moved-lt-WAITING, else-moved-lt-WAITING}
use Rattle.odht_raw.proofs.raw_table.insert_order.sort_placed_first.Goals as goal

pub loop-at-init : goal.loop-at-init
loop-at-init c = parted_none c.args.slots.now

pub loop-at-preserved : goal.loop-at-preserved
loop-at-preserved c =
    let l : c.loop-at.at < length c.loop-at.slots = omega (arith, c.loop-at-test.true, c.loop-at.auto.slots) in
    elim c.if-moved-lt-WAITING.branch [
      | then-moved-lt-WAITING w ↦
          rw (w.slots-is, w.front-is) (parted_placed c.loop-at.invariant l w.if-moved-lt-WAITING.true)
      | else-moved-lt-WAITING w ↦ rw (w.slots-is, w.front-is) (parted_waiting c.loop-at.invariant l w.if-moved-lt-WAITING.false)
    ]

pub returns-then-placed-slots-clause-rising : goal.returns-then-placed-slots-clause-rising
returns-then-placed-slots-clause-rising c = all_placed c.args.slots.now (omega (arith, c.requires.placed, c.if-placed-slots.true))

pub returns-clause-permutation : goal.returns-clause-permutation
returns-clause-permutation c =
    IsPermutation-trans _ _ _ c.loop-at.invariant.moved
    (IsPermutation-put_mid c.loop-at.front (length c.loop-at.slots - c.loop-at.front) c.loop-at.slots c.sort_unstable.new.self c.sort_unstable.ensures.permutation)

pub returns-clause-rising : goal.returns-clause-rising
returns-clause-rising c rise =
    let ns = c.loop-at.slots in
    let n = c.loop-at.front in
    let few : n ≤ length ns = omega (arith, c.loop-at.invariant.few, c.loop-at.auto.at-end, c.loop-at.auto.slots) in
    let moved = subst (λ xs. IsPermutation xs c.sort_unstable.new.self) (take_rest ns n) c.sort_unstable.ensures.permutation in
    subst (AllPairs (λ a b. a < b)) (sym (ended ns c.sort_unstable.new.self n few))
    (parted_rises c.loop-at.invariant (omega (arith, c.loop-at-test.false, c.loop-at.auto.slots)) few c.sort_unstable.new.self moved c.sort_unstable.ensures.sorted rise)
