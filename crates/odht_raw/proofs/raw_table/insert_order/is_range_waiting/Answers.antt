use Rattle.std.proofs.Common.{rules, ltb, ◌≡◌, true, false, true≢false, arith, sym, refl, below_more}
use Rattle.std.specs.List.Sorted.{IsPartitionPoint}
use Rattle.std.proofs.lemmas.List.Sorted.{IsPartitionPoint-from_clause}
use Rattle.odht_raw.specs.Waiting.{slot_of}
use Rattle.odht_raw.proofs.lemmas.WaitingSlots.{parted_where_rising}
use Rattle.odht_raw.proofs.lemmas.WaitingRanges.{none_before_point, from_point, from_item, waits_at, waits_nowhere}
use Rattle.odht_raw.proofs.raw_table.insert_order.is_range_waiting.Goals.{After-partition_point-first}
use Rattle.odht_raw.proofs.raw_table.insert_order.is_range_waiting.Goals as goal

-- the first item whose slot is not below the start
point : (c : After-partition_point-first) → IsPartitionPoint (λ n. ltb (slot_of n) c.args.start ≡ true) (λ n. ltb (slot_of n) c.args.start ≡ false) c.args.slots.now c.partition_point-first.result
point c =
    IsPartitionPoint-from_clause (λ n. ltb (slot_of n) c.args.start) _ _ c.partition_point-first.ensures.partitioned
    (parted_where_rising _ c.args.start c.requires.rising) (λ a r q k. search rules)

pub loop-at-init : goal.loop-at-init
loop-at-init c = none_before_point c.args.slots.now c.args.start c.partition_point-first.result (point c) c.partition_point-first.ensures.bound

pub loop-at-preserved : goal.loop-at-preserved
loop-at-preserved c = below_more _ _ c.loop-at.invariant (λ high. absurd (omega (arith, high, c.if-listed-ge-WAITING.false)))

pub returns-then-listed-end : goal.returns-then-listed-end
returns-then-listed-end c = (
  λ t. absurd (true≢false (sym t)),
  λ w. absurd (waits_nowhere c.args.slots.now c.requires.rising c.args.start c.args.end c.loop-at.at c.requires.end c.loop-at.invariant
      (from_item c.args.slots.now c.requires.rising c.loop-at.at c.args.end c.loop-at-test.true c.if-listed-end.true) w),
)

pub returns-then-listed-ge-WAITING : goal.returns-then-listed-ge-WAITING
returns-then-listed-ge-WAITING c = (
  λ t. waits_at c.args.slots.now c.requires.rising c.args.start c.args.end c.loop-at.at c.loop-at-test.true (omega (arith, c.type_inv.slots c.loop-at.at))
      c.if-listed-ge-WAITING.true
      (from_point c.args.slots.now c.args.start c.partition_point-first.result (point (goal.at.returns-then-listed-ge-WAITING c).After-partition_point-first) c.loop-at.at c.loop-at.auto.at c.loop-at-test.true)
      c.if-listed-end.false,
  λ w. refl,
)

pub returns : goal.returns
returns c = (
  λ t. absurd (true≢false (sym t)),
  λ w. absurd (waits_nowhere c.args.slots.now c.requires.rising c.args.start c.args.end c.loop-at.at c.requires.end c.loop-at.invariant
      (λ k past l. absurd (omega (arith, past, l, c.loop-at-test.false))) w),
)
