use Rattle.std.proofs.Common.{rules, ◌≡◌, ◌+◌, ◌<◌, ◌≤◌, length, refl, arith}
use Rattle.odht_tool_core.proofs.Finds.{none_searched, same_searched_to, table_further, nothing_further, false_further, all_searched, all_counted, too_many, inside}
use Rattle.odht_tool_core.proofs.find.find_tables.Goals as goal

pub loop-at-init : goal.loop-at-init
loop-at-init c = record {
  next = 0;
  before = omega arith;
  within = omega arith;
  searched = none_searched c.args.bytes.now _ (search rules);
}

-- the sum is more than the file has bytes, so it was not cut off below that
pub returns-then-bytes-false_slots-clause-err : goal.returns-then-bytes-false_slots-clause-err
returns-then-bytes-false_slots-clause-err c =
    let B = c.args.bytes.now in
    let h = c.loop-at.invariant in
    let seen = c.in-False.ensures in
    let many : length B < c.loop-at.false_slots + c.in-False.slots = omega (arith, c.saturating_add-false_slots.ensures, c.if-bytes-false_slots.true) in
    too_many B c.loop-at.at h.next c.loop-at.false_slots c.loop-at.tables.items h.searched c.in-False.slots h.before seen.0 seen.1 seen.2 c.loop-at-test.true many

-- what begins at the byte is a table, a false header, or nothing
pub loop-at-preserved-in-Table : goal.loop-at-preserved-in-Table
loop-at-preserved-in-Table c =
    let B = c.args.bytes.now in
    let at = c.loop-at.at in
    let seen = c.in-Table.ensures in
    let len = c.in-Table.len in
    table_further B at c.loop-at.false_slots c.loop-at.tables.items c.loop-at.invariant len c.add.new.tables.items seen.0 seen.1 (inside B at len c.loop-at-test.true seen.2)
    c.in_ok-add-in-Table.ensures.ok

pub loop-at-preserved-in-False : goal.loop-at-preserved-in-False
loop-at-preserved-in-False c =
    let B = c.args.bytes.now in
    let at = c.loop-at.at in
    let slots = c.loop-at.false_slots in
    let seen = c.in-False.ensures in
    let sum = c.saturating_add-false_slots.result in
    let few : sum ≤ length B = omega (arith, c.if-bytes-false_slots.false) in
    let whole : sum ≡ slots + c.in-False.slots = omega (arith, c.saturating_add-false_slots.ensures, few) in
    let to = c.next_first-at.ensures in
    same_searched_to B c.next_first-at.result (slots + c.in-False.slots) c.next_first-at.result sum c.loop-at.tables.items c.loop-at.tables.items refl whole refl
    (false_further B at slots c.loop-at.tables.items c.loop-at.invariant c.next_first-at.result to.after to.within to.others c.in-False.slots seen.0 seen.1 seen.2 (omega (arith, whole, few)))

pub loop-at-preserved : goal.loop-at-preserved
loop-at-preserved c =
    let to = c.next_first-at-in-Nothing.ensures in
    nothing_further c.args.bytes.now c.loop-at.at c.loop-at.false_slots c.loop-at.tables.items c.loop-at.invariant c.next_first-at-in-Nothing.result to.after to.within to.others
    c.in-Nothing.ensures.0 c.in-Nothing.ensures.1

pub returns-clause-ok : goal.returns-clause-ok
returns-clause-ok c =
    let h = c.loop-at.invariant in
    all_searched c.args.bytes.now c.loop-at.at h.next c.loop-at.false_slots c.loop-at.tables.items h.searched (omega (arith, c.loop-at-test.false))

pub returns-clause-honest : goal.returns-clause-honest
returns-clause-honest c =
    let h = c.loop-at.invariant in
    all_counted c.args.bytes.now c.loop-at.at h.next c.loop-at.false_slots c.loop-at.tables.items h.searched (omega (arith, c.loop-at-test.false, h.within))
