use Rattle.std.proofs.Common.{arith, ◌*◌}
use Rattle.odht_base.specs.Bytes.{bytes_at}
use Rattle.odht_tool_core.specs.InfoNumbers.{file_parts}
use Rattle.odht_tool_reads.proofs.FileReads.{left_fx, left_unhash, left_xxh64, more_excluded, none_left}
use Rattle.odht_tool_reads.proofs.positions.names.left_hash.Goals as goal

pub loop-group-preserved : goal.loop-group-preserved
loop-group-preserved g c B h is =
    more_excluded B c.args.start.now c.in-Some.place (c.loop-group.group * 16) c.loop-group.left c.in-Some-group_fits.fitting c.and-left.result is c.in-Some.ensures.place c.in-Some.ensures.long
    (omega (arith, c.loop-group-test.true, c.min-group-end.ensures)) (c.in-Some-group_fits.ensures.given B h) c.and-left.ensures.fx c.and-left.ensures.unhash c.and-left.ensures.xxh64 (c.loop-group.invariant B h is)

pub returns-in-true-false-false-clause-given : goal.returns-in-true-false-false-clause-given
returns-in-true-false-false-clause-given g c B h is opened =
    left_fx (file_parts (bytes_at B c.args.start.now.at c.args.start.now.len)) c.and-left.result.fx c.and-left.result.unhash c.and-left.result.xxh64
    (more_excluded B c.args.start.now c.in-Some.place (c.loop-group.group * 16) c.loop-group.left c.in-Some-group_fits.fitting c.and-left.result is c.in-Some.ensures.place c.in-Some.ensures.long
    (omega (arith, c.loop-group-test.true, c.min-group-end.ensures)) (c.in-Some-group_fits.ensures.given B h) c.and-left.ensures.fx c.and-left.ensures.unhash c.and-left.ensures.xxh64 (c.loop-group.invariant B h is))
    c.in-true-false-false.is-1 c.in-true-false-false.is-2

pub returns-in-false-true-false-clause-given : goal.returns-in-false-true-false-clause-given
returns-in-false-true-false-clause-given g c B h is opened =
    left_unhash (file_parts (bytes_at B c.args.start.now.at c.args.start.now.len)) c.and-left.result.fx c.and-left.result.unhash c.and-left.result.xxh64
    (more_excluded B c.args.start.now c.in-Some.place (c.loop-group.group * 16) c.loop-group.left c.in-Some-group_fits.fitting c.and-left.result is c.in-Some.ensures.place c.in-Some.ensures.long
    (omega (arith, c.loop-group-test.true, c.min-group-end.ensures)) (c.in-Some-group_fits.ensures.given B h) c.and-left.ensures.fx c.and-left.ensures.unhash c.and-left.ensures.xxh64 (c.loop-group.invariant B h is))
    c.in-false-true-false.is-0 c.in-false-true-false.is-2

pub returns-in-false-false-true-clause-given : goal.returns-in-false-false-true-clause-given
returns-in-false-false-true-clause-given g c B h is opened =
    left_xxh64 (file_parts (bytes_at B c.args.start.now.at c.args.start.now.len)) c.and-left.result.fx c.and-left.result.unhash c.and-left.result.xxh64
    (more_excluded B c.args.start.now c.in-Some.place (c.loop-group.group * 16) c.loop-group.left c.in-Some-group_fits.fitting c.and-left.result is c.in-Some.ensures.place c.in-Some.ensures.long
    (omega (arith, c.loop-group-test.true, c.min-group-end.ensures)) (c.in-Some-group_fits.ensures.given B h) c.and-left.ensures.fx c.and-left.ensures.unhash c.and-left.ensures.xxh64 (c.loop-group.invariant B h is))
    c.in-false-false-true.is-0 c.in-false-false-true.is-1

-- each is excluded
pub returns-in-false-false-false-clause-unfit : goal.returns-in-false-false-false-clause-unfit
returns-in-false-false-false-clause-unfit g c B h is =
    none_left B c.args.start.now is c.requires.long (c.in-Some.ensures.opens B is c.requires.long) c.and-left.result.fx c.and-left.result.unhash c.and-left.result.xxh64
    (more_excluded B c.args.start.now c.in-Some.place (c.loop-group.group * 16) c.loop-group.left c.in-Some-group_fits.fitting c.and-left.result is c.in-Some.ensures.place c.in-Some.ensures.long
    (omega (arith, c.loop-group-test.true, c.min-group-end.ensures)) (c.in-Some-group_fits.ensures.given B h) c.and-left.ensures.fx c.and-left.ensures.unhash c.and-left.ensures.xxh64 (c.loop-group.invariant B h is))
    c.in-false-false-false.is-0 c.in-false-false-false.is-1 c.in-false-false-false.is-2 c.no_hash.result c.no_hash.ensures
