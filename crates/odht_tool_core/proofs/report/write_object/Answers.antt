use Rattle.odht_tool_core.proofs.Reports.{member_written, object_ended, empty_ended}
use Rattle.odht_tool_core.proofs.report.write_object.Goals as goal

pub loop-field-preserved : goal.loop-field-preserved
loop-field-preserved g c =
    member_written _ _ _ c.loop-field.mark c.args.report.now c.loop-field.field-index _ c.loop-field-test.true c.loop-field.invariant c.in_ok-write_member.ensures

pub returns-then-mark-eq123 : goal.returns-then-mark-eq123
returns-then-mark-eq123 g c =
    empty_ended c.write_all.result _ _ _ c.loop-field.mark c.args.report.now c.loop-field.field-index c.loop-field-test.false c.loop-field.invariant c.if-mark-eq123.true c.write_all.ensures.bytes

pub returns : goal.returns
returns g c =
    object_ended c.write_all-2.result _ _ _ c.loop-field.mark c.args.report.now c.loop-field.field-index c.loop-field-test.false c.loop-field.invariant c.if-mark-eq123.false c.write_all-2.ensures.bytes
