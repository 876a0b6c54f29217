use Rattle.std.proofs.Common.{◌∙◌, true, sym}
use Rattle.odht_header.proofs.lemmas.FirstErrors.{Ok-checked, Err-checked}
use Rattle.odht_tool_reads.specs.Bounds.{bound_refusal}
use Rattle.odht_tool_reads.specs.Outcomes.{dump_outcome}
use Rattle.odht_tool_reads.proofs.Bounded.{done_within, failed_past}
use Rattle.odht_tool_reads.proofs.commands.dump.dump_slots.Goals as goal

pub returns-in-Ok : goal.returns-in-Ok
returns-in-Ok g c =
    let B = c.args.bytes.now in
    let old = g.O.Write.contents c.args.output.now in
    let new = g.O.Write.contents c.dump_file.new.output in
    let e = bound_refusal B c.args.bound in
    done_within e (Ok-checked e (sym c.in-Ok.is ∙ c.check_bound.ensures)) (dump_outcome B c.args.hash c.args.kinds true c.args.is_json) old new c.dump_file.result c.dump_file.ensures

pub returns-in-Err : goal.returns-in-Err
returns-in-Err g c =
    let B = c.args.bytes.now in
    let old = g.O.Write.contents c.args.output.now in
    let e = bound_refusal B c.args.bound in
    failed_past e c.in-Err.error (Err-checked e c.in-Err.error (sym c.in-Err.is ∙ c.check_bound.ensures)) (dump_outcome B c.args.hash c.args.kinds true c.args.is_json) old
