use Rattle.std.proofs.Common.{◌∙◌, sym}
use Rattle.odht_header.proofs.lemmas.FirstErrors.{Ok-checked, Err-checked}
use Rattle.odht_tool_core.specs.JsonAnswers.{printed_as}
use Rattle.odht_tool_reads.specs.Bounds.{bound_refusal}
use Rattle.odht_tool_reads.specs.GetLines.{AreFileLinesGot}
use Rattle.odht_tool_reads.proofs.Bounded.{within_bound, past_bound}
use Rattle.odht_tool_reads.proofs.commands.get.get_file_lines.Goals as goal

pub returns-in-Ok : goal.returns-in-Ok
returns-in-Ok g c =
    let j = c.args.job.now in
    let old = g.O.Write.contents c.args.output.now in
    let new = g.O.Write.contents c.get_lines_of_file.new.output in
    let r = c.get_lines_of_file.result in
    let e = bound_refusal j.bytes.now j.bound in
    within_bound e (Ok-checked e (sym c.in-Ok.is ∙ c.check_bound.ensures)) old new r
    (AreFileLinesGot j.bytes.now c.args.hash c.args.kinds (printed_as j.is_json j.is_values) c.args.coming (g.I.Read.remaining c.args.input.now) old new r) c.get_lines_of_file.ensures

pub returns-in-Err : goal.returns-in-Err
returns-in-Err g c =
    let j = c.args.job.now in
    let old = g.O.Write.contents c.args.output.now in
    let e = bound_refusal j.bytes.now j.bound in
    past_bound e c.in-Err.error (Err-checked e c.in-Err.error (sym c.in-Err.is ∙ c.check_bound.ensures)) old _
