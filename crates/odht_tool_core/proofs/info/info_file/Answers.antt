use Rattle.std.proofs.Common.{refl, subst}
use Rattle.std.specs.Io.KnownBytes.{Appends}
use Rattle.odht_tool_core.specs.Reports.{report_as}
use Rattle.odht_tool_core.proofs.info.info_file.Goals as goal

-- what is written is the report of the numbers
pub returns-in-Ok : goal.returns-in-Ok
returns-in-Ok g c =
    let old = g.O.Write.contents c.args.output.now in
    let new = g.O.Write.contents c.write_report.new.output in
    let written = subst (λ told. Appends old new (report_as c.args.job.now.is_json told)) c.report_of-report.ensures c.in-Ok.ensures in
    (refl, (c.in_ok-numbers.numbers, c.in_ok-numbers.ensures.ok, written))
