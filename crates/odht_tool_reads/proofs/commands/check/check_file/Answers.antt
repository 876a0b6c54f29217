use Rattle.std.proofs.Common.{rules, ◌≡◌, ◌∙◌, Err, sym, ap, if◌then◌else◌}
use Rattle.std.specs.Io.KnownBytes.{Appends}
use Rattle.odht_tool_reads.specs.Outcomes.{check_of_any, check_report}
use Rattle.odht_tool_core.specs.AnyShapes.{checked_any}
use Rattle.odht_tool_core.specs.Reports.{report_as}
use Rattle.odht_tool_core.specs.declared.status.Status.TheVariants.{Done, NotDone}
use Rattle.odht_tool_reads.proofs.Shaped.{without_shape, with_shape, failed_output}
use Rattle.odht_tool_reads.proofs.commands.check.check_file.Goals as goal

pub returns-in_err-shape : goal.returns-in_err-shape
returns-in_err-shape g c =
    let j = c.args.job.now in
    let x = c.in_err-shape.field-0.0 in
    let old = g.O.Write.contents c.args.output.now in
    let failed : c.from_residual.result ≡ Err x = search rules in
    rw failed (without_shape (checked_any j.bytes.now c.args.hash) (check_of_any j.is_json j.file.now j.bytes.now j.bound) old x (sym c.in_err-shape.was ∙ c.checked_any.ensures.shape))

pub returns : goal.returns
returns g c =
    let j = c.args.job.now in
    let old = g.O.Write.contents c.args.output.now in
    let new = g.O.Write.contents c.write_report.new.output in
    let status = c.of.ensures ∙ ap (λ b. if b then Done else NotDone) c.is_ok.ensures.value in
    let written : Appends old new (report_as j.is_json (check_report j.file.now j.bound c.check_any-checked.result)) = search rules in
    with_shape (checked_any j.bytes.now c.args.hash) (check_of_any j.is_json j.file.now j.bytes.now j.bound) c.in_ok-shape.shape old new _
    (sym c.in_ok-shape.was ∙ c.checked_any.ensures.shape)
    (rw (← c.check_any-checked.ensures.first) (status, written))

pub returns-in_err-map_err : goal.returns-in_err-map_err
returns-in_err-map_err g c =
    let j = c.args.job.now in
    let old = g.O.Write.contents c.args.output.now in
    let new = g.O.Write.contents c.write_report.new.output in
    with_shape (checked_any j.bytes.now c.args.hash) (check_of_any j.is_json j.file.now j.bytes.now j.bound) c.in_ok-shape.shape old new _
    (sym c.in_ok-shape.was ∙ c.checked_any.ensures.shape)
    (failed_output _ c.from_residual-in_err-map_err.result (search rules))
