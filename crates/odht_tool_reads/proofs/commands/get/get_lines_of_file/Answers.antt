use Rattle.std.proofs.Common.{rules, ◌≡◌, ◌∙◌, Err, sym, subst}
use Rattle.std.specs.Io.KnownBytes.{Keeps}
use Rattle.odht_tool_reads.specs.GetLines.{lines_of_any, lines_of_forms}
use Rattle.odht_tool_core.specs.AnyShapes.{read_any}
use Rattle.odht_tool_core.specs.JsonAnswers.{printed_as}
use Rattle.odht_tool_reads.proofs.Shaped.{without_shape_said, with_shape_said}
use Rattle.odht_tool_reads.proofs.commands.get.get_lines_of_file.Goals as goal

pub returns-in_err-found : goal.returns-in_err-found
returns-in_err-found g c =
    let B = c.args.job.now.bytes.now in
    let x = c.in_err-found.field-0.0 in
    let old = g.O.Write.contents c.args.output.now in
    let failed : c.from_residual.result ≡ Err x = search rules in
    rw failed (without_shape_said (read_any B c.args.hash c.args.kinds) x old (lines_of_forms (printed_as c.args.job.now.is_json c.args.job.now.is_values) c.args.coming B (g.I.Read.remaining c.args.input.now) old old (Err x)) (sym c.in_err-found.was ∙ c.read_any.ensures.forms))

pub returns-in-Ready : goal.returns-in-Ready
returns-in-Ready g c =
    let B = c.args.job.now.bytes.now in
    let old = g.O.Write.contents c.args.output.now in
    let new = g.O.Write.contents c.get_lines_ready.new.output in
    let r = c.get_lines_ready.result in
    let found = c.in_ok-found.found in
    with_shape_said (read_any B c.args.hash c.args.kinds) found (lines_of_forms (printed_as c.args.job.now.is_json c.args.job.now.is_values) c.args.coming B (g.I.Read.remaining c.args.input.now) old new r) (λ x. (r ≡ Err x) × Keeps old new)
    (sym c.in_ok-found.was ∙ c.read_any.ensures.forms)
    (subst (lines_of_any (found.1.key, found.1.value) (printed_as c.args.job.now.is_json c.args.job.now.is_values) c.args.coming B (g.I.Read.remaining c.args.input.now) old new r) (sym c.in-Ready.is) c.get_lines_ready.ensures)

pub returns-in-Other : goal.returns-in-Other
returns-in-Other g c =
    let B = c.args.job.now.bytes.now in
    let old = g.O.Write.contents c.args.output.now in
    let new = g.O.Write.contents c.get_lines_dynamic.new.output in
    let r = c.get_lines_dynamic.result in
    let found = c.in_ok-found.found in
    with_shape_said (read_any B c.args.hash c.args.kinds) found (lines_of_forms (printed_as c.args.job.now.is_json c.args.job.now.is_values) c.args.coming B (g.I.Read.remaining c.args.input.now) old new r) (λ x. (r ≡ Err x) × Keeps old new)
    (sym c.in_ok-found.was ∙ c.read_any.ensures.forms)
    (subst (lines_of_any (found.1.key, found.1.value) (printed_as c.args.job.now.is_json c.args.job.now.is_values) c.args.coming B (g.I.Read.remaining c.args.input.now) old new r) (sym c.in-Other.is) c.get_lines_dynamic.ensures)
