use Rattle.std.proofs.Common.{rules, ◌≡◌, ◌∙◌, Err, map, sym, subst}
use Rattle.std.specs.Prelude.{string_bytes}
use Rattle.std.specs.Io.KnownBytes.{Keeps}
use Rattle.odht_tool_reads.specs.Gets.{words_of_types, words_of_forms}
use Rattle.odht_tool_core.specs.AnyShapes.{read_any}
use Rattle.odht_tool_core.specs.JsonAnswers.{printed_as}
use Rattle.odht_tool_reads.proofs.Shaped.{without_shape_said, with_shape_said}
use Rattle.odht_tool_reads.proofs.commands.get.get_words.Goals as goal

pub returns-in_err-found : goal.returns-in_err-found
returns-in_err-found g c =
    let B = c.args.job.now.bytes.now in
    let x = c.in_err-found.field-0.0 in
    let old = g.O.Write.contents c.args.output.now in
    let failed : c.from_residual.result ≡ Err x = search rules in
    rw failed (without_shape_said (read_any B c.args.hash c.args.kinds) x old (words_of_forms (printed_as c.args.job.now.is_json c.args.job.now.is_values) B (map string_bytes c.args.words.now) old old (Err x)) (sym c.in_err-found.was ∙ c.read_any.ensures.forms))

pub returns : goal.returns
returns g c =
    let B = c.args.job.now.bytes.now in
    let old = g.O.Write.contents c.args.output.now in
    let new = g.O.Write.contents c.get_words_dynamic.new.output in
    let r = c.get_words_dynamic.result in
    let found = c.in_ok-found.found in
    with_shape_said (read_any B c.args.hash c.args.kinds) found (words_of_forms (printed_as c.args.job.now.is_json c.args.job.now.is_values) B (map string_bytes c.args.words.now) old new r) (λ x. (r ≡ Err x) × Keeps old new)
    (sym c.in_ok-found.was ∙ c.read_any.ensures.forms)
    (subst (words_of_types (found.1.key, found.1.value) (printed_as c.args.job.now.is_json c.args.job.now.is_values) B (map string_bytes c.args.words.now) old new r) c.types.ensures c.get_words_dynamic.ensures)
