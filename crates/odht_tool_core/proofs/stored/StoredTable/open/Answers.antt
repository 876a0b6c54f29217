use Rattle.std.proofs.Common.{rules, ◌≡◌, ◌∙◌, Err, sym, ap}
use Rattle.std.specs.Result.{result_err}
use Rattle.odht_raw.proofs.lemmas.Openings.{opening_refusal-short}
use Rattle.odht_tool_core.specs.InfoNumbers.{format_by}
use Rattle.odht_tool_core.specs.declared.shapes.Hash.TheVariants.{Fx}
use Rattle.odht_tool_core.proofs.stored.StoredTable.open.Goals as goal

pub returns-in_err-layout-clause-err : goal.returns-in_err-layout-clause-err
returns-in_err-layout-clause-err c =
    let B = c.args.bytes.now in
    let failed : c.from_residual.result ≡ Err c.in_err-layout.field-0.0 = search rules in
    ap result_err failed ∙ ap result_err c.in_err-layout.ensures.err ∙ sym (opening_refusal-short (format_by B Fx) B c.in_err-layout.ensures.short)
