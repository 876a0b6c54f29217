use Rattle.std.proofs.Common.{rules, ◌≡◌, ◌∙◌, Err, None, Some, sym, ap}
use Rattle.odht_header.specs.Refusals.{check_refusal_by}
use Rattle.odht_header.proofs.lemmas.FirstErrors.{Ok-checked, Err-checked}
use Rattle.odht_tool_tables.specs.Wholes.{passed, whole_of}
use Rattle.odht_tool_core.specs.AnyShapes.{any_format}
use Rattle.odht_tool_tables.proofs.whole.read_whole.Goals as goal

pub returns-in_err-found-clause-whole : goal.returns-in_err-found-clause-whole
returns-in_err-found-clause-whole c =
    let x = c.in_err-found.field-0.0 in
    let failed : c.from_residual.result ≡ Err x = search rules in
    failed ∙ ap (whole_of c.args.bound c.args.bytes.now) (sym c.in_err-found.was ∙ c.read_any.ensures.forms)

pub returns-in-Ok-clause-whole : goal.returns-in-Ok-clause-whole
returns-in-Ok-clause-whole c =
    let found = c.in_ok-found.found in
    let none : check_refusal_by (any_format found.0) c.args.bound c.args.bytes.now ≡ None = Ok-checked _ (sym c.in-Ok.is ∙ c.check_any.ensures.first) in
    ap (passed found) (sym none) ∙ ap (whole_of c.args.bound c.args.bytes.now) (sym c.in_ok-found.was ∙ c.read_any.ensures.forms)

pub returns-in-Err-clause-whole : goal.returns-in-Err-clause-whole
returns-in-Err-clause-whole c =
    let found = c.in_ok-found.found in
    let some : check_refusal_by (any_format found.0) c.args.bound c.args.bytes.now ≡ Some c.in-Err.error = Err-checked _ c.in-Err.error (sym c.in-Err.is ∙ c.check_any.ensures.first) in
    ap (passed found) (sym some) ∙ ap (whole_of c.args.bound c.args.bytes.now) (sym c.in_ok-found.was ∙ c.read_any.ensures.forms)
