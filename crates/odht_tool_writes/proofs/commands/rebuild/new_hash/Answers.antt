use Rattle.std.proofs.Common.{rules, ◌≡◌, ◌∙◌, Err, Ok, sym, ap}
use Rattle.std.specs.Result.{result_map_both}
use Rattle.odht_tool_writes.specs.Rebuilds.{new_hash}
use Rattle.odht_tool_core.specs.AnyShapes.{any_hash}
use Rattle.odht_tool_writes.proofs.commands.rebuild.new_hash.Goals as goal

pub returns-in_err-named_any-in-Some : goal.returns-in_err-named_any-in-Some
returns-in_err-named_any-in-Some c =
    let x = c.in_err-named_any-in-Some.field-0.0 in
    let failed : c.from_residual.result ≡ Err x = search rules in
    failed ∙ ap (result_map_both any_hash (λ failure. failure)) (sym c.in_err-named_any-in-Some.was ∙ c.named_any.ensures.shape)
    ∙ ap (new_hash c.args.bytes.now c.args.shape) (sym c.in-Some.is)

pub returns-in_ok-named_any-in-Some : goal.returns-in_ok-named_any-in-Some
returns-in_ok-named_any-in-Some c =
    ap Ok c.hash-in-Some.ensures
    ∙ ap (result_map_both any_hash (λ failure. failure)) (sym c.in_ok-named_any-in-Some.was ∙ c.named_any.ensures.shape)
    ∙ ap (new_hash c.args.bytes.now c.args.shape) (sym c.in-Some.is)
