use Rattle.std.proofs.Common.{◌∙◌, ◌-◌, length, take, drop, sym, ap}
use Rattle.odht_tool_core.specs.Fronts.{front_refusal}
use Rattle.odht_tool_core.specs.InfoNumbers.{info_refusal}
use Rattle.odht_tool_core.proofs.Fronts.{same_error, front_opens, rest_is}
use Rattle.odht_tool_core.proofs.front.table_at.Goals as goal

pub returns-in-Ok-clause-opens : goal.returns-in-Ok-clause-opens
returns-in-Ok-clause-opens c =
    let B = c.args.bytes.now in
    let rest = take (length B - c.args.offset) (drop c.args.offset B) in
    ap info_refusal c.in-Ok.ensures.table ∙ front_opens rest (sym c.in-Ok.ensures.err) ∙ c.in-Ok.ensures.err
    ∙ ap front_refusal (rest_is B c.args.offset)

pub returns-in-Err-clause-opens : goal.returns-in-Err-clause-opens
returns-in-Err-clause-opens c =
    let B = c.args.bytes.now in
    let rest = take (length B - c.args.offset) (drop c.args.offset B) in
    same_error rest c.in-Err.field-0 (sym c.in-Err.ensures.err) ∙ c.in-Err.ensures.err ∙ ap front_refusal (rest_is B c.args.offset)
