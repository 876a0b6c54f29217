use Rattle.std.proofs.Common.{◌≡◌, ◌∙◌, ◌∷◌, ◌+◌, ◌-◌, ◌/◌, ◌%◌, ap, arith}
use Rattle.odht_tool_core.proofs.digits.put_four.Goals as goal

pub returns : goal.returns
returns c =
    let places : c.args.end - 2 - 2 ≡ c.args.end - 4 = omega arith in
    let high = rw places at c.put_pair-2.ensures in
    high ∙ ap (λ ds. (48 + c.args.four / 100 / 10) ∷ (48 + c.args.four / 100 % 10) ∷ ds) c.put_pair.ensures
