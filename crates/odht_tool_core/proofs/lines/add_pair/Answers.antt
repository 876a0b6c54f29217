use Rattle.std.proofs.Common.{ℕ, List, rules, subst}
use Rattle.odht_tool_core.specs.Keys.{IsReadAs}
use Rattle.odht_tool_core.specs.PairLines.{IsPairOf}
use Rattle.odht_tool_core.proofs.lines.add_pair.Goals as goal

-- the pair of the next line
pub returns-in-Pair : goal.returns-in-Pair
returns-in-Pair g c =
    let k = (g.F.Forms.pair c.args.forms).0 in
    let v = (g.F.Forms.pair c.args.forms).1 in
    let pair = c.in-Pair.ensures.0 in
    let is = subst (λ (line : List ℕ). IsPairOf (g.F.Forms.delimiter c.args.forms) (g.P.Value.Text.wants v) (IsReadAs (g.P.Key.Text.is_word k) (g.P.Key.Text.stands_for k)) (IsReadAs (g.P.Value.Text.is_word v) (g.P.Value.Text.stands_for v)) line pair)
    c.as_slice.ensures.value c.in-Pair.ensures.2 in
    (pair, c.in-Pair.ensures.1, (search rules, is))
