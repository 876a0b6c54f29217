use Rattle.std.proofs.Common.{ℕ, subst}
use Rattle.odht_tool_core.specs.PairLines.{AreParts}
use Rattle.odht_tool_core.specs.declared.forms.Form.{Form}
use Rattle.odht_tool_core.proofs.BytePairs.{line_added}
use Rattle.odht_tool_core.proofs.lines.add_line.Goals as goal

pub returns-in-Ok : goal.returns-in-Ok
returns-in-Ok g c =
    let key = c.in-Ok.key.now in
    let value = c.in-Ok.value.now in
    let line = c.args.line.now in
    let k = (g.F.Forms.pair c.args.forms).0 in
    let v = (g.F.Forms.pair c.args.forms).1 in
    let parts = subst (λ (f : Form). AreParts c.delimiter.result (g.P.Value.Text.wants f) line key value) c.value.ensures c.in-Ok.ensures.parts in
    let cut = subst (λ (d : ℕ). AreParts d (g.P.Value.Text.wants v) line key value) c.delimiter.ensures parts in
    line_added (g.F.Forms.delimiter c.args.forms) (g.P.Value.Text.wants v) (g.P.Key.Text.is_word k) (g.P.Key.Text.stands_for k)
    (g.P.Value.Text.is_word v) (g.P.Value.Text.stands_for v) line key value
    (g.P.Pairs.items c.args.pairs.now) (g.P.Pairs.items c.add.new.self) cut c.add.result c.add.ensures
