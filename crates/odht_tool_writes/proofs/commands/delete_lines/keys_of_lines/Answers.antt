use Rattle.std.proofs.Common.{map, IfOk, subst, ◌∙◌, ap}
use Rattle.std.specs.Prelude.{IfErr}
use Rattle.odht_tool_core.specs.Forms.{bytes_form}
use Rattle.odht_tool_core.specs.DynTexts.{IsDynamicOf, dynamic_wanted}
use Rattle.odht_tool_core.specs.declared.forms.Form.{Form}
use Rattle.odht_tool_writes.specs.DeleteLines.{AreLinesKeys, TellsLine, are_lines_keys, is_line_fault}
use Rattle.odht_tool_writes.proofs.KeyLines.{either}
use Rattle.odht_tool_writes.proofs.commands.delete_lines.keys_of_lines.Goals as goal

pub returns : goal.returns
returns g c =
    let of = c.of.ensures ∙ ap (bytes_form c.args.form) c.key-key.ensures in
    let input = g.I.Read.remaining c.args.input.now in
    let r = c.read_lines.result in
    either r (λ x. are_lines_keys c.args.form input (map (λ line. line.items) x.lines.items) c.args.shape x.keys)
    (is_line_fault c.args.form input c.args.shape)
    (subst (λ (f : Form). IfOk r (λ x. AreLinesKeys (IsDynamicOf f) input (map (λ line. line.items) x.lines.items) x.keys)) of c.read_lines.ensures.ok)
    (subst (λ (f : Form). IfErr r (TellsLine (IsDynamicOf f) (dynamic_wanted f) input)) of c.read_lines.ensures.err)
