use Rattle.std.proofs.Common.{sym, subst}
use Rattle.odht_tool_core.specs.declared.forms.Form.{Form}
use Rattle.odht_tool_core.specs.declared.json.answers.Printed.{Printed}
use Rattle.odht_tool_reads.specs.GetLines.{lines_of_shape}
use Rattle.odht_tool_reads.proofs.Shaped.{own_pair}
use Rattle.odht_tool_reads.proofs.commands.get.get_lines_ready.Goals as goal

pub returns-then-are_own : goal.returns-then-are_own
returns-then-are_own g c =
    let own = own_pair c.args.forms (c.are_own.ensures.key c.if-are_own.true) (c.are_own.ensures.value c.if-are_own.true) in
    let said = λ (fs : Form × Form) (p : Printed). lines_of_shape fs p c.args.coming c.args.job.now.bytes.now (g.I.Read.remaining c.args.input.now) (g.O.Write.contents c.args.output.now) (g.O.Write.contents c.get_lines_of.new.output) c.get_lines_of.result c.args.shape in
    subst (λ (p : Printed). said (c.args.forms.key, c.args.forms.value) p) c.printed-printed.ensures (subst (λ (fs : Form × Form). said fs c.printed-printed.result) (sym own) c.get_lines_of.ensures)

pub returns-else-are_own : goal.returns-else-are_own
returns-else-are_own g c =
    subst (λ (p : Printed). lines_of_shape (c.args.forms.key, c.args.forms.value) p c.args.coming c.args.job.now.bytes.now (g.I.Read.remaining c.args.input.now) (g.O.Write.contents c.args.output.now) (g.O.Write.contents c.get_lines_of-else-are_own.new.output) c.get_lines_of-else-are_own.result c.args.shape)
    c.printed-printed.ensures c.get_lines_of-else-are_own.ensures
