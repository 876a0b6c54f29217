use Rattle.std.proofs.Common.{refl, []}
use Rattle.odht_tool_core.proofs.LineEnds.{next_line}
use Rattle.odht_tool_core.proofs.lines.read_line.Goals as goal

pub returns-clause-line : goal.returns-clause-line
returns-clause-line g c =
    let taken = c.in_ok-read_through.ensures.line c.if-not-branch.false in
    λ t. next_line (g.R.Read.remaining c.args.reader.now) (g.R.Read.remaining c.read_through.new.reader) [] c.read_through.new.line.items c.drop_end.new.line.items refl taken.0 taken.1 taken.2 c.drop_end.ensures
