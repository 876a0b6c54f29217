use Rattle.std.proofs.Common.{length, ◌<◌}
use Rattle.odht_tool_core.specs.JsonAnswers.{answer_in}
use Rattle.odht_tool_core.specs.Keys.{IsReadAs}
use Rattle.odht_tool_reads.specs.declared.lookups.TheConstants.{BATCH}
use Rattle.odht_tool_reads.proofs.LinesTaken.{AreTaken}
use Rattle.odht_tool_reads.proofs.lookups.answer_lines.Given as goal

-- the lines so far were read as keys, of which those that are kept, fewer than a batch, are not answered yet
abbrev pub invariant-loop-number : goal.invariant-loop-number
invariant-loop-number g l =
    let c = g.T.Lookups.coding l.table in
    AreTaken c (answer_in l.fn.style.answers.printed (g.T.Keys.Key.Written.text (g.F.Forms.pair l.fn.style.answers.forms).0) (g.T.Value.Written.text (g.F.Forms.pair l.fn.style.answers.forms).1)) (IsReadAs (g.T.Keys.Key.Text.is_word (g.F.Forms.pair l.fn.style.answers.forms).0) (g.T.Keys.Key.Text.stands_for (g.F.Forms.pair l.fn.style.answers.forms).0)) (g.T.Lookups.bytes l.table) l.fn.style.coming
    (g.I.Read.remaining l.fn.input) (g.I.Read.remaining l.input) (g.O.Write.contents l.fn.output) (g.O.Write.contents l.output) l.number (g.T.Keys.Keys.items l.keys) l.is_all_found × (length (g.T.Keys.Keys.items l.keys) < BATCH)
