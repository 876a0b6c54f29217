use Rattle.std.proofs.Common.{List, ℕ, [], true}
use Rattle.odht.specs.Files.{file_coding}
use Rattle.odht_tool_core.specs.DynTexts.{IsDynamicOf, dynamic_text}
use Rattle.odht_tool_core.specs.JsonAnswers.{answer_in}
use Rattle.odht_tool_reads.specs.GetLines.{all_lines}
use Rattle.odht_tool_reads.specs.Positions.{IsTableAt}
use Rattle.odht_tool_reads.proofs.LinesTaken.{AreTaken}
use Rattle.odht_tool_reads.proofs.positions.lines.answer_lines_at.Given as goal

-- the lines so far were read as keys, and answered
abbrev pub invariant-loop-number : goal.invariant-loop-number
invariant-loop-number g l =
    let f = l.style.forms in
    (B : List ℕ) → IsTableAt g.S.ReadAt.gives g.H.HashFn.hash l.table.key_len l.table.value_len l.table B
    → AreTaken (file_coding l.table g.H.HashFn.hash) (answer_in l.style.printed (dynamic_text f.key) (dynamic_text f.value)) (IsDynamicOf f.key) B (all_lines true)
    (g.I.Read.remaining l.fn.input) (g.I.Read.remaining l.input) (g.O.Write.contents l.fn.output) (g.O.Write.contents l.output) l.number [] l.is_all_found
