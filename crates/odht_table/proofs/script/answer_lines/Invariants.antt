use Rattle.std.proofs.Common.{length}
use Rattle.odht_table.proofs.Puts.{my_coding}
use Rattle.odht_table.proofs.ScriptTexts.{IsAnsweredUpTo}
use Rattle.odht_table.proofs.script.answer_lines.Given as goal

-- the script is answered up to the rest
abbrev pub invariant-loop-rest : goal.invariant-loop-rest
invariant-loop-rest g l = IsAnsweredUpTo my_coding l.fn.script l.rest l.table (g.W.Write.contents l.initial.output) (g.W.Write.contents l.output)

abbrev pub decreases-loop-rest : goal.decreases-loop-rest
decreases-loop-rest g l = length l.rest
