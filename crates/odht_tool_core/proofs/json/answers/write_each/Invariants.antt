use Rattle.std.proofs.Common.{take}
use Rattle.std.specs.Io.KnownBytes.{Appends}
use Rattle.odht_tool_core.specs.JsonAnswers.{answer_in}
use Rattle.odht_tool_core.specs.Texts.{answers_by}
use Rattle.odht_tool_core.proofs.json.answers.write_each.Given as goal

-- the lines of the keys so far are written
abbrev pub invariant-loop-at : goal.invariant-loop-at
invariant-loop-at g l = Appends (g.O.Write.contents l.initial.output) (g.O.Write.contents l.output)
    (answers_by (answer_in l.style.printed (g.K.Written.text (g.F.Forms.pair l.style.forms).0) (g.V.Written.text (g.F.Forms.pair l.style.forms).1)) (take l.at l.keys) (take l.at l.values))
