use Rattle.std.proofs.Common.{take}
use Rattle.std.specs.Io.KnownBytes.{Appends}
use Rattle.odht_tool_core.specs.Texts.{answers_text}
use Rattle.odht_tool_core.proofs.answers.write_answers_as.Given as goal

-- the lines of the keys so far are written
abbrev pub invariant-loop-at : goal.invariant-loop-at
invariant-loop-at g l = Appends (g.O.Write.contents l.initial.output) (g.O.Write.contents l.output)
    (answers_text (g.K.Written.text (g.F.Forms.pair l.forms).0) (g.V.Written.text (g.F.Forms.pair l.forms).1) (take l.at l.keys) (take l.at l.values))
