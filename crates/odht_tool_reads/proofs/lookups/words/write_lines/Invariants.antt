use Rattle.std.proofs.Common.{map, take}
use Rattle.std.specs.Io.KnownBytes.{Appends}
use Rattle.std.specs.Prelude.{string_bytes}
use Rattle.odht_tool_core.specs.JsonAnswers.{answer_in, no_key_line}
use Rattle.odht_tool_core.specs.DynTexts.{dynamic_text}
use Rattle.odht_tool_reads.specs.Gets.{word_lines}
use Rattle.odht_tool_reads.proofs.lookups.words.write_lines.Given as goal

-- the lines of the words so far are written
abbrev pub invariant-loop-at : goal.invariant-loop-at
invariant-loop-at g l = Appends (g.O.Write.contents l.initial.output) (g.O.Write.contents l.output)
    (word_lines (answer_in l.style.printed (dynamic_text l.style.forms.key) (dynamic_text l.style.forms.value)) (no_key_line l.style.printed) (map string_bytes (take l.at l.words)) (take l.at l.answers))
