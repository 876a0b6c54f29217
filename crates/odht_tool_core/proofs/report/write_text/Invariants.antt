use Rattle.std.proofs.Common.{map, take}
use Rattle.std.specs.Io.KnownBytes.{Appends}
use Rattle.odht_tool_core.specs.Reports.{report_text, told}
use Rattle.odht_tool_core.proofs.report.write_text.Given as goal

-- the fields so far are written
abbrev pub invariant-loop-field : goal.invariant-loop-field
invariant-loop-field g l = Appends (g.O.Write.contents l.initial.output) (g.O.Write.contents l.output) (report_text (map told (take l.field-index l.report)))
