use Rattle.std.proofs.Common.{map}
use Rattle.odht_tool_core.specs.DynTexts.{IsDynamicOf}
use Rattle.odht_tool_writes.proofs.KeyLines.{AreLinesRead}
use Rattle.odht_tool_writes.proofs.commands.delete_lines.read_lines.Given as goal

-- the lines so far were read as these keys
abbrev pub invariant-loop-number : goal.invariant-loop-number
invariant-loop-number g l =
    AreLinesRead (IsDynamicOf l.form) (g.I.Read.remaining l.fn.input) (g.I.Read.remaining l.input) l.number
    (map (λ line. line.items) l.lines.items) l.keys
