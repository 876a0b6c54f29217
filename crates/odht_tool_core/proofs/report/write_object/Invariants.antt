use Rattle.std.proofs.Common.{◌≡◌, map, take}
use Rattle.std.specs.Io.KnownBytes.{Appends}
use Rattle.odht_tool_core.specs.Reports.{member, told}
use Rattle.odht_tool_core.proofs.Reports.{begun, mark_after}
use Rattle.odht_tool_core.proofs.report.write_object.Given as goal

-- the fields so far are written, and a comma comes behind the first
abbrev pub invariant-loop-field : goal.invariant-loop-field
invariant-loop-field g l =
    let xs = map member (map told (take l.field-index l.report)) in
    Appends (g.O.Write.contents l.initial.output) (g.O.Write.contents l.output) (begun xs) × (l.mark ≡ mark_after xs)
