use Rattle.std.specs.Io.KnownBytes.{Appends}
use Rattle.odht_raw.specs.DynParts.{parts_format}
use Rattle.odht_tool_core.specs.DumpTexts.{slots_as}
use Rattle.odht_tool_core.proofs.dynamic_slots.write_slots.Given as goal

-- the lines of the slots so far are written
abbrev pub invariant-loop-slot : goal.invariant-loop-slot
invariant-loop-slot g l =
    Appends (g.O.Write.contents l.initial.output) (g.O.Write.contents l.output)
    (slots_as l.is_json (parts_format l.table g.H.HashFn.hash) l.texts l.table.parts l.slot)
