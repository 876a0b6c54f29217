use Rattle.std.proofs.Common.{sym, subst}
use Rattle.std.specs.Io.KnownBytes.{Appends}
use Rattle.std.proofs.KnownBytes.{Appends-trans}
use Rattle.odht_raw.specs.DynParts.{parts_format}
use Rattle.odht_tool_core.specs.DumpTexts.{slot_as, slots_as}
use Rattle.odht_tool_core.proofs.Counting.{written_more}
use Rattle.odht_tool_core.proofs.dynamic_slots.write_slots.Goals as goal

pub loop-slot-preserved : goal.loop-slot-preserved
loop-slot-preserved g c =
    let S = c.args.table.now in
    let F = parts_format S g.H.HashFn.hash in
    let line = slot_as c.args.is_json F c.args.texts S.parts in
    let n = c.loop-slot.slot in
    let old = g.O.Write.contents c.args.output.now in
    let new = g.O.Write.contents c.write_dynamic_slot.new.output in
    subst (Appends old new) (sym (written_more line n))
    (Appends-trans old (g.O.Write.contents c.loop-slot.output) new (slots_as c.args.is_json F c.args.texts S.parts n) (line n) c.loop-slot.invariant c.in_ok-write_dynamic_slot.ensures)
