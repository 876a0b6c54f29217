use Rattle.std.proofs.Common.{sym, subst}
use Rattle.std.specs.Io.KnownBytes.{Appends}
use Rattle.std.proofs.KnownBytes.{Appends-trans}
use Rattle.odht_header.specs.Coding.{coding_of}
use Rattle.odht_raw.specs.Parts.{TableParts}
use Rattle.odht_tool_core.specs.Slots.{slot_line, slots_text}
use Rattle.odht_tool_core.specs.declared.forms.Form.TheVariants.{Own}
use Rattle.odht_tool_core.proofs.Counting.{written_more}
use Rattle.odht_tool_core.proofs.slots.write_slots.Goals as goal

pub loop-slot-preserved : goal.loop-slot-preserved
loop-slot-preserved g c =
    let coding = coding_of g.C.EncodedKey.ByteArray.LEN g.C.EncodedKey.ByteArray.bytes g.C.EncodedKey.ByteArray.of_bytes
    g.C.EncodedValue.ByteArray.LEN g.C.EncodedValue.ByteArray.bytes g.C.EncodedValue.ByteArray.of_bytes
    g.C.H.HashFn.hash g.C.Config.encode_key g.C.Config.encode_value g.C.Config.decode_key g.C.Config.decode_value in
    let T : TableParts = record { control = c.data_slices-entries.result.0.now; entries = c.data_slices-entries.result.1 } in
    let f = g.C.Key.Written.text Own in
    let h = g.C.Value.Written.text Own in
    let line = slot_line coding f h T in
    let n = c.loop-slot.slot in
    let old = g.O.Write.contents c.args.output.now in
    let new = g.O.Write.contents c.write_slot.new.output in
    subst (Appends old new) (sym (written_more line n))
    (Appends-trans old (g.O.Write.contents c.loop-slot.output) new (slots_text coding f h T n) (line n) c.loop-slot.invariant c.in_ok-write_slot.ensures)
