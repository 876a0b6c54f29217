use Rattle.std.specs.Io.KnownBytes.{Appends}
use Rattle.odht_header.specs.Coding.{coding_of}
use Rattle.odht_tool_core.specs.Slots.{slots_text}
use Rattle.odht_tool_core.specs.declared.forms.Form.TheVariants.{Own}
use Rattle.odht_tool_core.proofs.slots.write_slots.Given as goal

-- the lines of the slots so far are written
abbrev pub invariant-loop-slot : goal.invariant-loop-slot
invariant-loop-slot g l =
    let c = coding_of g.C.EncodedKey.ByteArray.LEN g.C.EncodedKey.ByteArray.bytes g.C.EncodedKey.ByteArray.of_bytes
    g.C.EncodedValue.ByteArray.LEN g.C.EncodedValue.ByteArray.bytes g.C.EncodedValue.ByteArray.of_bytes
    g.C.H.HashFn.hash g.C.Config.encode_key g.C.Config.encode_value g.C.Config.decode_key g.C.Config.decode_value in
    Appends (g.O.Write.contents l.initial.output) (g.O.Write.contents l.output)
    (slots_text c (g.C.Key.Written.text Own) (g.C.Value.Written.text Own) (record { control = l.control; entries = l.entries }) l.slot)
