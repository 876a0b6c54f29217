use Rattle.std.proofs.Common.{◌∙◌, OnOk, ap, subst, w32, w64}
use Rattle.std.specs.Int.{from_le_bytes}
use Rattle.std.specs.Io.KnownBytes.{Appends}
use Rattle.odht_tool_core.specs.Forms.{number_text}
use Rattle.odht_tool_core.proofs.typed.write_stored.Goals as goal

pub returns-in-U32 : goal.returns-in-U32
returns-in-U32 g c =
    rw c.in-U32.is (subst (λ n. OnOk c.write.result (Appends (g.W.Write.contents c.args.output.now) (g.W.Write.contents c.write.new.output) (number_text w32 c.args.form n)))
    (c.from_le_bytes.ensures ∙ ap (from_le_bytes w32) c.from_slice.ensures) c.write.ensures)

pub returns-in-U64 : goal.returns-in-U64
returns-in-U64 g c =
    rw c.in-U64.is (subst (λ n. OnOk c.write-in-U64.result (Appends (g.W.Write.contents c.args.output.now) (g.W.Write.contents c.write-in-U64.new.output) (number_text w64 c.args.form n)))
    (c.from_le_bytes-in-U64.ensures ∙ ap (from_le_bytes w64) c.from_slice-in-U64.ensures) c.write-in-U64.ensures)

pub returns-in-Bytes : goal.returns-in-Bytes
returns-in-Bytes g c = rw c.in-Bytes.is c.write_stored_bytes.ensures
