use Rattle.std.proofs.Common.{◌≡◌, ◌∙◌, slice_index, sym, ap}
use Rattle.std.proofs.Output.{displays_on_ok_of_eq}
use Rattle.odht_raw.specs.Words.{counts_as_free, Format, slot_key, slot_value}
use Rattle.odht_raw.specs.Parts.{EntryBytes, TableParts, entry_format}
use Rattle.odht_raw.specs.DynParts.{DynParts}
use Rattle.odht_raw.specs.Dumps.{DebugText}
use Rattle.odht_raw.proofs.lemmas.Dumps.{slot_text-occupied}
use Rattle.odht_raw.proofs.raw_table.RawTable.write_slot_line.Goals as goal

pub returns : goal.returns
returns g c =
    let F : Format = entry_format g.K.ByteArray.LEN g.V.ByteArray.LEN in
    let key_text : DebugText = λ b. g.K.Debug.debug_output (g.K.ByteArray.of_bytes b) in
    let value_text : DebugText = λ b. g.V.Debug.debug_output (g.V.ByteArray.of_bytes b) in
    let T : TableParts = c.args.self.now in
    let byte : c.control-control_byte.result ≡ slice_index T.control c.args.slot =
    c.control-control_byte.ensures ∙ ap (λ (S : DynParts). slice_index S.parts.control c.args.slot) c.parts.ensures in
    let key = c.get-key.ensures.key ∙ ap (λ (e : EntryBytes). g.K.ByteArray.of_bytes (slot_key F e.bytes c.args.slot)) c.entries.ensures in
    let value = c.get-key.ensures.value ∙ ap (λ (e : EntryBytes). g.V.ByteArray.of_bytes (slot_value F e.bytes c.args.slot)) c.entries.ensures in
    let occupied = ap counts_as_free (sym byte) ∙ sym c.is_empty_or_deleted.ensures ∙ c.if-is_empty_or_deleted.false in
    displays_on_ok_of_eq _ _ _ _ _ _ (rw (key, value, byte) (slot_text-occupied F key_text value_text T c.args.slot occupied)) c.writeln-2.ensures.writes
