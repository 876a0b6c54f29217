use Rattle.std.proofs.Common.{◌≡◌, ◌∙◌, ◌-◌, length, subst, ap}
use Rattle.std.specs.Fmt.{DisplaysOnOk}
use Rattle.odht_raw.specs.Parts.{TableParts, entry_format}
use Rattle.odht_raw.specs.Dumps.{dump_text}
use Rattle.odht_raw.specs.PartsMut.{mut_control, mut_entries}
use Rattle.odht_raw.proofs.raw_table.table_mut.RawTableMutDebug.fmt.Goals as goal

pub returns : goal.returns
returns g c =
    let control = mut_control c.args.self.now in
    let parts : c.new-table.result ≡ record { control = control; entries = record { slots = length control - 16; bytes = mut_entries c.args.self.now } } =
    c.new-table.ensures ∙ (λ i. record { control = control; entries = c.new-entries.ensures i })
    ∙ ap (λ s. record { control = control; entries = record { slots = s; bytes = mut_entries c.args.self.now } }) c.slot_count_of-slots.ensures in
    record {
      writes =
          subst (λ (T : TableParts).
          DisplaysOnOk g.W.Write.write_str_gives c.args.f.now c.write.result (dump_text (entry_format g.K.ByteArray.LEN g.V.ByteArray.LEN) (λ b. g.K.Debug.debug_output (g.K.ByteArray.of_bytes b)) (λ b. g.V.Debug.debug_output (g.V.ByteArray.of_bytes b)) g.H.HashFn.hash_name T) c.write.new.self) parts c.write.ensures.writes;
    }
