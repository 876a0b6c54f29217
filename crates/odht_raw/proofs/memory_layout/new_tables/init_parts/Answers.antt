use Rattle.odht_raw.specs.Parts.{entry_format}
use Rattle.odht_raw.proofs.lemmas.ClearedEntries.{zeros-cleared}
use Rattle.odht_raw.proofs.memory_layout.new_tables.init_parts.Goals as goal

pub write_empty-requires-clause-zeros : goal.write_empty-requires-clause-zeros
write_empty-requires-clause-zeros g c =
    zeros-cleared (entry_format (g.L.Lengths.key_len c.args.lengths) (g.L.Lengths.value_len c.args.lengths)) c.args.slot_count c.clear_entries.new.bytes c.args.bytes.now c.requires.len c.clear_entries.ensures
