use Rattle.std.proofs.Common.{◌∙◌, ap}
use Rattle.odht_raw.specs.Words.{Coding, coding_of, controls_of, entries_of}
use Rattle.odht_raw.specs.Walks.{decoded_numbered, decoded_slots}
use Rattle.odht_header.proofs.lemmas.Formats.{IsFormat-format_of}
use Rattle.odht_raw.proofs.lemmas.Walks.{decoded_numbered-decoded_table, slots-image}
use Rattle.odht.proofs.hash_table.HashTable.iter_from.Given.{Over}
use Rattle.odht.proofs.hash_table.HashTable.iter_from.Goals as goal

-- the coding of the configuration
abbrev coding : (g : Over) → Coding g.row.C-Key.Denot g.row.C-Value.Denot
coding g = coding_of g.C.EncodedKey.ByteArray.LEN g.C.EncodedKey.ByteArray.bytes g.C.EncodedKey.ByteArray.of_bytes g.C.EncodedValue.ByteArray.LEN g.C.EncodedValue.ByteArray.bytes g.C.EncodedValue.ByteArray.of_bytes g.C.H.HashFn.hash g.C.Config.encode_key g.C.Config.encode_value g.C.Config.decode_key g.C.Config.decode_value

pub returns-clause-slots : goal.returns-clause-slots
returns-clause-slots g c =
    let F = (coding g).format in
    let fits = IsFormat-format_of _ _ _ _ g.met.C.Config.key_fits g.met.C.Config.value_fits g.met.C.Config.key_hashes g.met.C.H.HashFn.fits in
    let parts = c.data_slices-entries.ensures in
    let same = ap g.D.ByteStore.bytes c.self.view_is in
    let decodes = decoded_numbered-decoded_table g.C.EncodedKey.ByteArray.of_bytes g.C.EncodedValue.ByteArray.of_bytes g.C.Config.decode_key g.C.Config.decode_value F.key_len F.value_len F.hash in
    let slots = ap (decoded_numbered g.C.Config.decode_key g.C.Config.decode_value) c.new.ensures.items
    ∙ decodes (record { control = c.data_slices-entries.result.0.now; entries = c.data_slices-entries.result.1 }) (g.D.ByteStore.bytes c.args.self.now) c.args.from parts.len
    (parts.entries ∙ ap (entries_of F) same) (parts.control ∙ ap (controls_of F) same) in
    record {
      on_valid = λ P is. slots ∙ ap (decoded_slots (coding g)) (slots-image F P _ c.args.from fits is);
      on_any = slots;
    }
