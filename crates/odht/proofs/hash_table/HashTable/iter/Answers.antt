use Rattle.std.proofs.Common.{◌∙◌, ap, map}
use Rattle.std.specs.List.{filter_map}
use Rattle.odht_raw.specs.Words.{Coding, coding_of, decoded_cells, decoded_pairs}
use Rattle.odht_raw.specs.Walks.{decoded, decoded_items}
use Rattle.odht_header.proofs.lemmas.Formats.{IsFormat-format_of}
use Rattle.odht_raw.proofs.lemmas.Walks.{decoded_items-decoded_cells, decoded_pairs-image}
use Rattle.odht.proofs.hash_table.HashTable.iter.Given.{Over}
use Rattle.odht.proofs.hash_table.HashTable.iter.Goals as goal

-- the coding of the configuration
abbrev coding : (g : Over) → Coding g.row.C-Key.Denot g.row.C-Value.Denot
coding g = coding_of g.C.EncodedKey.ByteArray.LEN g.C.EncodedKey.ByteArray.bytes g.C.EncodedKey.ByteArray.of_bytes g.C.EncodedValue.ByteArray.LEN g.C.EncodedValue.ByteArray.bytes g.C.EncodedValue.ByteArray.of_bytes g.C.H.HashFn.hash g.C.Config.encode_key g.C.Config.encode_value g.C.Config.decode_key g.C.Config.decode_value

pub returns-clause-pairs : goal.returns-clause-pairs
returns-clause-pairs g c =
    let F = (coding g).format in
    let fits = IsFormat-format_of _ _ _ _ g.met.C.Config.key_fits g.met.C.Config.value_fits g.met.C.Config.key_hashes g.met.C.H.HashFn.fits in
    let parts = c.data_slices-entries.ensures in
    let decodes = decoded_items-decoded_cells g.C.EncodedKey.ByteArray.of_bytes g.C.EncodedValue.ByteArray.of_bytes g.C.Config.decode_key g.C.Config.decode_value F.key_len F.value_len F.hash in
    let items = ap (decoded_items g.C.Config.decode_key g.C.Config.decode_value) c.new.ensures.items
    ∙ decodes (record { control = c.data_slices-entries.result.0.now; entries = c.data_slices-entries.result.1 }) parts.len
    ∙ (λ j. map (decoded (coding g)) (filter_map (λ c. c) (decoded_cells F (parts.entries j) (parts.control j))))
    ∙ ap (λ B. map (decoded (coding g)) (decoded_pairs F B)) (ap g.D.ByteStore.bytes c.self.view_is) in
    record {
      on_valid = λ P is. items ∙ ap (map (decoded (coding g))) (decoded_pairs-image F P _ fits is);
      on_any = items;
    }
