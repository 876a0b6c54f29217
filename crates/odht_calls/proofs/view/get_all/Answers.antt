use Rattle.std.proofs.Common.{rules, ap, length, refl}
use Rattle.odht_raw.specs.Parts.{TableParts}
use Rattle.odht.proofs.lemmas.Lookups.{puts-same}
use Rattle.odht_header.specs.Coding.{Coding, coding_of}
use Rattle.odht_calls.proofs.lemmas.Got.{put, got_all}
use Rattle.odht_calls.proofs.view.get_all.Given.{Over}
use Rattle.odht_calls.proofs.view.get_all.Goals as goal

-- the coding of the configuration
abbrev coding : (g : Over) → Coding g.row.C-Key.Denot g.row.C-Value.Denot
coding g =
    let key = g.C.EncodedKey.ByteArray in
    let value = g.C.EncodedValue.ByteArray in
    coding_of key.LEN key.bytes key.of_bytes value.LEN value.bytes value.of_bytes g.C.H.HashFn.hash
    g.C.Config.encode_key g.C.Config.encode_value g.C.Config.decode_key g.C.Config.decode_value

pub returns : goal.returns
returns g c =
    let K = coding g in
    let T = c.as_raw-raw.result in
    let keys = c.args.keys.now in
    let last = c.get_all.new.answers in
    let values = puts-same K T keys put (λ s. s.values.ghost_name) (λ s i o. refl) _ last (length keys) c.get_all.ensures.answers in
    let found = puts-same K T keys put (λ s. s.found.ghost_name) (λ s i o. refl) _ last (length keys) c.get_all.ensures.answers in
    let answers = got_all K c.args.table.now.0.now T keys _ last c.get_all.ensures.answers c.requires.values c.requires.found c.as_raw-raw.ensures.parts (ap (λ (T : TableParts). T.entries.bytes) c.as_raw-raw.ensures.bytes) (ap (λ (T : TableParts). T.entries.slots) c.as_raw-raw.ensures.bytes) in
    search (rules, values, found, answers)
