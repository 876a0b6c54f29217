use Rattle.std.proofs.Common.{rules, ap}
use Rattle.odht_raw.specs.Parts.{TableParts}
use Rattle.odht_raw.specs.Words.{Coding, coding_of}
use Rattle.odht.proofs.lemmas.Lookups.{puts-answered}
use Rattle.odht.proofs.hash_table.HashTable.get_all.Given.{Over}
use Rattle.odht.proofs.hash_table.HashTable.get_all.Goals as goal

-- the coding of the configuration
abbrev coding : (g : Over) → Coding g.row.C-Key.Denot g.row.C-Value.Denot
coding g =
    let key = g.C.EncodedKey.ByteArray in
    let value = g.C.EncodedValue.ByteArray in
    coding_of key.LEN key.bytes key.of_bytes value.LEN value.bytes value.of_bytes g.C.H.HashFn.hash
    g.C.Config.encode_key g.C.Config.encode_value g.C.Config.decode_key g.C.Config.decode_value

pub returns : goal.returns
returns g c =
    let all = puts-answered {K = g.row.C-Key.Denot} {V = g.row.C-Value.Denot} (coding g) c.as_raw.result c.args.keys.now _ c.get_all.new.answers c.get_all.ensures.answers c.requires in
    let loan = all.loan in
    record {
      on_valid = λ P is. let values = all.values P (c.as_raw.ensures.parts P is) in search (rules, loan, values);
      on_any = let stored = all.stored (g.D.ByteStore.bytes c.args.self.now) (ap (λ (T : TableParts). T.entries.bytes) c.as_raw.ensures.bytes) (ap (λ (T : TableParts). T.entries.slots) c.as_raw.ensures.bytes) in search (rules, loan, stored);
    }
