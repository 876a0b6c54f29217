use Rattle.std.proofs.Common.{◌≡◌, OnOk, subst}
use Rattle.odht_header.specs.Coding.{coding_of}
use Rattle.odht_tool_writes.specs.Inserted.{AreInserted}
use Rattle.odht_tool_writes.proofs.inserts.tables.HashTableOwnedInserts.insert_pairs.Goals as goal

-- a list and its slice have the same pairs
pub returns-clause-inserted : goal.returns-clause-inserted
returns-clause-inserted g c =
    let coding = coding_of g.C.EncodedKey.ByteArray.LEN g.C.EncodedKey.ByteArray.bytes g.C.EncodedKey.ByteArray.of_bytes
    g.C.EncodedValue.ByteArray.LEN g.C.EncodedValue.ByteArray.bytes g.C.EncodedValue.ByteArray.of_bytes
    g.C.H.HashFn.hash g.C.Config.encode_key g.C.Config.encode_value g.C.Config.decode_key g.C.Config.decode_value in
    subst (λ ps. OnOk c.insert_all.result (AreInserted coding (λ P. c.args.self.now ≡ P) ps (λ P. c.insert_all.new.table ≡ P)))
    c.as_slice.ensures.value c.insert_all.ensures.inserted
