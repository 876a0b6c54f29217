use Rattle.std.proofs.Common.{◌≡◌, take, take_all, rules, refl, sym, subst, arith}
use Rattle.std.specs.Prelude.{IsOk}
use Rattle.odht_base.specs.Table.{Table}
use Rattle.odht_header.specs.Coding.{coding_of}
use Rattle.odht.specs.Lists.{encoded_all}
use Rattle.odht.specs.Plain.{KeepsSize}
use Rattle.odht.proofs.lemmas.PlainLists.{length-taken}
use Rattle.odht_tool_writes.specs.Inserted.{AreInserted, IsAfterRun}
use Rattle.odht_tool_writes.proofs.inserts.tables.insert_all.Goals as goal

-- all items were inserted
pub returns-in-Ok-clause-inserted : goal.returns-in-Ok-clause-inserted
returns-in-Ok-clause-inserted g c =
    let items = c.args.pairs.now in
    let list = c.insert_all-inserted.ensures in
    let accepted : IsOk c.insert_all-inserted.result.1 = search rules in
    let whole = list.all.0 accepted in
    let taken : take c.insert_all-inserted.result.0 items ≡ items = take_all c.insert_all-inserted.result.0 items (omega (arith, whole)) in
    let coding = coding_of g.C.EncodedKey.ByteArray.LEN g.C.EncodedKey.ByteArray.bytes g.C.EncodedKey.ByteArray.of_bytes
    g.C.EncodedValue.ByteArray.LEN g.C.EncodedValue.ByteArray.bytes g.C.EncodedValue.ByteArray.of_bytes
    g.C.H.HashFn.hash g.C.Config.encode_key g.C.Config.encode_value g.C.Config.decode_key g.C.Config.decode_value in
    let now = c.insert_all-inserted.new.self in
    let long = length-taken coding items c.insert_all-inserted.result.0 list.bound in
    let inserted : AreInserted coding (λ P. c.args.table.now ≡ P) (take c.insert_all-inserted.result.0 items) (λ P. now ≡ P) =
    λ P same. subst (λ (Q : Table). IsAfterRun coding.format Q (encoded_all coding (take c.insert_all-inserted.result.0 items)) (λ R. now ≡ R)) same
    (record { table = now; runs = list.inserted; holds = refl; maps = list.maps; stays = subst (λ n. KeepsSize c.args.table.now n now) (sym long) list.stays }) in
    subst (λ xs. AreInserted coding (λ P. c.args.table.now ≡ P) xs (λ P. now ≡ P)) taken inserted
