use Rattle.std.proofs.Common.{◌≡◌, ◌∙◌, subst, inr, List, Result, Ok, Err}
use Rattle.std.specs.Prelude.{OnOk}
use Rattle.odht_raw.specs.Words.{coding_of}
use Rattle.odht.specs.Plain.{IsPlainList}
use Rattle.odht.specs.Lists.{EndsAfter}
use Rattle.odht.proofs.lemmas.NewRefusals.{on_err}
use Rattle.odht.proofs.hash_table_owned.HashTableOwned.extend.Given.{Over}
use Rattle.odht.proofs.hash_table_owned.HashTableOwned.extend.Goals.{After-insert_all}
use Rattle.odht.proofs.hash_table_owned.HashTableOwned.extend.Goals as goal

-- what holds in any case holds on success
on_ok : {T E : Type 0} {P : Type 0} (r : Result T E) → P → OnOk r P
on_ok (Ok x) p = p
on_ok (Err e) p = tt

-- the list that was collected is that of the iterator, and it was inserted
listed : (g : Over) (c : After-insert_all g)
    → EndsAfter g.I.Iterator.next_gives c.args.items (λ xs. IsPlainList (coding_of g.C.EncodedKey.ByteArray.LEN g.C.EncodedKey.ByteArray.bytes g.C.EncodedKey.ByteArray.of_bytes g.C.EncodedValue.ByteArray.LEN g.C.EncodedValue.ByteArray.bytes g.C.EncodedValue.ByteArray.of_bytes g.C.H.HashFn.hash g.C.Config.encode_key g.C.Config.encode_value g.C.Config.decode_key g.C.Config.decode_value)
    c.args.self.now c.insert_all.new.self xs c.insert_all.result)
listed g c =
    let K = coding_of g.C.EncodedKey.ByteArray.LEN g.C.EncodedKey.ByteArray.bytes g.C.EncodedKey.ByteArray.of_bytes g.C.EncodedValue.ByteArray.LEN g.C.EncodedValue.ByteArray.bytes g.C.EncodedValue.ByteArray.of_bytes g.C.H.HashFn.hash g.C.Config.encode_key g.C.Config.encode_value g.C.Config.decode_key g.C.Config.decode_value in
    let ran = c.in-Ok.ensures.ran in
    let after = ran.1.2 tt in
    let slice : c.as_slice.result.now ≡ ran.0 = c.as_slice.ensures.value ∙ ran.2.0 in
    let said = c.insert_all.ensures in
    let list : IsPlainList K c.args.self.now c.insert_all.new.self c.as_slice.result.now c.insert_all.result =
    record { bound = said.bound; all = said.all; inserted = said.inserted; maps = said.maps; stays = said.stays; last_values = said.last_values; at_maximum = said.at_maximum; memory = said.memory } in
    (ran.0, (after.0, (ran.1.0, ran.1.1, after.1)), subst (λ (xs : List (g.row.C-Key.Denot × g.row.C-Value.Denot)). IsPlainList K c.args.self.now c.insert_all.new.self xs c.insert_all.result) slice list)

pub returns-clause-ok : goal.returns-clause-ok
returns-clause-ok g c = on_ok c.insert_all.result.1 (listed g (goal.at.returns-clause-ok g c).After-insert_all)

pub returns-clause-err : goal.returns-clause-err
returns-clause-err g c = on_err c.insert_all.result.1 (inr (listed g (goal.at.returns-clause-err g c).After-insert_all))
