use Rattle.std.proofs.Common.{◌≡◌, subst}
use Rattle.std.proofs.lemmas.Result.{on_err_weaker}
use Rattle.odht_raw.specs.Words.{Coding, coding_of, IsFormat}
use Rattle.odht_header.proofs.lemmas.Formats.{IsFormat-format_of}
use Rattle.odht.specs.DynInserts.{IsStoreInsert}
use Rattle.odht.proofs.lemmas.StoreInserts.{view_insert}
use Rattle.odht.proofs.lemmas.ViewInserts.{framed-refused, held_same_bytes}
use Rattle.odht.proofs.hash_table.HashTable.insert.Given.{Over}
use Rattle.odht.proofs.hash_table.HashTable.insert.Goals as goal
use Rattle.odht.proofs.hash_table.HashTable.insert.Goals.{After-insert_by}

-- the coding of the configuration
abbrev coding : (g : Over) → Coding g.row.C-Key.Denot g.row.C-Value.Denot
coding g =
    let key = g.C.EncodedKey.ByteArray in
    let value = g.C.EncodedValue.ByteArray in
    coding_of key.LEN key.bytes key.of_bytes value.LEN value.bytes value.of_bytes g.C.H.HashFn.hash
    g.C.Config.encode_key g.C.Config.encode_value g.C.Config.decode_key g.C.Config.decode_value

-- its format
fits : (g : Over) → IsFormat (coding g).format
fits g = IsFormat-format_of _ _ _ _ g.met.C.Config.key_fits g.met.C.Config.value_fits g.met.C.Config.key_hashes g.met.C.H.HashFn.fits

-- the insert into the view
insert : (g : Over) (c : After-insert_by g) → IsStoreInsert (coding g) (g.D.ByteStore.bytes c.args.self.now) c.args.key.now c.args.value.now c.insert_by.result (g.D.ByteStore.bytes c.insert_by.new.self)
insert g c =
    let done = c.insert_by.ensures in
    subst (λ s. IsStoreInsert (coding g) (g.D.ByteStore.bytes s) c.args.key.now c.args.value.now c.insert_by.result (g.D.ByteStore.bytes c.insert_by.new.self)) c.self.view_is
    (view_insert (coding g) (fits g) _ _ _ _ _ done.placed done.framed done.accepted)

pub returns-clause-on_valid : goal.returns-clause-on_valid
returns-clause-on_valid g c = (insert g (goal.at.returns-clause-on_valid g c).After-insert_by).on_valid

pub returns-clause-on_any : goal.returns-clause-on_any
returns-clause-on_any g c = (insert g (goal.at.returns-clause-on_any g c).After-insert_by).on_any

-- it is the same store
same : (g : Over) (c : After-insert_by g) → c.insert_by.new.self ≡ g.D.ByteStoreMut.holding c.args.self.now (g.D.ByteStore.bytes c.insert_by.new.self)
same g c = rw (← c.self.view_is) c.insert_by.ensures.same_store

pub returns-clause-same_store : goal.returns-clause-same_store
returns-clause-same_store g c = same g (goal.at.returns-clause-same_store g c).After-insert_by

pub returns-clause-refused : goal.returns-clause-refused
returns-clause-refused g c =
    let at = (goal.at.returns-clause-refused g c).After-insert_by in
    let kept = framed-refused (coding g) _ c.args.key.now c.args.value.now c.insert_by.result _ (insert g at).on_any.frame in
    on_err_weaker c.insert_by.result
    (λ kept. held_same_bytes g.D.ByteStoreMut.holding g.D.ByteStore.bytes g.met.D.ByteStoreMut.held_same c.args.self.now c.insert_by.new.self (same g at) kept) kept
