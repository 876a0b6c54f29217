use Rattle.std.proofs.Common.{subst}
use Rattle.odht_raw.specs.Words.{Format, format_of, IsImage}
use Rattle.odht.proofs.hash_table_owned.HashTableOwned.insert_order_with.Goals as goal

pub returns-clause-order : goal.returns-clause-order
returns-clause-order g c =
    let F : Format = format_of g.C.EncodedKey.ByteArray.LEN g.C.EncodedValue.ByteArray.LEN g.C.H.HashFn.hash in
    let is = subst (λ P. IsImage F P c.self.inside.table) c.self.view_is c.self.invariant in
    c.insert_order_with.ensures.order c.args.self.now (record { valid = is.valid; parts = c.as_raw.ensures.parts _ is; counted = c.requires })

pub returns-clause-made : goal.returns-clause-made
returns-clause-made g c =
    let F : Format = format_of g.C.EncodedKey.ByteArray.LEN g.C.EncodedValue.ByteArray.LEN g.C.H.HashFn.hash in
    let is = subst (λ P. IsImage F P c.self.inside.table) c.self.view_is c.self.invariant in
    c.insert_order_with.ensures.made c.args.self.now (record { valid = is.valid; parts = c.as_raw.ensures.parts _ is; counted = c.requires })
