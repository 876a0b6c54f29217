use Rattle.std.proofs.Common.{◌-◌, ◌≤◌, take, length}
use Rattle.odht_base.specs.Insert.{insert_owned}
use Rattle.odht_raw.specs.Words.{coding_of, image}
use Rattle.odht.specs.Lists.{encoded_all, IsAfterInserts}
use Rattle.odht.proofs.hash_table_owned.HashTableOwned.insert_items.Given as goal

abbrev pub invariant-growths : goal.invariant-growths
invariant-growths g l =
    let c = coding_of g.C.EncodedKey.ByteArray.LEN g.C.EncodedKey.ByteArray.bytes g.C.EncodedKey.ByteArray.of_bytes g.C.EncodedValue.ByteArray.LEN g.C.EncodedValue.ByteArray.bytes g.C.EncodedValue.ByteArray.of_bytes g.C.H.HashFn.hash g.C.Config.encode_key g.C.Config.encode_value g.C.Config.decode_key g.C.Config.decode_value in
    let items = g.I.Items.items l.items in
    record {
      within : l.accepted ≤ length items;
      inserted : IsAfterInserts c.format (insert_owned c.format) l.fn.self (encoded_all c (take l.accepted items)) (image c.format l.self);
    }

abbrev pub decreases-growths : goal.decreases-growths
decreases-growths g l = length (g.I.Items.items l.items) - l.accepted
