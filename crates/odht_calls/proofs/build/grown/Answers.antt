use Rattle.std.proofs.Common.{rules, subst, List, IsOk}
use Rattle.odht_header.specs.Coding.{Coding, coding_of}
use Rattle.odht.specs.Plain.{IsPlainList}
use Rattle.odht_calls.proofs.lemmas.HandedOut.{refused_growing, grown_inserted, handed_growing}
use Rattle.odht_calls.proofs.build.grown.Given.{Over}
use Rattle.odht_calls.proofs.build.grown.Goals as goal

-- the coding of the configuration
abbrev coding : (g : Over) → Coding g.row.C-Key.Denot g.row.C-Value.Denot
coding g =
    let key = g.C.EncodedKey.ByteArray in
    let value = g.C.EncodedValue.ByteArray in
    coding_of key.LEN key.bytes key.of_bytes value.LEN value.bytes value.of_bytes g.C.H.HashFn.hash
    g.C.Config.encode_key g.C.Config.encode_value g.C.Config.decode_key g.C.Config.decode_value

pub returns-in-Err : goal.returns-in-Err
returns-in-Err g c = refused_growing _ _ _ c.requires _ _ _ c.default.result _ c.in-Err.is c.default.ensures.memory c.status_of.ensures

pub returns-in_default-Err : goal.returns-in_default-Err
returns-in_default-Err g c = refused_growing _ _ _ c.requires _ _ _ c.insert_items.result.1 _ c.in_default-Err.is-1 c.insert_items.ensures.memory c.status_of-in_default-Err.ensures

pub returns : goal.returns
returns g c =
    let K = coding g in
    let keys = c.args.keys.now in
    let values = c.args.values.now in
    let list = subst (λ (xs : List (g.row.C-Key.Denot × g.row.C-Value.Denot)). IsPlainList K c.in-Ok.table c.insert_items.new.self xs c.insert_items.result) c.new.ensures c.insert_items.ensures in
    let ok : IsOk c.insert_items.result.1 = search rules in
    let grown = grown_inserted K keys values c.requires c.raw_bytes.result.now c.in-Ok.table c.insert_items.new.self c.insert_items.result c.in-Ok.ensures.ok ok list c.raw_bytes.ensures in
    handed_growing K keys values c.requires c.raw_bytes.result.now c.args.out.now c.args.len.now c.hand_out.result c.hand_out.new.out c.hand_out.new.len grown c.hand_out.ensures.copied c.hand_out.ensures.status
