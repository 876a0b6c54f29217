use Rattle.std.proofs.Common.{◌≡◌, ◌∙◌, ◌*◌, ◌-◌, ◌^◌, ap}
use Rattle.std.specs.Prelude.{min}
use Rattle.odht_raw.specs.Words.{Format, format_of, header_slots, slot_count}
use Rattle.odht_base.proofs.lemmas.Image.{header_slots-image}
use Rattle.odht_base.proofs.lemmas.Fits.{IsSized-IsPlaced}
use Rattle.odht.proofs.hash_table_owned.HashTableOwned.insert_order_scratch.Goals as goal

pub returns : goal.returns
returns g c =
    let F : Format = format_of g.C.EncodedKey.ByteArray.LEN g.C.EncodedValue.ByteArray.LEN g.C.H.HashFn.hash in
    let B = c.self.inside.table in
    let is = c.self.invariant in
    let slots : header_slots B ≡ slot_count c.args.self.now = ap header_slots is.bytes ∙ header_slots-image F _ (IsSized-IsPlaced F _ is.valid.placed) ∙ ap slot_count c.self.view_is in
    c.insert_order_scratch.ensures ∙ ap (λ T. min (3 * T.entries.slots) (2 ^ 64 - 1)) c.as_raw.ensures.bytes ∙ ap (λ s. min (3 * s) (2 ^ 64 - 1)) slots
