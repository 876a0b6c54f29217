use Rattle.std.proofs.Common.{◌∙◌, ap, subst, sym}
use Rattle.odht_raw.specs.Words.{Format, format_of, image_len, IsSlotCount}
use Rattle.odht_raw.proofs.lemmas.Accepted.{accepted_len, accepted_slots}
use Rattle.odht_raw.proofs.memory_layout.inserts.insert_typed.Goals as goal

pub cut-parts-requires-clause-count : goal.cut-parts-requires-clause-count
cut-parts-requires-clause-count g c =
    subst IsSlotCount (sym c.requires.slots)
    (accepted_slots (format_of g.C.EncodedKey.ByteArray.LEN g.C.EncodedValue.ByteArray.LEN g.C.H.HashFn.hash) c.args.bytes.now c.requires.accepted)

pub cut-parts-requires-clause-long : goal.cut-parts-requires-clause-long
cut-parts-requires-clause-long g c =
    let F : Format = format_of g.C.EncodedKey.ByteArray.LEN g.C.EncodedValue.ByteArray.LEN g.C.H.HashFn.hash in
    accepted_len F c.args.bytes.now c.requires.accepted ∙ ap (image_len F) (sym c.requires.slots)
