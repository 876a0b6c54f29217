use Rattle.std.proofs.Common.{◌∙◌, ap}
use Rattle.odht_raw.specs.Words.{format_of, header_count}
use Rattle.odht_base.proofs.lemmas.Fits.{IsSized-IsPlaced}
use Rattle.odht_base.proofs.lemmas.Image.{header_count-image}
use Rattle.odht.proofs.hash_table.HashTable.len.Goals as goal

pub returns : goal.returns
returns g c =
    let F = format_of g.C.EncodedKey.ByteArray.LEN g.C.EncodedValue.ByteArray.LEN g.C.H.HashFn.hash in
    let by_header = c.item_count.ensures ∙ ap header_count (c.header.ensures.bytes ∙ ap g.D.ByteStore.bytes c.self.view_is) in
    record { by_header = by_header; on_valid = λ P is. by_header ∙ ap header_count is.bytes ∙ header_count-image F P (IsSized-IsPlaced F P is.valid.placed) }
