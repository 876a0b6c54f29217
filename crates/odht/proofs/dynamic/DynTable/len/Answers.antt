use Rattle.std.proofs.Common.{◌∙◌, ap}
use Rattle.odht_raw.specs.Words.{header_count}
use Rattle.odht_base.proofs.lemmas.Fits.{IsSized-IsPlaced}
use Rattle.odht_base.proofs.lemmas.Image.{header_count-image}
use Rattle.odht.specs.Dynamic.{dyn_format}
use Rattle.odht.proofs.dynamic.DynTable.len.Goals as goal

pub returns : goal.returns
returns g c =
    let F = dyn_format c.args.self.now g.H.HashFn.hash in
    let by_header = c.item_count.ensures ∙ ap header_count (c.of.ensures ∙ c.raw_bytes.ensures.bytes) in
    record { by_header = by_header; on_valid = λ P is. by_header ∙ ap header_count is.bytes ∙ header_count-image F P (IsSized-IsPlaced F P is.valid.placed) }
