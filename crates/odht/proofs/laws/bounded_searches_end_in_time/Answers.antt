use Rattle.odht_raw.specs.Words.{Format, format_of}
use Rattle.odht_header.proofs.lemmas.Formats.{IsFormat-format_of}
use Rattle.odht_raw.proofs.lemmas.BoundedSearches.{image_bounded}
use Rattle.odht.proofs.laws.bounded_searches_end_in_time.Goals as goal

pub returns : goal.returns
returns g c B groups none P is key =
    let F : Format = format_of g.C.EncodedKey.ByteArray.LEN g.C.EncodedValue.ByteArray.LEN g.C.H.HashFn.hash in
    let f = IsFormat-format_of _ _ _ _ g.met.C.Config.key_fits g.met.C.Config.value_fits g.met.C.Config.key_hashes g.met.C.H.HashFn.fits in
    image_bounded F P B key groups f is none
