use Rattle.std.proofs.Common.{rules, ◌≡◌, ◌↔◌, ◌∙◌, ap, sym, IsTrue}
use Rattle.odht_raw.specs.Words.{decoded_table, Format, format_of, image, IsFormat}
use Rattle.odht_header.proofs.lemmas.Formats.{IsFormat-format_of}
use Rattle.odht.proofs.lemmas.Plain.{the_table}
use Rattle.odht.proofs.hash_table_owned.HashTableOwned.has_same_bytes.Given.{Over}
use Rattle.odht.proofs.hash_table_owned.HashTableOwned.has_same_bytes.Goals as goal

abbrev format : Over → Format
format g = format_of g.C.EncodedKey.ByteArray.LEN g.C.EncodedValue.ByteArray.LEN g.C.H.HashFn.hash

fits : (g : Over) → IsFormat (format g)
fits g = IsFormat-format_of _ _ _ _ g.met.C.Config.key_fits g.met.C.Config.value_fits g.met.C.Config.key_hashes g.met.C.H.HashFn.fits

pub returns : goal.returns
returns g c =
    let F = format g in
    let a = c.raw_bytes.ensures in
    let b = c.raw_bytes-2.ensures in
    let same : IsTrue c.eq.result ↔ (c.raw_bytes.result.now ≡ c.raw_bytes-2.result.now) = search rules in (
      λ e. sym (the_table F _ _ (fits g) a) ∙ ap (decoded_table F) (same.0 e) ∙ the_table F _ _ (fits g) b,
      λ e. same.1 (a.bytes ∙ ap (image F) e ∙ sym b.bytes),
    )
