use Rattle.std.proofs.Common.{◌≡◌, ◌∙◌, sym, ap, Some, arith}
use Rattle.std.proofs.lemmas.Option.{slice_get-get_or}
use Rattle.odht_raw.specs.Words.{format_of}
use Rattle.odht_base.proofs.lemmas.Options.{some_same}
use Rattle.odht_raw.specs.FirstLooks.{first_look_of}
use Rattle.odht.proofs.lookups.first_look_at.Goals as goal

pub bounds-keys-index : goal.bounds-keys-index
bounds-keys-index g c = c.requires

pub offset_bounds-keys-index : goal.offset_bounds-keys-index
offset_bounds-keys-index g c = omega (arith, c.requires)

pub returns : goal.returns
returns g c k at =
    let F = format_of g.C.EncodedKey.ByteArray.LEN g.C.EncodedValue.ByteArray.LEN g.C.H.HashFn.hash in
    let there = slice_get-get_or c.args.keys.now c.args.index c.index-keys-index.result c.requires ∙ ap Some (sym c.index-keys-index.is) in
    let same : c.index-keys-index.result ≡ k = some_same _ _ (sym there ∙ at) in
    c.first_look.ensures
    ∙ ap (λ b. first_look_of F c.args.raw.now (g.C.EncodedKey.ByteArray.bytes b)) (c.encode_key.ensures ∙ ap g.C.Config.encode_key same)
