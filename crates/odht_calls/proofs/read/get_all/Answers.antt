use Rattle.std.proofs.Common.{◌∙◌, sym, subst, true≢false}
use Rattle.odht_header.specs.Coding.{coding_of}
use Rattle.odht_calls.specs.Views.{ViewGetAllAnswers}
use Rattle.odht_calls.proofs.lemmas.Refused.{accepted_get_all, refused_get_all, the_error}
use Rattle.odht_calls.proofs.read.get_all.Goals as goal

pub returns-then-not-is_accepted : goal.returns-then-not-is_accepted
returns-then-not-is_accepted g c =
    let found = the_error _ (λ none. true≢false (sym (c.is_accepted.ensures.1 none) ∙ c.if-not-is_accepted.true)) in
    refused_get_all _ _ found.0 _ found.1 (c.refused.ensures ∙ found.2) _ _ _ (c.requires.values, c.requires.found)

pub returns : goal.returns
returns g c =
    let K = coding_of g.C.EncodedKey.ByteArray.LEN g.C.EncodedKey.ByteArray.bytes g.C.EncodedKey.ByteArray.of_bytes g.C.EncodedValue.ByteArray.LEN g.C.EncodedValue.ByteArray.bytes g.C.EncodedValue.ByteArray.of_bytes g.C.H.HashFn.hash g.C.Config.encode_key g.C.Config.encode_value g.C.Config.decode_key g.C.Config.decode_value in
    let viewed = subst (λ B. ViewGetAllAnswers K B c.args.keys.now c.args.values.now c.args.found.now c.get_all.result c.get_all.new.values c.get_all.new.found) c.table-table.ensures c.get_all.ensures in
    accepted_get_all K c.args.bytes.now (sym (c.is_accepted.ensures.0 c.if-not-is_accepted.false)) _ _ _ _ _ _ viewed
