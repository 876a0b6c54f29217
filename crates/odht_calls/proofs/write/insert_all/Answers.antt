use Rattle.std.proofs.Common.{◌∙◌, sym, true≢false}
use Rattle.odht_header.specs.Coding.{Coding, coding_of}
use Rattle.odht_header.proofs.lemmas.Formats.{IsFormat-format_of}
use Rattle.odht_calls.proofs.lemmas.Refused.{refused_insert_all, the_error}
use Rattle.odht_calls.proofs.lemmas.Inserted.{pairs_listed}
use Rattle.odht_calls.proofs.write.insert_all.Given.{Over}
use Rattle.odht_calls.proofs.write.insert_all.Goals as goal

pub returns-then-not-is_accepted-clause-answer : goal.returns-then-not-is_accepted-clause-answer
returns-then-not-is_accepted-clause-answer g c =
    let found = the_error _ (λ none. true≢false (sym (c.is_accepted.ensures.1 none) ∙ c.if-not-is_accepted.true)) in
    refused_insert_all _ _ found.0 _ found.1 (c.refused.ensures ∙ found.2) _ _ _ c.requires

-- the coding of the configuration
abbrev coding : (g : Over) → Coding g.row.C-Key.Denot g.row.C-Value.Denot
coding g =
    let key = g.C.EncodedKey.ByteArray in
    let value = g.C.EncodedValue.ByteArray in
    coding_of key.LEN key.bytes key.of_bytes value.LEN value.bytes value.of_bytes g.C.H.HashFn.hash
    g.C.Config.encode_key g.C.Config.encode_value g.C.Config.decode_key g.C.Config.decode_value

pub returns-clause-answer : goal.returns-clause-answer
returns-clause-answer g c =
    pairs_listed (coding g) (IsFormat-format_of _ _ _ _ g.met.C.Config.key_fits g.met.C.Config.value_fits g.met.C.Config.key_hashes g.met.C.H.HashFn.fits) c.args.bytes.now c.insert_items.new.bytes c.args.keys.now c.args.values.now c.requires
    (sym (c.is_accepted.ensures.0 c.if-not-is_accepted.false)) c.new-pairs.result c.new-pairs.ensures c.args.accepted.now c.insert_items.result c.insert_items.new.accepted c.insert_items.ensures
