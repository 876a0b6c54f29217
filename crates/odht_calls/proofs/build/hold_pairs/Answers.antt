use Rattle.std.proofs.Common.{◌≡◌, ◌<◌, ◌∙◌, sym, ap₂, subst, All, [], List, length, arith}
use Rattle.std.proofs.lemmas.List.{take_all}
use Rattle.std.proofs.lemmas.List.Elements.{All-append, All-cons, All-nil}
use Rattle.std.proofs.lemmas.Slice.Zip.{get_or-zip, length-zip}
use Rattle.std.specs.List.{zip}
use Rattle.odht_base.specs.Table.{Pair}
use Rattle.odht_base.specs.Valid.{IsPairOf}
use Rattle.odht_header.specs.Coding.{Coding, coding_of, encoded}
use Rattle.odht_raw.specs.Runs.{encoded_all}
use Rattle.odht.proofs.lemmas.ListInserts.{encoded_all-more}
use Rattle.odht_calls.proofs.build.hold_pairs.Given.{Over}
use Rattle.odht_calls.proofs.build.hold_pairs.Goals as goal

-- the coding of the configuration
abbrev coding : (g : Over) → Coding g.row.C-Key.Denot g.row.C-Value.Denot
coding g =
    let key = g.C.EncodedKey.ByteArray in
    let value = g.C.EncodedValue.ByteArray in
    coding_of key.LEN key.bytes key.of_bytes value.LEN value.bytes value.of_bytes g.C.H.HashFn.hash
    g.C.Config.encode_key g.C.Config.encode_value g.C.Config.decode_key g.C.Config.decode_value

pub loop-index-preserved : goal.loop-index-preserved
loop-index-preserved g c =
    let K = coding g in
    let F = K.format in
    let n = c.loop-index.index in
    let items = zip c.args.keys.now c.args.values.now in
    let item : g.row.C-Key.Denot × g.row.C-Value.Denot = (c.index-keys-index.result, c.index-values-index.result) in
    let low : n < length c.args.keys.now = c.loop-index-test.true in
    let low_value : n < length c.args.values.now = omega (arith, low, c.requires) in
    let low_item : n < length items = omega (arith, low, low_value, length-zip c.args.keys.now c.args.values.now) in
    let at = get_or-zip c.args.keys.now c.args.values.now n item low low_value ∙ ap₂ (λ k v. (k, v)) (sym c.index-keys-index.is) (sym c.index-values-index.is) in
    let written : Pair = record { key = g.C.EncodedKey.ByteArray.bytes c.encode_key-key.result; value = g.C.EncodedValue.ByteArray.bytes c.encode_value-value.result } in
    let same : written ≡ encoded K item.0 item.1 = λ i. record {
      key = g.C.EncodedKey.ByteArray.bytes (c.encode_key-key.ensures i);
      value = g.C.EncodedValue.ByteArray.bytes (c.encode_value-value.ensures i);
    } in
    let fits : IsPairOf F (encoded K item.0 item.1) = subst (IsPairOf F) same (record { key = c.as_slice.ensures.bytes; value = c.as_slice-in-loop-index.ensures.bytes }) in
    subst (All (IsPairOf F)) (sym (encoded_all-more K items n item low_item at))
    (All-append (IsPairOf F) _ _ c.loop-index.invariant (All-cons (IsPairOf F) (encoded K item.0 item.1) [] fits (All-nil (IsPairOf F))))

pub returns : goal.returns
returns g c =
    let K = coding g in
    let items = zip c.args.keys.now c.args.values.now in
    let all = take_all c.loop-index.index items (omega (arith, c.loop-index-test.false, length-zip c.args.keys.now c.args.values.now, c.requires)) in
    subst (λ (xs : List (g.row.C-Key.Denot × g.row.C-Value.Denot)). All (IsPairOf K.format) (encoded_all K xs)) all c.loop-index.invariant
