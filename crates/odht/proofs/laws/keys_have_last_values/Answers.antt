use Rattle.std.proofs.Common.{◌∙◌, arith, ap, sym, subst, All}
use Rattle.std.proofs.lemmas.List.{take_all}
use Rattle.std.proofs.lemmas.List.Elements.{All-more}
use Rattle.std.specs.Prelude.{option_map}
use Rattle.odht_raw.specs.Words.{coding_of}
use Rattle.odht.specs.LastValues.{IsLastValue}
use Rattle.odht.proofs.lemmas.LosslessPairs.{IsKept, last-kept}
use Rattle.odht.proofs.laws.keys_have_last_values.Goals as goal

pub loop-k-preserved : goal.loop-k-preserved
loop-k-preserved g c =
    let K = coding_of g.C.EncodedKey.ByteArray.LEN g.C.EncodedKey.ByteArray.bytes g.C.EncodedKey.ByteArray.of_bytes g.C.EncodedValue.ByteArray.LEN g.C.EncodedValue.ByteArray.bytes g.C.EncodedValue.ByteArray.of_bytes g.C.H.HashFn.hash g.C.Config.encode_key g.C.Config.encode_value g.C.Config.decode_key g.C.Config.decode_value in
    let item = c.loop-k-item.result in
    let is : IsKept K item = record {
      key = ap g.C.Config.decode_key (g.met.C.EncodedKey.ByteArray.determined (g.C.Config.encode_key item.0)) ∙ c.key_kept.ensures;
      value = ap g.C.Config.decode_value (g.met.C.EncodedValue.ByteArray.determined (g.C.Config.encode_value item.1)) ∙ c.value_kept.ensures;
    } in
    All-more (IsKept K) c.args.items.now c.loop-k.k-index item (omega (arith, c.loop-k-test.true)) c.loop-k.invariant (subst (IsKept K) c.loop-k-item.is is)

pub returns : goal.returns
returns g c Q h =
    let K = coding_of g.C.EncodedKey.ByteArray.LEN g.C.EncodedKey.ByteArray.bytes g.C.EncodedKey.ByteArray.of_bytes g.C.EncodedValue.ByteArray.LEN g.C.EncodedValue.ByteArray.bytes g.C.EncodedValue.ByteArray.of_bytes g.C.H.HashFn.hash g.C.Config.encode_key g.C.Config.encode_value g.C.Config.decode_key g.C.Config.decode_value in
    let items = c.args.items.now in
    let key = c.args.key.now in
    let kept = ap g.C.Config.decode_key (g.met.C.EncodedKey.ByteArray.determined (g.C.Config.encode_key key)) ∙ c.key_kept-2.ensures in
    let all = subst (All (IsKept K)) (take_all c.loop-k.k-index items (omega (arith, c.loop-k-test.false))) c.loop-k.invariant in
    let answer = ap (option_map K.value_of) (h (K.key_bytes key)) in
    subst (IsLastValue items key) (sym answer) (last-kept K key kept items all)
