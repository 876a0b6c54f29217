use Rattle.std.proofs.Common.{All, take}
use Rattle.odht_raw.specs.Words.{coding_of}
use Rattle.odht.proofs.lemmas.LosslessPairs.{IsKept}
use Rattle.odht.proofs.laws.keys_have_last_values.Given as goal

abbrev pub invariant-loop-k : goal.invariant-loop-k
invariant-loop-k g l =
    let c = coding_of g.C.EncodedKey.ByteArray.LEN g.C.EncodedKey.ByteArray.bytes g.C.EncodedKey.ByteArray.of_bytes g.C.EncodedValue.ByteArray.LEN g.C.EncodedValue.ByteArray.bytes g.C.EncodedValue.ByteArray.of_bytes g.C.H.HashFn.hash g.C.Config.encode_key g.C.Config.encode_value g.C.Config.decode_key g.C.Config.decode_value in
    All (IsKept c) (take l.k-index l.items)
