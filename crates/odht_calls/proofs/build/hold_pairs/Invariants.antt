use Rattle.std.proofs.Common.{All, take}
use Rattle.std.specs.List.{zip}
use Rattle.odht_base.specs.Valid.{IsPairOf}
use Rattle.odht_header.specs.Coding.{coding_of}
use Rattle.odht_raw.specs.Runs.{encoded_all}
use Rattle.odht_calls.proofs.build.hold_pairs.Given as goal

-- the pairs so far are of the format
abbrev pub invariant-loop-index : goal.invariant-loop-index
invariant-loop-index g l =
    let c = coding_of g.C.EncodedKey.ByteArray.LEN g.C.EncodedKey.ByteArray.bytes g.C.EncodedKey.ByteArray.of_bytes g.C.EncodedValue.ByteArray.LEN g.C.EncodedValue.ByteArray.bytes g.C.EncodedValue.ByteArray.of_bytes g.C.H.HashFn.hash g.C.Config.encode_key g.C.Config.encode_value g.C.Config.decode_key g.C.Config.decode_value in
    All (IsPairOf c.format) (encoded_all c (take l.index (zip l.keys l.values)))
