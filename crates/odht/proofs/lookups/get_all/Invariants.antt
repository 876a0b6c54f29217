use Rattle.std.proofs.Common.{◌≡◌}
use Rattle.odht_raw.specs.Words.{coding_of}
use Rattle.odht.specs.Lookups.{lookups_of, ArePut}
use Rattle.odht.proofs.lookups.get_all.Given as goal

-- the answers of the keys so far were put
abbrev pub invariant-loop-index : goal.invariant-loop-index
invariant-loop-index g l =
    let c = coding_of g.C.EncodedKey.ByteArray.LEN g.C.EncodedKey.ByteArray.bytes g.C.EncodedKey.ByteArray.of_bytes g.C.EncodedValue.ByteArray.LEN g.C.EncodedValue.ByteArray.bytes g.C.EncodedValue.ByteArray.of_bytes g.C.H.HashFn.hash g.C.Config.encode_key g.C.Config.encode_value g.C.Config.decode_key g.C.Config.decode_value in
    let a = g.A.Answers in
    ArePut (lookups_of c l.raw l.keys a.after_put) l.fn.answers l.answers l.index × (a.places l.answers ≡ a.places l.fn.answers)
