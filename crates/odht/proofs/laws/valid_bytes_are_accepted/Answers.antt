use Rattle.odht_raw.specs.Words.{format_of}
use Rattle.odht_raw.proofs.lemmas.Accepted.{IsAccepted-IsValidBytes}
use Rattle.odht.proofs.laws.valid_bytes_are_accepted.Goals as goal

pub returns : goal.returns
returns g c B valid = IsAccepted-IsValidBytes (format_of g.C.EncodedKey.ByteArray.LEN g.C.EncodedValue.ByteArray.LEN g.C.H.HashFn.hash) B valid
