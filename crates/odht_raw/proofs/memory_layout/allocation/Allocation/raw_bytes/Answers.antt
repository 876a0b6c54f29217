use Rattle.std.proofs.Common.{ap, subst}
use Rattle.odht_base.specs.Format.{format_of}
use Rattle.odht_raw.specs.Frame.{IsAccepted}
use Rattle.odht_raw.proofs.memory_layout.allocation.Allocation.raw_bytes.Goals as goal

pub returns-clause-accepted : goal.returns-clause-accepted
returns-clause-accepted g c =
    let F = format_of g.C.EncodedKey.ByteArray.LEN g.C.EncodedValue.ByteArray.LEN g.C.H.HashFn.hash in
    subst (IsAccepted F) (ap g.M.ByteStore.bytes c.self.view_is) c.self.invariant.0
