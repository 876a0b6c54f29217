use Rattle.std.proofs.Common.{◌≡◌, ◌<◌, ◌^◌, ap, subst, length}
use Rattle.odht_raw.specs.Words.{format_of, header_slots, image_len}
use Rattle.odht_raw.specs.Frame.{IsAccepted}
use Rattle.odht_raw.proofs.lemmas.Accepted.{accepted_opening, accepted_len}
use Rattle.odht_raw.proofs.memory_layout.allocation.Allocation.header.Goals as goal

pub of-requires : goal.of-requires
of-requires g c =
    let F = format_of g.C.EncodedKey.ByteArray.LEN g.C.EncodedValue.ByteArray.LEN g.C.H.HashFn.hash in
    let long = (accepted_opening F (g.M.ByteStore.bytes c.self.inside.store) c.self.invariant.0).long in
    rw (c.bytes.ensures) long

pub returns-clause-len : goal.returns-clause-len
returns-clause-len g c =
    let F = format_of g.C.EncodedKey.ByteArray.LEN g.C.EncodedValue.ByteArray.LEN g.C.H.HashFn.hash in
    subst (λ b. length b ≡ image_len F (header_slots b)) (ap g.M.ByteStore.bytes c.self.view_is) (accepted_len F (g.M.ByteStore.bytes c.self.inside.store) c.self.invariant.0)

pub returns-clause-fits : goal.returns-clause-fits
returns-clause-fits g c = subst (λ b. length b < 2 ^ 64) (ap g.M.ByteStore.bytes c.self.view_is) c.self.invariant.1

pub returns-clause-accepted : goal.returns-clause-accepted
returns-clause-accepted g c =
    let F = format_of g.C.EncodedKey.ByteArray.LEN g.C.EncodedValue.ByteArray.LEN g.C.H.HashFn.hash in
    subst (IsAccepted F) (ap g.M.ByteStore.bytes c.self.view_is) c.self.invariant.0
