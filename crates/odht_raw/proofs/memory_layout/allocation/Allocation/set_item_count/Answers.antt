use Rattle.std.proofs.Common.{◌≡◌, ◌∙◌, ap, sym, subst, arith}
use Rattle.odht_raw.specs.Words.{format_of, overwritten_at, with_count}
use Rattle.odht_raw.specs.Frame.{IsAccepted}
use Rattle.odht_raw.proofs.lemmas.Accepted.{accepted_opening, IsAccepted-with_count}
use Rattle.odht_header.proofs.lemmas.HeaderWrites.{le_bytes-w64}
use Rattle.odht_raw.proofs.memory_layout.allocation.Allocation.set_item_count.Given.{Over}
use Rattle.odht_raw.proofs.memory_layout.allocation.Allocation.set_item_count.Goals as goal

pub write_at-requires : goal.write_at-requires
write_at-requires g c =
    let F = format_of g.C.EncodedKey.ByteArray.LEN g.C.EncodedValue.ByteArray.LEN g.C.H.HashFn.hash in
    let long = (accepted_opening F (g.M.ByteStore.bytes c.self.inside.store) c.self.invariant.0).long in
    rw (c.to_le_bytes.ensures) (omega (arith, long))

-- the bytes with the count are accepted
accepted : (g : Over) (c : goal.After-write_at g) → IsAccepted (format_of g.C.EncodedKey.ByteArray.LEN g.C.EncodedValue.ByteArray.LEN g.C.H.HashFn.hash) (g.M.ByteStore.bytes c.write_at.new.self)
accepted g c =
    let F = format_of g.C.EncodedKey.ByteArray.LEN g.C.EncodedValue.ByteArray.LEN g.C.H.HashFn.hash in
    let B = g.M.ByteStore.bytes c.self.inside.store in
    let written : g.M.ByteStore.bytes c.write_at.new.self ≡ with_count B c.args.item_count = c.write_at.ensures.bytes ∙ ap (overwritten_at B 8) (c.to_le_bytes.ensures ∙ le_bytes-w64 c.args.item_count) in
    subst (IsAccepted F) (sym written) (IsAccepted-with_count F B c.self.invariant.0 c.args.item_count)

pub invariant_of-self : goal.invariant_of-self
invariant_of-self g c = (accepted g c, omega (arith, c.write_at.ensures.len, c.self.invariant.1))

pub returns-clause-accepted : goal.returns-clause-accepted
returns-clause-accepted g c = accepted g c
