use Rattle.std.proofs.Common.{◌≡◌, ◌∙◌, ap, ◌+◌, ◌*◌, ◌<◌, ◌≤◌, sym, subst, arith, length}
use Rattle.odht_raw.specs.Words.{entry_len, format_of, header_slots}
use Rattle.odht_raw.specs.Frame.{IsAccepted}
use Rattle.odht_raw.proofs.lemmas.Accepted.{accepted_entry, IsAccepted-overwritten_at}
use Rattle.odht_raw.proofs.memory_layout.allocation.Allocation.write_value.Given.{Over}
use Rattle.odht_raw.proofs.memory_layout.allocation.Allocation.write_value.Goals.{After-self}
use Rattle.odht_raw.proofs.memory_layout.allocation.Allocation.write_value.Goals as goal

-- the entry of the slot, and the control bytes behind it, lie within the bytes
entry_within : (g : Over) (c : After-self g) → 32 + c.args.slot * entry_len (format_of g.C.EncodedKey.ByteArray.LEN g.C.EncodedValue.ByteArray.LEN g.C.H.HashFn.hash) + entry_len (format_of g.C.EncodedKey.ByteArray.LEN g.C.EncodedValue.ByteArray.LEN g.C.H.HashFn.hash) + 16 ≤ length (g.M.ByteStore.bytes c.self.inside.store)
entry_within g c =
    let within = accepted_entry (format_of g.C.EncodedKey.ByteArray.LEN g.C.EncodedValue.ByteArray.LEN g.C.H.HashFn.hash) (g.M.ByteStore.bytes c.self.inside.store) c.self.invariant.0 c.args.slot (subst (λ s. c.args.slot < header_slots (g.M.ByteStore.bytes s)) (sym c.self.view_is) c.requires) in
    omega (arith, within)

pub entry_at-requires-after_bounds : goal.entry_at-requires-after_bounds
entry_at-requires-after_bounds g c κs within = omega (arith, entry_within g c.before, c.self.invariant.1)

pub overflow_add-entry_at : goal.overflow_add-entry_at
overflow_add-entry_at g c = omega (arith, entry_within g c.before.before.before, c.entry_at.ensures, c.LEN.ensures, c.self.invariant.1)

pub write_at-requires : goal.write_at-requires
write_at-requires g c =
    let long : length c.as_slice.result.now ≡ g.C.EncodedValue.ByteArray.LEN = ap length c.as_slice.ensures.value ∙ c.as_slice.ensures.bytes.len in
    omega (arith, entry_within g c.before.before.before.before, c.entry_at.ensures, c.LEN.ensures, long)

-- the bytes with the value are accepted
accepted : (g : Over) (c : goal.After-write_at g) → IsAccepted (format_of g.C.EncodedKey.ByteArray.LEN g.C.EncodedValue.ByteArray.LEN g.C.H.HashFn.hash) (g.M.ByteStore.bytes c.write_at.new.self)
accepted g c =
    let F = format_of g.C.EncodedKey.ByteArray.LEN g.C.EncodedValue.ByteArray.LEN g.C.H.HashFn.hash in
    let at = c.entry_at.result + c.LEN.result in
    subst (IsAccepted F) (sym c.write_at.ensures.bytes) (IsAccepted-overwritten_at F (g.M.ByteStore.bytes c.self.inside.store) c.self.invariant.0 at c.as_slice.result.now (omega (arith, c.entry_at.ensures)) (write_at-requires g c.before))

pub invariant_of-self : goal.invariant_of-self
invariant_of-self g c = (accepted g c, omega (arith, c.write_at.ensures.len, c.self.invariant.1))

pub returns-clause-accepted : goal.returns-clause-accepted
returns-clause-accepted g c = accepted g c
