use Rattle.std.proofs.Common.{◌≡◌, ◌∙◌, sym, ap, subst, length, arith}
use Rattle.odht_raw.specs.Words.{empty, Format, format_of, header_factor, header_slots, image, IsSlotCount}
use Rattle.odht_raw.specs.Frame.{IsAccepted}
use Rattle.odht_raw.proofs.lemmas.Accepted.{accepted_slots}
use Rattle.odht_raw.proofs.lemmas.Borrows.{borrowed-bytes}
use Rattle.odht_raw.proofs.lemmas.NewTables.{IsAccepted-new, with_count-new}
use Rattle.odht_raw.proofs.memory_layout.allocation.Allocation.clear.Given.{Over}
use Rattle.odht_raw.proofs.memory_layout.allocation.Allocation.clear.Goals.{After-bytes_mut, After-init_parts}
use Rattle.odht_raw.proofs.memory_layout.allocation.Allocation.clear.Goals as goal

abbrev format : Over → Format
format g = format_of g.C.EncodedKey.ByteArray.LEN g.C.EncodedValue.ByteArray.LEN g.C.H.HashFn.hash

-- the slot count is that of the header
slots : (g : Over) (c : After-bytes_mut g) → c.slot_count-slot_count.result ≡ header_slots (g.M.ByteStore.bytes c.args.self.now)
slots g c = c.slot_count-slot_count.ensures ∙ ap header_slots c.header-header.ensures.bytes

is_count : (g : Over) (c : After-bytes_mut g) → IsSlotCount c.slot_count-slot_count.result
is_count g c = subst IsSlotCount (sym (slots g c)) (accepted_slots (format g) (g.M.ByteStore.bytes c.args.self.now) (subst (λ s. IsAccepted (format g) (g.M.ByteStore.bytes s)) c.self.view_is c.self.invariant.0))

-- the store has the bytes that were written, as many as before
long : (g : Over) (c : After-init_parts g) → length c.init_parts.new.bytes ≡ length (g.M.ByteStore.bytes c.self.inside.store)
long g c = c.init_parts.auto.bytes ∙ ap length c.bytes_mut.ensures.value

same : (g : Over) (c : After-init_parts g) → g.M.ByteStore.bytes (g.M.ByteStoreMut.after_borrow c.self.inside.store c.init_parts.new.bytes) ≡ c.init_parts.new.bytes
same g c =
    borrowed-bytes g.M.ByteStore.bytes g.M.ByteStoreMut.holding g.M.ByteStoreMut.after_borrow g.met.M.ByteStoreMut.held g.met.M.ByteStoreMut.after_borrow_fits c.self.inside.store c.init_parts.new.bytes (long g c)

pub init_parts-requires-clause-slots : goal.init_parts-requires-clause-slots
init_parts-requires-clause-slots g c = is_count g c

accepted : (g : Over) (c : After-init_parts g) → IsAccepted (format g) (g.M.ByteStore.bytes (g.M.ByteStoreMut.after_borrow c.self.inside.store c.init_parts.new.bytes))
accepted g c =
    subst (IsAccepted (format g)) (sym (same g c ∙ c.init_parts.ensures g.C.H.HashFn.hash)) (IsAccepted-new (format g) c.slot_count-slot_count.result 0 c.max_load_factor-factor.result.0 (is_count g c.before))

pub invariant_of-self : goal.invariant_of-self
invariant_of-self g c =
    let at = (goal.at.invariant_of-self g c).After-init_parts in
    (accepted g at, omega (arith, ap length (same g at), long g at, c.self.invariant.1))

pub returns-clause-bytes : goal.returns-clause-bytes
returns-clause-bytes g c =
    let at = (goal.at.returns-clause-bytes g c).After-init_parts in
    let s = c.slot_count-slot_count.result in
    let f = c.max_load_factor-factor.result.0 in
    let factor : f ≡ header_factor (g.M.ByteStore.bytes c.args.self.now) = c.max_load_factor-factor.ensures ∙ ap header_factor c.header-header.ensures.bytes in
    same g at ∙ c.init_parts.ensures g.C.H.HashFn.hash ∙ with_count-new (format g) s 0 f (is_count g at.before) ∙ (λ i. image (format g) (empty (slots g at.before i) (factor i)))

pub returns-clause-accepted : goal.returns-clause-accepted
returns-clause-accepted g c = accepted g (goal.at.returns-clause-accepted g c).After-init_parts
