use Rattle.std.proofs.Common.{◌≡◌, ◌+◌, ◌*◌, ◌≤◌, ◌∙◌, ◌++◌, List, ℕ, ap, sym, subst, arith, length, length-append, append_assoc}
use Rattle.odht_raw.specs.Words.{entry_len, Format, format_of, header_slots, IsSlotCount, overwritten_at, Pair, with_entry, with_tag}
use Rattle.odht_raw.proofs.lemmas.Below.{length-overwritten_at, with_entry-append, with_tag-append}
use Rattle.odht_raw.specs.Frame.{IsAccepted}
use Rattle.odht_raw.proofs.lemmas.Accepted.{accepted_opening, accepted_len, accepted_slots, accepted_entry, accepted_control, accepted_mirror, IsAccepted-overwritten_at, IsAccepted-tagged_at}
use Rattle.odht_raw.proofs.lemmas.Borrows.{borrowed-bytes, borrowed-same}
use Rattle.odht_raw.proofs.lemmas.ListWrites.{IsCut, cut_accepted, cut-length}
use Rattle.odht_raw.proofs.memory_layout.allocation.Allocation.write_entry.Given.{Over}
use Rattle.odht_raw.proofs.memory_layout.allocation.Allocation.write_entry.Goals as goal
use Rattle.odht_raw.proofs.memory_layout.allocation.Allocation.write_entry.Goals.{After-split_at_mut-entries, After-write_slot}

abbrev format : Over → Format
format g = format_of g.C.EncodedKey.ByteArray.LEN g.C.EncodedValue.ByteArray.LEN g.C.H.HashFn.hash

pub of-requires : goal.of-requires
of-requires g c = (accepted_opening (format g) c.bytes_mut-bytes.result.now (subst (IsAccepted (format g)) (sym c.bytes_mut-bytes.ensures.value) c.self.invariant.0)).long

pub entry_at-requires-after_bounds : goal.entry_at-requires-after_bounds
entry_at-requires-after_bounds g c κs within =
    let slots : c.slot_count-slots.result ≡ header_slots c.bytes_mut-bytes.result.now = c.slot_count-slots.ensures ∙ ap header_slots c.of.ensures in
    rw slots (omega (arith, accepted_len (format g) c.bytes_mut-bytes.result.now (subst (IsAccepted (format g)) (sym c.bytes_mut-bytes.ensures.value) c.self.invariant.0)))

pub split_at_mut-table-requires : goal.split_at_mut-table-requires
split_at_mut-table-requires g c =
    let slots : c.slot_count-slots.result ≡ header_slots c.bytes_mut-bytes.result.now = c.slot_count-slots.ensures ∙ ap header_slots c.of.ensures in
    rw (c.entry_at.ensures, slots) (omega (arith, accepted_len (format g) c.bytes_mut-bytes.result.now (subst (IsAccepted (format g)) (sym c.bytes_mut-bytes.ensures.value) c.self.invariant.0)))

-- the bytes of the store are accepted
accepted : (g : Over) (c : After-split_at_mut-entries g) → IsAccepted (format g) c.bytes_mut-bytes.result.now
accepted g c = subst (IsAccepted (format g)) (sym c.bytes_mut-bytes.ensures.value) c.self.invariant.0

-- the slot count is that of the header
slots_are : (g : Over) (c : After-split_at_mut-entries g) → c.slot_count-slots.result ≡ header_slots c.bytes_mut-bytes.result.now
slots_are g c = c.slot_count-slots.ensures ∙ ap header_slots c.of.ensures

-- header, entries and control bytes are those of the bytes
cut : (g : Over) (c : After-split_at_mut-entries g) → IsCut (format g) c.bytes_mut-bytes.result.now c.split_at_mut-entries.result.0.now c.split_at_mut-entries.result.1.now c.split_at_mut-table.result.1.now
cut g c =
    cut_accepted (format g) c.bytes_mut-bytes.result.now (accepted g c) c.entry_at.result (c.entry_at.ensures ∙ ap (λ s. 32 + s * entry_len (format g)) (slots_are g c)) _ _ _ _
    c.split_at_mut-table.ensures.front c.split_at_mut-table.ensures.back c.split_at_mut-entries.ensures.front c.split_at_mut-entries.ensures.back

pub write_slot-requires-clause-slots : goal.write_slot-requires-clause-slots
write_slot-requires-clause-slots g c =
    let at = (goal.at.write_slot-requires-clause-slots g c).After-split_at_mut-entries in
    subst IsSlotCount (sym (slots_are g at)) (accepted_slots (format g) c.bytes_mut-bytes.result.now (accepted g at))

pub write_slot-requires-clause-control : goal.write_slot-requires-clause-control
write_slot-requires-clause-control g c =
    let at = (goal.at.write_slot-requires-clause-control g c).After-split_at_mut-entries in
    omega (arith, (cut g at).mirrored, (cut g at).slots, slots_are g at)

pub write_slot-requires-clause-entries : goal.write_slot-requires-clause-entries
write_slot-requires-clause-entries g c =
    let at = (goal.at.write_slot-requires-clause-entries g c).After-split_at_mut-entries in
    (cut g at).long ∙ ap (λ s. s * entry_len (format g)) ((cut g at).slots ∙ sym (slots_are g at))

pub write_slot-requires-clause-slot : goal.write_slot-requires-clause-slot
write_slot-requires-clause-slot g c =
    let same : c.bytes_mut-bytes.result.now ≡ g.M.ByteStore.bytes c.args.self.now = c.bytes_mut-bytes.ensures.value ∙ ap g.M.ByteStore.bytes c.self.view_is in
    omega (arith, slots_are g (goal.at.write_slot-requires-clause-slot g c).After-split_at_mut-entries, ap header_slots same, c.requires)

-- what was written
module _ (g : Over) (c : After-write_slot g)
    (cut : IsCut (format g) c.bytes_mut-bytes.result.now c.split_at_mut-entries.result.0.now c.split_at_mut-entries.result.1.now c.split_at_mut-table.result.1.now) where
  abbrev B : List ℕ
  B = g.M.ByteStore.bytes c.args.self.now

  before : c.bytes_mut-bytes.result.now ≡ B
  before = c.bytes_mut-bytes.ensures.value ∙ ap g.M.ByteStore.bytes c.self.view_is

  abbrev pair : Pair
  pair = record { key = g.C.EncodedKey.ByteArray.bytes c.args.key.now; value = g.C.EncodedValue.ByteArray.bytes c.args.value.now }

  -- the bytes that are left
  abbrev joined : List ℕ
  joined = c.split_at_mut-entries.result.0.now ++ c.write_slot.new.entries ++ c.write_slot.new.control

  written : joined ≡ with_tag (format g) (header_slots B) (with_entry (format g) B c.args.slot pair) c.args.slot c.args.tag
  written =
      let F = format g in
      let H = c.split_at_mut-entries.result.0.now in
      let es = c.split_at_mut-entries.result.1.now in
      let ctrl = c.split_at_mut-table.result.1.now in
      let s = header_slots B in
      let slots : header_slots H ≡ s = cut.slots ∙ ap header_slots before in
      let long : length es ≡ s * entry_len F = cut.long ∙ ap (λ n. n * entry_len F) slots in
      let mirrored : length ctrl ≡ s + 16 = omega (arith, cut.mirrored, slots) in
      let es' = overwritten_at es (c.args.slot * entry_len F) (pair.key ++ pair.value) in
      let within = c.requires in
      let entries : c.write_slot.new.entries ≡ es' =
      c.write_slot.ensures.entries ∙ (λ i. overwritten_at es (c.args.slot * entry_len F) (c.as_slice-key.ensures.value i ++ c.as_slice-value.ensures.value i)) in
      let long' : length es' ≡ s * entry_len F = sym (ap length entries) ∙ c.write_slot.auto.entries ∙ long in
      let entry : with_entry F B c.args.slot pair ≡ H ++ (es' ++ ctrl) =
      ap (λ D. with_entry F D c.args.slot pair) (sym before ∙ cut.whole) ∙ with_entry-append F s H es ctrl c.args.slot pair cut.head long within c.as_slice-key.ensures.bytes.len c.as_slice-value.ensures.bytes.len in
      append_assoc H c.write_slot.new.entries c.write_slot.new.control
      ∙ (λ i. H ++ (entries i ++ c.write_slot.ensures.control i))
      ∙ sym (with_tag-append F s H es' ctrl c.args.slot c.args.tag cut.head long' mirrored)
      ∙ ap (λ D. with_tag F s D c.args.slot c.args.tag) (sym entry)

  same_length : length joined ≡ length c.bytes_mut-bytes.result.now
  same_length = cut-length (format g) _ _ _ _ cut c.write_slot.new.entries c.write_slot.new.control c.write_slot.auto.entries c.write_slot.auto.control

  -- the store has them
  same : g.M.ByteStore.bytes (g.M.ByteStoreMut.after_borrow c.self.inside.store joined) ≡ joined
  same =
      borrowed-bytes g.M.ByteStore.bytes g.M.ByteStoreMut.holding g.M.ByteStoreMut.after_borrow g.met.M.ByteStoreMut.held g.met.M.ByteStoreMut.after_borrow_fits c.self.inside.store joined
      (same_length ∙ ap length c.bytes_mut-bytes.ensures.value)

  -- and they are accepted
  fits : IsAccepted (format g) joined
  fits =
      let F = format g in
      let is : IsAccepted F B = subst (IsAccepted F) before cut.accepted in
      let slot = c.args.slot in
      let d = pair.key ++ pair.value in
      let long = length-append pair.key pair.value in
      let room : 32 + slot * entry_len F + length d ≤ length B = omega (arith, accepted_entry F B is slot c.requires, long, c.as_slice-key.ensures.bytes.len, c.as_slice-value.ensures.bytes.len) in
      let D = overwritten_at B (32 + slot * entry_len F) d in
      let same : length D ≡ length B = length-overwritten_at B (32 + slot * entry_len F) d room in
      subst (IsAccepted F) (sym written)
      (IsAccepted-tagged_at F D (IsAccepted-overwritten_at F B is (32 + slot * entry_len F) d (omega arith) room) (32 + header_slots B * entry_len F + slot) (header_slots B) slot c.args.tag
      (omega arith) (accepted_control F B is D slot same c.requires) (accepted_mirror F B is D slot same))

pub returns-clause-bytes : goal.returns-clause-bytes
returns-clause-bytes g c =
    let at = (goal.at.returns-clause-bytes g c).After-write_slot in
    let cut = cut g (goal.at.returns-clause-bytes g c).After-split_at_mut-entries in
    same g at cut ∙ written g at cut

pub returns-clause-accepted : goal.returns-clause-accepted
returns-clause-accepted g c =
    let at = (goal.at.returns-clause-accepted g c).After-write_slot in
    let cut = cut g (goal.at.returns-clause-accepted g c).After-split_at_mut-entries in
    rw (same g at cut) (fits g at cut)

pub invariant_of-self : goal.invariant_of-self
invariant_of-self g c =
    let at = (goal.at.invariant_of-self g c).After-write_slot in
    let cut = cut g (goal.at.invariant_of-self g c).After-split_at_mut-entries in
    (rw (same g at cut) (fits g at cut), omega (arith, ap length (same g at cut), same_length g at cut, c.bytes_mut-bytes.type_inv.0))

pub returns-clause-same_store : goal.returns-clause-same_store
returns-clause-same_store g c =
    let at = (goal.at.returns-clause-same_store g c).After-write_slot in
    let cut = cut g (goal.at.returns-clause-same_store g c).After-split_at_mut-entries in
    subst (λ s. g.M.ByteStoreMut.after_borrow c.self.inside.store (joined g at cut) ≡ g.M.ByteStoreMut.holding s (g.M.ByteStore.bytes (g.M.ByteStoreMut.after_borrow c.self.inside.store (joined g at cut)))) c.self.view_is
    (borrowed-same g.M.ByteStore.bytes g.M.ByteStoreMut.holding g.M.ByteStoreMut.after_borrow g.met.M.ByteStoreMut.held g.met.M.ByteStoreMut.after_borrow_fits c.self.inside.store (joined g at cut) (same_length g at cut ∙ ap length c.bytes_mut-bytes.ensures.value))
