use Rattle.std.proofs.Common.{rules, ◌≡◌, ◌∙◌, ap, sym, subst}
use Rattle.odht_raw.specs.Words.{Format, format_of, header_slots, image_len, IsImage, IsSlotCount}
use Rattle.odht_raw.proofs.lemmas.Accepted.{accepted_opening, accepted_len, accepted_slots}
use Rattle.odht_raw.proofs.memory_layout.allocation.Allocation.data_slices.Given.{Over}
use Rattle.odht_raw.proofs.memory_layout.allocation.Allocation.data_slices.Goals.{After-slot_count-slots}
use Rattle.odht_raw.proofs.memory_layout.allocation.Allocation.data_slices.Goals as goal

abbrev format : Over → Format
format g = format_of g.C.EncodedKey.ByteArray.LEN g.C.EncodedValue.ByteArray.LEN g.C.H.HashFn.hash

-- the slot count is that of the header
slots_are : (g : Over) (c : After-slot_count-slots g) → c.slot_count-slots.result ≡ header_slots c.bytes-bytes.result.now
slots_are g c = c.slot_count-slots.ensures ∙ ap header_slots c.of.ensures

pub of-requires : goal.of-requires
of-requires g c =
    let long = (accepted_opening (format g) (g.M.ByteStore.bytes c.self.inside.store) c.self.invariant.0).long in
    rw (c.bytes-bytes.ensures) long

pub cut-parts-requires-clause-slots : goal.cut-parts-requires-clause-slots
cut-parts-requires-clause-slots g c = slots_are g (goal.at.cut-parts-requires-clause-slots g c).After-slot_count-slots

pub cut-parts-requires-clause-count : goal.cut-parts-requires-clause-count
cut-parts-requires-clause-count g c =
    subst IsSlotCount (ap header_slots (sym c.bytes-bytes.ensures) ∙ sym (slots_are g (goal.at.cut-parts-requires-clause-count g c).After-slot_count-slots)) (accepted_slots (format g) (g.M.ByteStore.bytes c.self.inside.store) c.self.invariant.0)

pub cut-parts-requires-clause-long : goal.cut-parts-requires-clause-long
cut-parts-requires-clause-long g c =
    let long = accepted_len (format g) (g.M.ByteStore.bytes c.self.inside.store) c.self.invariant.0 in
    rw (c.bytes-bytes.ensures) (long ∙ ap (image_len (format g)) (ap header_slots (sym c.bytes-bytes.ensures) ∙ sym (slots_are g (goal.at.cut-parts-requires-clause-long g c).After-slot_count-slots)))

pub returns-clause-parts : goal.returns-clause-parts
returns-clause-parts g c P is =
    let image = subst (IsImage (format g) P) (ap g.M.ByteStore.bytes (sym c.self.view_is) ∙ sym c.bytes-bytes.ensures) is in
    let parts = c.cut-parts.ensures.on_valid P image in
    search rules
