use Rattle.std.proofs.Common.{◌≡◌, ◌∙◌, ap, subst, sym}
use Rattle.odht_raw.specs.Words.{Format, format_of, header_slots, image_len, IsSlotCount}
use Rattle.odht_raw.proofs.lemmas.Accepted.{accepted_len, accepted_opening, accepted_slots}
use Rattle.odht_raw.proofs.memory_layout.opening.parts_in.Given.{Over}
use Rattle.odht_raw.proofs.memory_layout.opening.parts_in.Goals.{After-slot_count-slots}
use Rattle.odht_raw.proofs.memory_layout.opening.parts_in.Goals as goal

-- the slot count is that of the header
slots_are : (g : Over) (c : After-slot_count-slots g) → c.slot_count-slots.result ≡ header_slots c.args.bytes.now
slots_are g c = c.slot_count-slots.ensures ∙ ap header_slots c.of.ensures

pub of-requires : goal.of-requires
of-requires g c = (accepted_opening (format_of (g.L.Lengths.key_len c.args.lengths) (g.L.Lengths.value_len c.args.lengths) g.H.HashFn.hash) c.args.bytes.now c.requires.accepted).long

pub cut-requires-clause-slots : goal.cut-requires-clause-slots
cut-requires-clause-slots g c = slots_are g (goal.at.cut-requires-clause-slots g c).After-slot_count-slots

pub cut-requires-clause-count : goal.cut-requires-clause-count
cut-requires-clause-count g c =
    subst IsSlotCount (sym (slots_are g (goal.at.cut-requires-clause-count g c).After-slot_count-slots))
    (accepted_slots (format_of (g.L.Lengths.key_len c.args.lengths) (g.L.Lengths.value_len c.args.lengths) g.H.HashFn.hash) c.args.bytes.now c.requires.accepted)

pub cut-requires-clause-long : goal.cut-requires-clause-long
cut-requires-clause-long g c =
    let F : Format = format_of (g.L.Lengths.key_len c.args.lengths) (g.L.Lengths.value_len c.args.lengths) g.H.HashFn.hash in
    accepted_len F c.args.bytes.now c.requires.accepted ∙ ap (image_len F) (sym (slots_are g (goal.at.cut-requires-clause-long g c).After-slot_count-slots))
