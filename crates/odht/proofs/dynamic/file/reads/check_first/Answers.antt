use Rattle.std.proofs.Common.{arith, refl, ◌≡◌, ◌∙◌, ◌*◌, ℕ, List, sym, ap}
use Rattle.std.specs.Prelude.{option_map}
use Rattle.odht_raw.specs.Words.{bytes_at, checked, Format, format_of, hashes_refusal}
use Rattle.odht_base.proofs.lemmas.SlotCounts.{IsSlotCount-pow}
use Rattle.odht_header.proofs.lemmas.FirstErrors.{Ok-checked, Err-checked}
use Rattle.odht_raw.specs.Reads.{entry_size, read_entries, read_controls, IsHeldBy}
use Rattle.odht_raw.specs.DynParts.{DynParts, parts_format}
use Rattle.odht.specs.declared.dynamic.DynError.TheVariants.{Rejected}
use Rattle.odht.proofs.lemmas.Files.{first_slots}
use Rattle.odht.proofs.dynamic.file.reads.check_first.Given.{Over}
use Rattle.odht.proofs.dynamic.file.reads.check_first.Goals.{After-sanity_check_hashes}
use Rattle.odht.proofs.dynamic.file.reads.check_first.Goals as goal

pub new-first-requires-clause-slots : goal.new-first-requires-clause-slots
new-first-requires-clause-slots g c = IsSlotCount-pow 16 4 (omega arith) (omega arith) refl

-- what the check of the slots that were read says of all
module _ (g : Over) (c : After-sanity_check_hashes g) (B : List ℕ) (h : g.S.ReadAt.gives c.args.source.now B) (held : IsHeldBy c.args.place.now B) where
  abbrev F : Format
  F = format_of c.args.place.now.layout.key_len c.args.place.now.layout.value_len g.H.HashFn.hash

  control : c.read_exact_at.new.out ≡ bytes_at B c.args.place.now.control_at 32
  control = c.in-Ok.ensures.given B h

  entries : c.read_exact_at-2.new.out ≡ bytes_at B c.args.place.now.entries_at (16 * entry_size c.args.place.now)
  entries =
      c.in-Ok-read_exact_at.ensures.given B h
      ∙ ap (bytes_at B c.args.place.now.entries_at) (c.split_at_mut-entries.ensures.front_len ∙ ap (λ n. 16 * n) c.entry_len.ensures)

  checked_is : c.sanity_check_hashes.result ≡ checked (hashes_refusal F (read_entries c.args.place.now B).bytes (read_controls c.args.place.now B) 10)
  checked_is =
      c.sanity_check_hashes.ensures
      ∙ ap (λ (S : DynParts). checked (hashes_refusal (parts_format S g.H.HashFn.hash) S.parts.entries.bytes S.parts.control 10)) c.new-first.ensures
      ∙ (λ i. checked (hashes_refusal F (entries i) (control i) 10))
      ∙ ap checked (first_slots F B c.args.place.now.entries_at c.args.place.now.control_at c.args.place.now.slots c.requires.slots.least held.controls)

pub returns-in-Ok-sanity_check_hashes : goal.returns-in-Ok-sanity_check_hashes
returns-in-Ok-sanity_check_hashes g c =
    let at = (goal.at.returns-in-Ok-sanity_check_hashes g c).After-sanity_check_hashes in
    record { given = λ B h held. (ap (option_map Rejected) (Ok-checked _ (sym c.in-Ok-sanity_check_hashes.is ∙ checked_is g at B h held)), tt) }

pub returns-in-Err-sanity_check_hashes : goal.returns-in-Err-sanity_check_hashes
returns-in-Err-sanity_check_hashes g c =
    let at = (goal.at.returns-in-Err-sanity_check_hashes g c).After-sanity_check_hashes in
    record { given = λ B h held. ap (option_map Rejected) (Err-checked _ c.in-Err-sanity_check_hashes.rejected (sym c.in-Err-sanity_check_hashes.is ∙ checked_is g at B h held)) }
