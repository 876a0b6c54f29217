use Rattle.std.proofs.Common.{◌≡◌, ◌<◌, ◌-◌, ◌/◌, ◌^◌, ◌∙◌, sym, ap, arith, subst, length, slice_index}
use Rattle.odht_raw.specs.Words.{counts_as_free, Format, IsSlotCount}
use Rattle.odht_raw.specs.DynParts.{DynParts, parts_format}
use Rattle.odht_raw.specs.Parts.{EntryBytes, stored_in}
use Rattle.odht_raw.specs.Searches.{IsSearchEnd}
use Rattle.odht_raw.proofs.lemmas.Expected.{ends_here, whole_slots}
use Rattle.odht_header.proofs.lemmas.Formats.{IsFormat-format_of}
use Rattle.odht_raw.proofs.raw_table.parts.Parts.expected_end.Goals as goal

pub returns-then-is_empty_or_deleted-clause-placed :
    goal.returns-then-is_empty_or_deleted-clause-placed
returns-then-is_empty_or_deleted-clause-placed g c P h ends =
    let S : DynParts = c.args.self.now in
    let F : Format = parts_format S g.H.HashFn.hash in
    let whole = c.controls-control.ensures.whole in
    let f = IsFormat-format_of _ _ _ _ whole.fitting.key_short whole.fitting.value_short whole.hashes g.met.H.HashFn.fits in
    let same = whole_slots g.H.HashFn.MIN_LEN S whole in
    let low : c.args.slot < length S.parts.control - 16 = omega (arith, c.if-slot-len.true, c.len.ensures.value, same) in
    ends_here F P S.parts.entries.bytes S.parts.control c.args.key.now f h (subst IsSlotCount (sym same) whole.slots) c.args.slot low
    (ap (λ b. counts_as_free (slice_index b c.args.slot)) (sym c.controls-control.ensures.value) ∙ sym c.is_empty_or_deleted.ensures ∙ c.if-is_empty_or_deleted.true) ends

pub returns-clause-end : goal.returns-clause-end
returns-clause-end g c =
    let S : DynParts = c.args.self.now in
    let F : Format = parts_format S g.H.HashFn.hash in
    let same = whole_slots g.H.HashFn.MIN_LEN S c.controls-control.ensures.whole in
    let stored : S.parts.entries ≡ stored_in S.parts.entries.bytes S.parts.control = λ i. record { slots = sym same i; bytes = S.parts.entries.bytes } in
    let end = subst (λ (e : EntryBytes). IsSearchEnd F e S.parts.control c.args.key.now c.whole_search.result) stored c.whole_search.ensures in
    record {
      end = record { slot = end.slot; earlier = λ none. end.earlier };
      tag = c.tag_of-2.ensures ∙ ap (λ x. x / 2 ^ 25) c.requires.hash;
    }
