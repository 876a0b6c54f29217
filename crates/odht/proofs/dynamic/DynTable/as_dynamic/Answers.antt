use Rattle.std.proofs.Common.{◌≡◌, ◌∙◌, ap, subst, arith}
use Rattle.odht_raw.specs.Words.{format_of, header_slots, IsFormat}
use Rattle.odht_base.proofs.lemmas.SlotCounts.{few_slots}
use Rattle.odht_header.proofs.lemmas.Formats.{IsFormat-format_of}
use Rattle.odht_raw.specs.DynParts.{DynParts}
use Rattle.odht_raw.proofs.lemmas.Accepted.{accepted_slots}
use Rattle.odht.specs.Dynamic.{DynStore, dyn_format}
use Rattle.odht.proofs.dynamic.DynTable.as_dynamic.Goals as goal

pub returns-clause-format : goal.returns-clause-format
returns-clause-format g c =
    let v = c.self.invariant in
    subst (λ (t : DynStore g.row.D.Denot). IsFormat (dyn_format t g.H.HashFn.hash)) c.self.view_is (IsFormat-format_of _ _ _ _ v.key_short v.value_short v.hashes g.met.H.HashFn.fits)

pub returns-clause-few : goal.returns-clause-few
returns-clause-few g c =
    let F = format_of c.self.inside.layout.key_len c.self.inside.layout.value_len g.H.HashFn.hash in
    let B = g.D.ByteStore.bytes c.self.inside.store in
    let few = few_slots (header_slots B) (accepted_slots F B c.self.invariant.accepted) in
    let slots : c.dynamic_parts.result.parts.entries.slots ≡ header_slots B = ap (λ (S : DynParts). S.parts.entries.slots) c.dynamic_parts.ensures.parts ∙ ap header_slots c.bytes.ensures in
    omega (arith, few, slots)
