use Rattle.std.proofs.Common.{rules, ◌≡◌, ◌∙◌, ◌-◌, min, length, sym, ap, subst, Err, arith, inl, inr, Some, None}
use Rattle.odht_raw.proofs.lemmas.Below.{cases_lt, Err-checked, Ok-checked}
use Rattle.odht_raw.specs.Words.{checked, Format, hashes_refusal_at}
use Rattle.odht_raw.specs.DynParts.{parts_format}
use Rattle.odht_raw.proofs.lemmas.SlotChecks.{hashes_refusal-None, hashes_refusal-at}
use Rattle.odht_raw.proofs.raw_table.parts.Parts.sanity_check_hashes.Goals as goal

pub returns-in_err-check_slot : goal.returns-in_err-check_slot
returns-in_err-check_slot g c =
    let F : Format = parts_format c.args.self.now g.H.HashFn.hash in
    let is : length c.args.self.now.parts.control - 16 ≡ c.len.result = omega (arith, c.len.ensures.whole.mirrored, c.len.ensures.value) in
    let here : hashes_refusal_at F c.args.self.now.parts.entries.bytes c.args.self.now.parts.control c.loop-slot.slot ≡ Some c.in_err-check_slot.field-0.0 = Err-checked _ _ (sym c.in_err-check_slot.was ∙ c.check_slot.ensures) in
    let refusal : c.from_residual.result ≡ Err c.in_err-check_slot.field-0.0 = search rules in
    refusal ∙ sym (ap checked (hashes_refusal-at F c.args.self.now.parts.entries.bytes c.args.self.now.parts.control c.args.slots_to_check c.min-slots.result
    (ap (min c.args.slots_to_check) is ∙ sym c.min-slots.ensures) c.loop-slot.slot _ c.loop-slot-test.true c.loop-slot.invariant here))

pub loop-slot-preserved : goal.loop-slot-preserved
loop-slot-preserved g c i l = elim (cases_lt i c.loop-slot.slot) [
  | inl before ↦ c.loop-slot.invariant i before
  | inr here ↦
      let F : Format = parts_format c.args.self.now g.H.HashFn.hash in
      let e : c.loop-slot.slot ≡ i = omega (arith, l, here) in
      subst (λ j. hashes_refusal_at F c.args.self.now.parts.entries.bytes c.args.self.now.parts.control j ≡ None) e (Ok-checked _ (sym c.in_ok-check_slot.was ∙ c.check_slot.ensures))
]

pub returns : goal.returns
returns g c =
    let F : Format = parts_format c.args.self.now g.H.HashFn.hash in
    let is : length c.args.self.now.parts.control - 16 ≡ c.len.result = omega (arith, c.len.ensures.whole.mirrored, c.len.ensures.value) in
    sym (ap checked (hashes_refusal-None F c.args.self.now.parts.entries.bytes c.args.self.now.parts.control c.args.slots_to_check c.min-slots.result
    (ap (min c.args.slots_to_check) is ∙ sym c.min-slots.ensures) (λ i l. c.loop-slot.invariant i (omega (arith, l, c.loop-slot-test.false)))))
