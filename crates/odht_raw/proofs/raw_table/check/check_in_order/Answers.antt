use Rattle.std.proofs.Common.{rules, ◌≡◌, ◌∙◌, ◌-◌, ◌<◌, length, sym, ap, subst, arith, Err, Some, None}
use Rattle.odht_header.specs.Refusals.{slot_refusal_at, bad_free_control, hashes_refusal_at}
use Rattle.odht_header.proofs.lemmas.FirstErrors.{Ok-checked, Err-checked}
use Rattle.odht_raw.specs.DynParts.{parts_format}
use Rattle.odht_raw.specs.Summaries.{IsFirstError}
use Rattle.odht_raw.proofs.lemmas.SlotSummary.{first_refused, first_stray, one_more, passes}
use Rattle.odht_raw.proofs.raw_table.check.check_in_order.Given.{Over}
use Rattle.odht_raw.proofs.raw_table.check.check_in_order.Goals.{In-loop-slot}
use Rattle.odht_raw.proofs.raw_table.check.check_in_order.Goals as goal

-- the control bytes are as many as fit
pub overflow_add-slot-end : goal.overflow_add-slot-end
overflow_add-slot-end g c =
    let mirrored = c.controls-control.ensures.len in
    let few = c.type_inv.control in
    let within = c.requires.size in
    search rules

-- the slot that is looked at is before the mirror
module _ (g : Over) (c : In-loop-slot g) where
  inside : c.loop-slot.slot < length c.controls-control.result.now
  inside = omega (arith, c.controls-control.ensures.len, c.requires.size, c.loop-slot-test.true)

  low : c.loop-slot.slot < length c.args.table.now.parts.control - 16
  low = omega (arith, c.controls-control.ensures.len, ap length c.controls-control.ensures.value, c.requires.size, c.loop-slot-test.true)

pub returns-in_err-check_slot-clause-err : goal.returns-in_err-check_slot-clause-err
returns-in_err-check_slot-clause-err g c =
    let at = (goal.at.returns-in_err-check_slot-clause-err g c).In-loop-slot in
    let T = c.args.table.now.parts in
    let here : hashes_refusal_at (parts_format c.args.table.now g.H.HashFn.hash) T.entries.bytes T.control c.loop-slot.slot ≡ Some c.in_err-check_slot.field-0.0 = Err-checked _ _ (sym c.in_err-check_slot.was ∙ c.check_slot.ensures) in
    let refusal : c.from_residual.result ≡ Err c.in_err-check_slot.field-0.0 = search rules in
    subst (λ r. IsFirstError (parts_format c.args.table.now g.H.HashFn.hash) c.args.table.now.parts r) (sym refusal)
    (sym (first_refused (parts_format c.args.table.now g.H.HashFn.hash) c.args.table.now.parts c.loop-slot.slot c.loop-slot.invariant (low g at) _ here))

pub returns-in_err-check_free_control-clause-err : goal.returns-in_err-check_free_control-clause-err
returns-in_err-check_free_control-clause-err g c =
    let at = (goal.at.returns-in_err-check_free_control-clause-err g c).In-loop-slot in
    let T = c.args.table.now.parts in
    let none : hashes_refusal_at (parts_format c.args.table.now g.H.HashFn.hash) T.entries.bytes T.control c.loop-slot.slot ≡ None = Ok-checked _ (sym c.in_ok-check_slot.was ∙ c.check_slot.ensures) in
    let stray : bad_free_control T.control c.loop-slot.slot ≡ Some c.in_err-check_free_control.field-0.0 = ap (λ b. bad_free_control b c.loop-slot.slot) (sym c.controls-control.ensures.value) ∙ Err-checked _ _ (sym c.in_err-check_free_control.was ∙ c.check_free_control.ensures) in
    let refusal : c.from_residual-in_err-check_free_control.result ≡ Err c.in_err-check_free_control.field-0.0 = search rules in
    subst (λ r. IsFirstError (parts_format c.args.table.now g.H.HashFn.hash) c.args.table.now.parts r) (sym refusal)
    (sym (first_stray (parts_format c.args.table.now g.H.HashFn.hash) c.args.table.now.parts c.loop-slot.slot c.loop-slot.invariant (low g at) _ none stray))

pub loop-slot-preserved : goal.loop-slot-preserved
loop-slot-preserved g c =
    one_more (λ i. slot_refusal_at (parts_format c.args.table.now g.H.HashFn.hash) c.args.table.now.parts.entries.bytes c.args.table.now.parts.control i ≡ None) c.loop-slot.slot c.loop-slot.invariant
    (passes (parts_format c.args.table.now g.H.HashFn.hash) c.args.table.now.parts c.loop-slot.slot (Ok-checked _ (sym c.in_ok-check_slot.was ∙ c.check_slot.ensures)) (ap (λ b. bad_free_control b c.loop-slot.slot) (sym c.controls-control.ensures.value) ∙ Ok-checked _ (sym c.in_ok-check_free_control.was ∙ c.check_free_control.ensures)))

pub check_free_control-requires : goal.check_free_control-requires
check_free_control-requires g c = inside g (goal.at.check_free_control-requires g c).In-loop-slot
