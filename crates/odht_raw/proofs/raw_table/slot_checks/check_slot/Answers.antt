use Rattle.std.proofs.Common.{◌≡◌, ◌∙◌, sym, ap, true, true≢false, replicate, slice_index}
use Rattle.std.specs.Result.{result_err}
use Rattle.odht_raw.specs.Words.{checked, counts_as_free}
use Rattle.odht_raw.specs.DynParts.{parts_format}
use Rattle.odht_raw.proofs.lemmas.SlotChecks.{zero_entry_passes, other_entry_refusal}
use Rattle.odht_raw.proofs.raw_table.slot_checks.check_slot.Given.{Over}
use Rattle.odht_raw.proofs.raw_table.slot_checks.check_slot.Goals.{After-has_zeros}
use Rattle.odht_raw.proofs.raw_table.slot_checks.check_slot.Goals as goal

-- the slot counts as free
free : (g : Over) (c : After-has_zeros g) → counts_as_free (slice_index c.args.table.now.parts.control c.args.slot) ≡ true
free g c = ap (λ b. counts_as_free (slice_index b c.args.slot)) (sym c.controls-control.ensures.value) ∙ sym c.is_empty_or_deleted.ensures ∙ c.if-is_empty_or_deleted.true

pub returns-then-has_zeros : goal.returns-then-has_zeros
returns-then-has_zeros g c =
    let T = c.args.table.now.parts in
    ap checked (sym (zero_entry_passes (parts_format c.args.table.now g.H.HashFn.hash) T.entries.bytes T.control c.args.slot (free g (goal.at.returns-then-has_zeros g c).After-has_zeros) _ (c.has_zeros.ensures.zeros.0 c.if-has_zeros.true)))

pub returns-then-is_empty_or_deleted : goal.returns-then-is_empty_or_deleted
returns-then-is_empty_or_deleted g c =
    let T = c.args.table.now.parts in
    ap checked (sym (other_entry_refusal (parts_format c.args.table.now g.H.HashFn.hash) T.entries.bytes T.control c.args.slot (free g (goal.at.returns-then-is_empty_or_deleted g c).After-has_zeros)
    (λ e. true≢false (sym (c.has_zeros.ensures.zeros.1 (e ∙ ap (λ n. replicate n 0) c.has_zeros.ensures.len)) ∙ c.if-has_zeros.false))))

pub returns : goal.returns
returns g c = ap checked (sym (ap result_err c.in_ok-check_key.was) ∙ c.check_key.ensures.err)
