use Rattle.std.proofs.Common.{◌∙◌, ◌+◌, sym, ap, arith, slice_index}
use Rattle.odht_header.specs.Refusals.{checked}
use Rattle.odht_raw.proofs.lemmas.MirrorChecks.{mirror_refusal-None, mirror_refusal-at}
use Rattle.odht_raw.proofs.raw_table.check.check_mirror.Goals as goal

pub returns-then-control-slots : goal.returns-then-control-slots
returns-then-control-slots c =
    sym (ap checked (mirror_refusal-at c.args.control.now c.loop-index.index c.loop-index-test.true c.loop-index.invariant
    (λ e. c.if-control-slots.true (ap (λ s. slice_index c.args.control.now (s + c.loop-index.index)) c.slot_count_of-slots.ensures ∙ e))))

pub returns : goal.returns
returns c = sym (ap checked (mirror_refusal-None c.args.control.now (λ i l. c.loop-index.invariant i (omega (arith, l, c.loop-index-test.false)))))
