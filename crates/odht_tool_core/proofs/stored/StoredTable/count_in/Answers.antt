use Rattle.std.proofs.Common.{◌≡◌, ◌∙◌, ◌+◌, true, false, get_or, sym, ap, arith}
use Rattle.odht_base.specs.Decoded.{counts_as_free}
use Rattle.odht_tool_core.proofs.DynSlots.{count_free, count_more}
use Rattle.odht_tool_core.proofs.stored.StoredTable.count_in.Goals.{then-not-is_free, else-not-is_free}
use Rattle.odht_tool_core.proofs.stored.StoredTable.count_in.Goals as goal

-- a slot that is occupied is counted, and a free one changes nothing
pub loop-index-preserved : goal.loop-index-preserved
loop-index-preserved c =
    let T = c.args.self.now in
    let a = c.args.first in
    let n = c.loop-index.index in
    let before = c.loop-index.invariant in
    let control = ap (λ t. counts_as_free (get_or t.control (a + n) 0)) (sym c.self.view_is) ∙ ap (λ b. counts_as_free (get_or b (a + n) 0)) (sym c.controls-control.ensures.value) in
    elim c.if-not-is_free.branch [
      | then-not-is_free w ↦ (
          let held : counts_as_free (get_or T.control (a + n) 0) ≡ false = control ∙ sym c.is_empty_or_deleted-is_free.ensures ∙ w.if-not-is_free.true in
          let more = count_more T a n held in
          (w.count-is ∙ ap (λ k. k + 1) before.0 ∙ sym more, omega (arith, w.count-is, before.1)))
      | else-not-is_free w ↦ (
          let free : counts_as_free (get_or T.control (a + n) 0) ≡ true = control ∙ sym c.is_empty_or_deleted-is_free.ensures ∙ w.if-not-is_free.false in
          (w.count-is ∙ before.0 ∙ sym (count_free T a n free), omega (arith, w.count-is, before.1)))
    ]
