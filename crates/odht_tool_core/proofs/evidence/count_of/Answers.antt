use Rattle.std.proofs.Common.{◌≡◌, ◌∙◌, ◌+◌, sym, ap, arith, cond, count_by}
use Rattle.odht_tool_core.specs.Evidence.{looks, parts_to}
use Rattle.odht_tool_core.proofs.Looks.{count_more}
use Rattle.odht_tool_core.proofs.evidence.count_of.Goals.{then-is_so, else-is_so}
use Rattle.odht_tool_core.proofs.evidence.count_of.Goals as goal

pub loop-slot-preserved : goal.loop-slot-preserved
loop-slot-preserved c =
    let T = c.args.table.now in
    let n = c.loop-slot.slot in
    let before = c.loop-slot.invariant in
    let counted = count_by (looks c.args.look) (parts_to c.args.side T n) in
    let more = count_more c.args.side T c.args.look n in
    let here = sym c.is_occupied_as-is_so.ensures in
    elim c.if-is_so.branch [
      | then-is_so w ↦ (
          let added = more ∙ ap (λ b. counted + cond b 1 0) (here ∙ w.if-is_so.true) in
          (w.count-is ∙ ap (λ k. k + 1) before.0 ∙ sym added, omega (arith, w.count-is, before.1)))
      | else-is_so w ↦ (
          let kept = more ∙ ap (λ b. counted + cond b 1 0) (here ∙ w.if-is_so.false) in
          (omega (arith, w.count-is, before.0, kept), omega (arith, w.count-is, before.1)))
    ]
