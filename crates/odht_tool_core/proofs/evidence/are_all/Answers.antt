use Rattle.std.proofs.Common.{◌∙◌, ◌&&◌, sym, ap}
use Rattle.std.proofs.Math.Bool.{and-false}
use Rattle.std.specs.List.{list_all}
use Rattle.odht_tool_core.specs.Evidence.{looks, parts_to}
use Rattle.odht_tool_core.proofs.Looks.{all_more, and_true}
use Rattle.odht_tool_core.proofs.evidence.are_all.Goals.{then-not-is_so, else-not-is_so}
use Rattle.odht_tool_core.proofs.evidence.are_all.Goals as goal

pub loop-slot-preserved : goal.loop-slot-preserved
loop-slot-preserved c =
    let T = c.args.table.now in
    let n = c.loop-slot.slot in
    let before = list_all (looks c.args.look) (parts_to c.args.side T n) in
    let more = all_more c.args.side T c.args.look n in
    let here = sym c.is_free_or-is_so.ensures in
    elim c.if-not-is_so.branch [
      | then-not-is_so w ↦ w.are_all-is ∙ sym (more ∙ ap (λ b. before && b) (here ∙ w.if-not-is_so.true) ∙ and-false before)
      | else-not-is_so w ↦ w.are_all-is ∙ c.loop-slot.invariant ∙ sym (more ∙ ap (λ b. before && b) (here ∙ w.if-not-is_so.false) ∙ and_true before)
    ]
