use Rattle.std.proofs.Common.{◌∙◌, max, sym, ap, ap₂}
use Rattle.odht_tool_core.specs.GroupNumbers.{capped, groups_to_free}
use Rattle.odht_tool_core.proofs.DynSlots.{misses_more}
use Rattle.odht_tool_core.proofs.Tallies.{largest-none}
use Rattle.odht_tool_core.proofs.stored.StoredTable.longest_miss.Goals as goal

pub loop-home-init : goal.loop-home-init
loop-home-init c = sym largest-none

-- one home more
pub loop-home-preserved : goal.loop-home-preserved
loop-home-preserved c =
    let T = c.args.self.now in
    let o = c.args.bound in
    let b = c.loop-home.home in
    let groups = c.groups_to_free-groups.ensures ∙ ap (λ x. capped o (groups_to_free x b)) (c.controls-control.ensures.value ∙ ap (λ t. t.control) c.self.view_is) in
    c.max-longest.ensures ∙ ap₂ max c.loop-home.invariant groups ∙ sym (misses_more T o b)
