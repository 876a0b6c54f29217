use Rattle.std.proofs.Common.{◌∙◌, ◌≤◌, sym, ap, arith}
use Rattle.odht_tool_core.specs.InfoNumbers.{least_key_len}
use Rattle.odht_tool_core.proofs.DynSlots.{disagrees, all_agree}
use Rattle.odht_tool_core.proofs.stored.StoredTable.agrees.Goals as goal

pub returns-then-is_mismatch : goal.returns-then-is_mismatch
returns-then-is_mismatch c =
    let slots = c.len-slot-end.ensures.value ∙ ap (λ t. t.slots) c.self.view_is in
    sym (disagrees c.args.self.now c.args.hash c.loop-slot.slot (omega (arith, slots, c.loop-slot-test.true)) (sym c.is_mismatch.ensures ∙ c.if-is_mismatch.true))

pub returns : goal.returns
returns c =
    let slots = c.len-slot-end.ensures.value ∙ ap (λ t. t.slots) c.self.view_is in
    let size = c.layout.ensures.key ∙ ap (λ t. t.key_len) c.self.view_is in
    let long : least_key_len c.args.hash ≤ c.args.self.now.key_len = omega (arith, size, c.least_key_size.ensures, c.if-layout-least_key_size.false) in
    sym (all_agree c.args.self.now c.args.hash long (λ i l. c.loop-slot.invariant i (omega (arith, slots, l, c.loop-slot-test.false))))
