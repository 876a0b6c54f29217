use Rattle.std.proofs.Common.{◌∙◌, ◌≤◌, sym, arith}
use Rattle.odht_tool_core.specs.InfoNumbers.{DynParts, least_key_len}
use Rattle.odht_tool_core.proofs.DynSlots.{disagrees, all_agree}
use Rattle.odht_tool_reads.specs.Positions.{slots_parts}
use Rattle.odht_tool_reads.proofs.positions.names.fits.Goals as goal

pub returns-then-is_mismatch : goal.returns-then-is_mismatch
returns-then-is_mismatch c =
    let T : DynParts = slots_parts c.args.layout.key_len c.args.layout.value_len c.args.entries.now c.args.control.now in
    sym (disagrees T c.args.hash c.loop-slot.slot (omega (arith, c.loop-slot-test.true)) (sym c.is_mismatch.ensures ∙ c.if-is_mismatch.true))

pub returns : goal.returns
returns c =
    let T : DynParts = slots_parts c.args.layout.key_len c.args.layout.value_len c.args.entries.now c.args.control.now in
    let long : least_key_len c.args.hash ≤ c.args.layout.key_len = omega (arith, c.least_len.ensures, c.if-layout-least_len.false) in
    sym (all_agree T c.args.hash long (λ i l. c.loop-slot.invariant i (omega (arith, l, c.loop-slot-test.false))))
