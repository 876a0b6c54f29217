use Rattle.std.proofs.Common.{rules, ◌≡◌, ◌∙◌, true, false, length, take, sym, ap, arith}
use Rattle.std.proofs.lemmas.List.{length-take-le}
use Rattle.odht_base.specs.Decoded.{header_slots}
use Rattle.odht_tool_core.specs.Finds.{has_front, has_controls}
use Rattle.odht_tool_core.specs.Fronts.{stated_len}
use Rattle.odht_tool_core.proofs.Finds.{no_front, a_table, not_table}
use Rattle.odht_tool_core.proofs.find.look_from.Goals as goal

pub returns-in_default : goal.returns-in_default
returns-in_default c =
    let none : has_front c.args.bytes.now ≡ false = search rules in
    no_front c.args.bytes.now none

pub returns-then-has_controls : goal.returns-then-has_controls
returns-then-has_controls c =
    let B = c.args.bytes.now in
    let n = stated_len B in
    let is = c.in-Some.ensures.table in
    let fits : has_controls (take n B) ≡ true = ap has_controls (sym is) ∙ sym c.has_controls.ensures ∙ c.if-has_controls.true in
    let len = ap length is ∙ length-take-le n B c.in-Some.ensures.enough in
    (a_table B (sym c.in-Some.ensures.some) fits, len, omega (arith, len, c.in-Some.ensures.enough))

pub returns-else-has_controls : goal.returns-else-has_controls
returns-else-has_controls c =
    let B = c.args.bytes.now in
    let fits : has_controls (take (stated_len B) B) ≡ false = ap has_controls (sym c.in-Some.ensures.table) ∙ sym c.has_controls.ensures ∙ c.if-has_controls.false in
    let seen = not_table B (sym c.in-Some.ensures.some) fits in
    (seen.0, seen.1, c.slot_count.ensures ∙ ap header_slots c.of.ensures)
