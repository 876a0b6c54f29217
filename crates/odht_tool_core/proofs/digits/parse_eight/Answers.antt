use Rattle.std.proofs.Common.{◌∙◌, ap, arith}
use Rattle.odht_tool_core.specs.Digits.{eight_value}
use Rattle.odht_tool_core.proofs.Eights.{eight_read, digits_in_lanes, none_below, none_above}
use Rattle.odht_tool_core.proofs.digits.parse_eight.Goals as goal
use Rattle.odht_tool_core.proofs.digits.parse_eight.Goals.{then-below-ne0-via-then-below-ne0, then-below-ne0-via-else-below-ne0+then-above-ne0}

pub returns-then-below-ne0 : goal.returns-then-below-ne0
returns-then-below-ne0 c =
    let bytes = c.args.digits.now in
    elim c.then-below-ne0.branch [
      | then-below-ne0-via-then-below-ne0 w ↦ λ h. w.if-below-ne0.true (none_below bytes c.told-digits h)
      | then-below-ne0-via-else-below-ne0+then-above-ne0 w ↦ λ h. w.if-above-ne0.true (none_above bytes c.told-digits h)
    ]

pub value_of_eight-requires-clause-low : goal.value_of_eight-requires-clause-low
value_of_eight-requires-clause-low c =
    let read = eight_read c.args.digits.now c.told-digits (digits_in_lanes c.args.digits.now c.told-digits c.if-below-ne0.false c.if-above-ne0.false) in
    omega (arith, read.low, c.from_le_bytes.ensures)

pub value_of_eight-requires-clause-high : goal.value_of_eight-requires-clause-high
value_of_eight-requires-clause-high c =
    let read = eight_read c.args.digits.now c.told-digits (digits_in_lanes c.args.digits.now c.told-digits c.if-below-ne0.false c.if-above-ne0.false) in
    omega (arith, read.high, c.from_le_bytes.ensures)

pub returns : goal.returns
returns c =
    let all = digits_in_lanes c.args.digits.now c.told-digits c.if-below-ne0.false c.if-above-ne0.false in
    (all, c.value_of_eight.ensures ∙ ap eight_value c.from_le_bytes.ensures ∙ (eight_read c.args.digits.now c.told-digits all).value)
