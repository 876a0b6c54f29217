use Rattle.std.proofs.Common.{inl, inr, refl, arith}
use Rattle.odht_tool_core.proofs.Numerals.{no_digit, read_more, read_all, room_for_next}
use Rattle.odht_tool_core.proofs.digits.parse_few.Goals as goal
use Rattle.odht_tool_core.proofs.digits.parse_few.Goals.{then-digit-lt48-via-then-digit-lt48, then-digit-lt48-via-else-digit-lt48+then-digit-gt57}

pub returns-then-digit-lt48 : goal.returns-then-digit-lt48
returns-then-digit-lt48 c =
    let ds = c.args.digits.now in
    let i = c.loop-digit.digit-index in
    elim c.then-digit-lt48.branch [
      | then-digit-lt48-via-then-digit-lt48 w ↦ no_digit ds i _ c.loop-digit-test.true refl (inl w.if-digit-lt48.true)
      | then-digit-lt48-via-else-digit-lt48+then-digit-gt57 w ↦ no_digit ds i _ c.loop-digit-test.true refl (inr w.if-digit-gt57.true)
    ]

pub overflow_mul-number : goal.overflow_mul-number
overflow_mul-number c =
    omega (arith, room_for_next c.args.front c.args.digits.now c.loop-digit.digit-index c.loop-digit.number c.loop-digit.invariant c.loop-digit-test.true c.requires)

pub overflow_add-number : goal.overflow_add-number
overflow_add-number c =
    omega (arith, room_for_next c.args.front c.args.digits.now c.loop-digit.digit-index c.loop-digit.number c.loop-digit.invariant c.loop-digit-test.true c.requires, c.if-digit-gt57.false)

pub loop-digit-preserved : goal.loop-digit-preserved
loop-digit-preserved c =
    read_more c.args.front c.args.digits.now c.loop-digit.digit-index c.loop-digit.number c.loop-digit.invariant c.loop-digit-test.true _ refl (omega (arith, c.if-digit-lt48.false)) (omega (arith, c.if-digit-gt57.false))

pub returns : goal.returns
returns c = read_all c.args.front c.args.digits.now c.loop-digit.digit-index c.loop-digit.number c.loop-digit.invariant (omega (arith, c.loop-digit-test.false))
