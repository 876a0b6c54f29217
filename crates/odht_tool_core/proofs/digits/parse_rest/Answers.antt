use Rattle.std.proofs.Common.{◌+◌, inl, inr, refl, arith, sym, subst}
use Rattle.odht_tool_core.proofs.Numerals.{IsReadTo, no_digit, read_more, read_within, read_all}
use Rattle.odht_tool_core.proofs.digits.parse_rest.Goals as goal
use Rattle.odht_tool_core.proofs.digits.parse_rest.Goals.{then-digit-lt48-via-then-digit-lt48, then-digit-lt48-via-else-digit-lt48+then-digit-gt57}

pub returns-then-digit-lt48 : goal.returns-then-digit-lt48
returns-then-digit-lt48 c = λ h.
    let ds = c.args.digits.now in
    let i = c.loop-digit.digit-index in
    elim c.then-digit-lt48.branch [
      | then-digit-lt48-via-then-digit-lt48 w ↦ no_digit ds i _ c.loop-digit-test.true refl (inl w.if-digit-lt48.true) h.0
      | then-digit-lt48-via-else-digit-lt48+then-digit-gt57 w ↦ no_digit ds i _ c.loop-digit-test.true refl (inr w.if-digit-gt57.true) h.0
    ]

pub returns-in_default : goal.returns-in_default
returns-in_default c = λ h.
    let ds = c.args.digits.now in
    let more = read_more c.args.front ds c.loop-digit.digit-index c.loop-digit.number c.loop-digit.invariant.0 c.loop-digit-test.true _ refl (omega (arith, c.if-digit-lt48.false)) (omega (arith, c.if-digit-gt57.false)) in
    let within = read_within c.args.front ds _ _ more in
    c.in_default.ensures (omega (arith, within, h.1))

pub loop-digit-preserved : goal.loop-digit-preserved
loop-digit-preserved c =
    let more = read_more c.args.front c.args.digits.now c.loop-digit.digit-index c.loop-digit.number c.loop-digit.invariant.0 c.loop-digit-test.true _ refl (omega (arith, c.if-digit-lt48.false)) (omega (arith, c.if-digit-gt57.false)) in
    (subst (IsReadTo c.args.front c.args.digits.now (c.loop-digit.digit-index + 1)) (sym c.in-Some.ensures.1) more, omega (arith, c.in-Some.ensures.0, c.in-Some.ensures.1))

pub returns : goal.returns
returns c =
    let all = read_all c.args.front c.args.digits.now c.loop-digit.digit-index c.loop-digit.number c.loop-digit.invariant.0 (omega (arith, c.loop-digit-test.false)) in
    ((all.0, omega (arith, all.1)), all.1)
