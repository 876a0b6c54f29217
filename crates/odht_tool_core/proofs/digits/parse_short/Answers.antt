use Rattle.std.proofs.Common.{◌≡◌, ◌∙◌, ◌≤◌, ◌+◌, ◌*◌, ◌^◌, ◌++◌, length, sym, ap, subst, arith, length-append, length-take-le}
use Rattle.std.proofs.lemmas.Int.Digits.{digits_value-lt}
use Rattle.odht_tool_core.proofs.Numerals.{few_fit, eight_of, next_eight, read_behind}
use Rattle.odht_tool_core.proofs.digits.parse_short.Goals as goal

pub returns-in_default-parse_eight : goal.returns-in_default-parse_eight
returns-in_default-parse_eight c = λ h.
    let l = c.loop-eight in
    let cut = c.in-Some.ensures.cases in
    c.in_default-parse_eight.ensures (eight_of l.invariant.0 l.rest.now c.in-Some.eight.now c.in-Some.next.now c.args.digits.now l.invariant.1 cut.0 cut.1 h)

pub overflow_mul-number : goal.overflow_mul-number
overflow_mul-number c =
    let l = c.loop-eight in
    let front = l.invariant.0 in
    let cut = c.in-Some.ensures.cases in
    let short : length front + 8 ≤ 19 = omega (arith, c.requires, ap length l.invariant.1, length-append front l.rest.now, cut.2) in
    omega (arith, few_fit front 8 l.invariant.2 short, l.invariant.3)

pub overflow_add-number : goal.overflow_add-number
overflow_add-number c =
    let l = c.loop-eight in
    let front = l.invariant.0 in
    let eight = c.in-Some.eight.now in
    let cut = c.in-Some.ensures.cases in
    let short : length front + 8 ≤ 19 = omega (arith, c.requires, ap length l.invariant.1, length-append front l.rest.now, cut.2) in
    let long : length eight ≡ 8 = ap length cut.0 ∙ length-take-le 8 l.rest.now (omega (arith, cut.2)) in
    let places : 10 ^ length eight ≡ 100000000 = ap (λ n. 10 ^ n) long in
    omega (arith, few_fit front 8 l.invariant.2 short, l.invariant.3, digits_value-lt 10 eight c.in-Some-parse_eight.ensures.0, c.in-Some-parse_eight.ensures.1, places)

pub loop-eight-preserved : goal.loop-eight-preserved
loop-eight-preserved c =
    let l = c.loop-eight in
    let front = l.invariant.0 in
    let eight = c.in-Some.eight.now in
    let cut = c.in-Some.ensures.cases in
    let long : length eight ≡ 8 = ap length cut.0 ∙ length-take-le 8 l.rest.now (omega (arith, cut.2)) in
    let next = next_eight front l.rest.now eight c.in-Some.next.now c.args.digits.now l.invariant.1 cut.0 cut.1 l.number c.in-Some-parse_eight.value long l.invariant.2 l.invariant.3
    c.in-Some-parse_eight.ensures.0 c.in-Some-parse_eight.ensures.1 in
    (front ++ eight, next.0, next.1, next.2)

pub parse_few-requires : goal.parse_few-requires
parse_few-requires c =
    let l = c.loop-eight in
    let front = l.invariant.0 in
    let rest = l.rest.now in
    let short : length front + length rest ≤ 19 = omega (arith, c.requires, ap length l.invariant.1, length-append front rest) in
    subst (λ n. (n + 1) * 10 ^ length rest ≤ 10 ^ 19) (sym l.invariant.3) (few_fit front (length rest) l.invariant.2 short)

pub returns : goal.returns
returns c =
    let l = c.loop-eight in
    read_behind l.invariant.0 l.rest.now c.args.digits.now l.number c.parse_few.result l.invariant.1 l.invariant.2 l.invariant.3 c.parse_few.ensures
