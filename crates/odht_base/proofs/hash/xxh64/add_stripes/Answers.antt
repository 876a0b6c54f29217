use Rattle.std.proofs.Common.{◌<◌, ◌≤◌, ◌∙◌, length, arith, sym, refl}
use Rattle.odht_base.proofs.lemmas.Stripes.{accumulated-more, accumulated-none, rest-stripe, rest-no_stripe, opening-short, opening-long}
use Rattle.odht_base.proofs.hash.xxh64.add_stripes.Goals as goal

pub returns-then-bytes-lt32-clause-state : goal.returns-then-bytes-lt32-clause-state
returns-then-bytes-lt32-clause-state c = sym (opening-short _ c.if-bytes-lt32.true)

pub returns-then-bytes-lt32-clause-rest : goal.returns-then-bytes-lt32-clause-rest
returns-then-bytes-lt32-clause-rest c = sym (rest-no_stripe _ c.if-bytes-lt32.true)

pub loop-stripe-preserved : goal.loop-stripe-preserved
loop-stripe-preserved c =
    let cases = c.in-Some.ensures.cases in
    let long : 32 ≤ length c.loop-stripe.left.now = omega (arith, cases.2) in
    let before = c.loop-stripe.invariant in
    record {
      first = before.first ∙ accumulated-more 0 _ _ _ _ _ _ long cases.0 cases.1 c.read_u64.ensures c.add_lane-first.ensures;
      second = before.second ∙ accumulated-more 1 _ _ _ _ _ _ long cases.0 cases.1 c.read_u64-in-Some.ensures c.add_lane-second.ensures;
      third = before.third ∙ accumulated-more 2 _ _ _ _ _ _ long cases.0 cases.1 c.read_u64-in-Some-2.ensures c.add_lane-third.ensures;
      fourth = before.fourth ∙ accumulated-more 3 _ _ _ _ _ _ long cases.0 cases.1 c.read_u64-in-Some-3.ensures c.add_lane-fourth.ensures;
      left = before.left ∙ rest-stripe _ _ long cases.1;
    }

pub returns-clause-state : goal.returns-clause-state
returns-clause-state c =
    let short : length c.loop-stripe.left.now < 32 = c.in_default.ensures.cases in
    let after = c.loop-stripe.invariant in
    let first = after.first ∙ accumulated-none 0 _ _ short in
    let second = after.second ∙ accumulated-none 1 _ _ short in
    let third = after.third ∙ accumulated-none 2 _ _ short in
    let fourth = after.fourth ∙ accumulated-none 3 _ _ short in
    c.converge.ensures ∙ sym (opening-long _ c.if-bytes-lt32.false ∙ rw (first, second, third, fourth) refl)

pub returns-clause-rest : goal.returns-clause-rest
returns-clause-rest c = sym (c.loop-stripe.invariant.left ∙ rest-no_stripe _ c.in_default.ensures.cases)
