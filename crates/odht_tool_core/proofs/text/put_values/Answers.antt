use Rattle.std.proofs.Common.{◌≡◌, ◌≢◌, ◌∙◌, ◌<◌, max, length, set, get_or, sym, subst, arith, below_more, get_or-set_other, get_or-set_same, length-set}
use Rattle.odht_tool_core.specs.Digits.{IsValueOf}
use Rattle.odht_tool_core.proofs.text.put_values.Goals as goal

pub loop-at-preserved : goal.loop-at-preserved
loop-at-preserved c =
    let l = c.loop-at in
    let at = l.at in
    let digits = c.args.digits.now in
    let value = c.digit_value-value.result in
    let largest = c.max_of-largest.result in
    let is_largest : largest ≡ max l.largest value = c.max_of-largest.ensures in
    let room : at < length l.values = omega (arith, l.invariant.long, c.requires, c.loop-at-test.true) in
    let all_small = λ (small : largest < 16). let sized : (l.largest < 16) × (value < 16) = (omega (arith, is_largest), omega (arith, is_largest)) in sized in
    record {
      long = length-set l.values at value ∙ l.invariant.long;
      values = λ small.
          let sized = all_small small in
          let here : IsValueOf (get_or digits at 0) value = (sized.1, c.digit_value-value.ensures.digit sized.1, c.digit_value-value.ensures.value sized.1) in
          below_more (λ k. IsValueOf (get_or digits k 0) (get_or (set l.values at value) k 0)) at
          (λ k below.
          let ne : k ≢ at = omega arith in
          subst (IsValueOf (get_or digits k 0)) (sym (get_or-set_other l.values at k value 0 ne)) (l.invariant.values sized.0 k below))
          (subst (IsValueOf (get_or digits at 0)) (sym (get_or-set_same l.values at value 0 room)) here);
      other = λ h.
          let first = l.invariant.other h in
          let second = c.digit_value-value.ensures.other (h at 0 c.loop-at-test.true) in
          omega (arith, is_largest, first, second);
    }
