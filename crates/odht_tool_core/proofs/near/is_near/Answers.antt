use Rattle.std.proofs.Common.{◌≡◌, ◌∙◌, ℕ, ◌+◌, ◌-◌, ◌<◌, Bool, true, false, ◌||◌, suc, sym, ap, length, arith}
use Rattle.std.specs.List.{list_any, range_with_len}
use Rattle.odht_tool_core.specs.Near.{is_slip}
use Rattle.odht_tool_core.proofs.near.is_near.Goals as goal

-- a number that passes in what is left, or else one behind it
one_step : (t : ℕ → Bool) (a n : ℕ) → a < n → list_any t (range_with_len a (n - a)) ≡ (t a || list_any t (range_with_len (a + 1) (n - (a + 1))))
one_step t a n h =
    let e : n - a ≡ suc (n - (a + 1)) = omega arith in
    ap (λ k. list_any t (range_with_len a k)) e

found : (t : ℕ → Bool) (a n : ℕ) (whole : Bool) → a < n → t a ≡ true → list_any t (range_with_len a (n - a)) ≡ whole → true ≡ whole
found t a n whole h e w = ap (λ b. b || list_any t (range_with_len (a + 1) (n - (a + 1)))) (sym e) ∙ sym (one_step t a n h) ∙ w

passed : (t : ℕ → Bool) (a n : ℕ) (whole : Bool) → a < n → t a ≡ false → list_any t (range_with_len a (n - a)) ≡ whole → list_any t (range_with_len (a + 1) (n - (a + 1))) ≡ whole
passed t a n whole h e w = ap (λ b. b || list_any t (range_with_len (a + 1) (n - (a + 1)))) (sym e) ∙ sym (one_step t a n h) ∙ w

pub returns-then-is_slip : goal.returns-then-is_slip
returns-then-is_slip c =
    let t = is_slip c.args.one.now c.args.other.now in
    found t c.loop-at.at (length c.args.one.now + 1) _ (omega (arith, c.loop-at-test.true)) (sym c.is_slip.ensures ∙ c.if-is_slip.true) c.loop-at.invariant

pub loop-at-preserved : goal.loop-at-preserved
loop-at-preserved c =
    let t = is_slip c.args.one.now c.args.other.now in
    passed t c.loop-at.at (length c.args.one.now + 1) _ (omega (arith, c.loop-at-test.true)) (sym c.is_slip.ensures ∙ c.if-is_slip.false) c.loop-at.invariant
