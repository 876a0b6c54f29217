use Rattle.std.proofs.Common.{◌≡◌, ◌∙◌, ℕ, ◌+◌, ◌-◌, ◌==◌, drop, get_or, true≢false, sym, ap, arith, eq-eqb}
use Rattle.std.specs.List.{position_or_len}
use Rattle.std.proofs.lemmas.List.{get_or-drop, take_rest}
use Rattle.std.proofs.lemmas.List.Sums.{fails_before_first}
use Rattle.odht_tool_core.proofs.find.next_first.Goals as goal

pub returns-clause-others : goal.returns-clause-others
returns-clause-others c i l m e =
    let p = λ (x : ℕ). x == 79 in
    let rest = drop c.args.from c.args.bytes.now in
    let place : c.args.from + (i - c.args.from) ≡ i = omega (arith, l) in
    let other = fails_before_first p rest (i - c.args.from) 0 (omega (arith, l, m, c.place_of.ensures.place, ap (position_or_len p) (take_rest c.args.bytes.now c.args.from))) in
    let here : get_or rest (i - c.args.from) 0 ≡ 79 = get_or-drop c.args.from c.args.bytes.now (i - c.args.from) 0 ∙ ap (λ j. get_or c.args.bytes.now j 0) place ∙ e in
    true≢false (sym (eq-eqb _ 79 here) ∙ other)
