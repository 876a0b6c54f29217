use Rattle.std.proofs.Common.{◌≡◌, ◌∙◌, ◌+◌, ◌-◌, drop, ap, sym, arith}
use Rattle.std.proofs.lemmas.List.{drop-drop}
use Rattle.odht_tool_core.proofs.Decimals.{one_or_two, three_or_four}
use Rattle.odht_tool_core.proofs.digits.put_front.Goals as goal

pub returns-then-number-lt100-clause-digits : goal.returns-then-number-lt100-clause-digits
returns-then-number-lt100-clause-digits c =
    let text = c.put_pair.new.text in
    let k = c.one_from.result in
    let end = c.args.end in
    let place : end - 2 + (1 - k) ≡ end - 1 - k = omega (arith, c.one_from.ensures.most, c.requires.low) in
    ap (λ n. drop n text) (sym place) ∙ sym (drop-drop (1 - k) (end - 2) text) ∙ ap (drop (1 - k)) c.put_pair.ensures
    ∙ one_or_two c.args.number k (drop end c.args.text.now) c.if-number-lt100.true c.one_from.ensures.from c.one_from.ensures.below

pub returns-clause-digits : goal.returns-clause-digits
returns-clause-digits c =
    let text = c.put_four.new.text in
    let k = c.one_from-2.result in
    let end = c.args.end in
    let place : end - 4 + (1 - k) ≡ end - 3 - k = omega (arith, c.one_from-2.ensures.most, c.requires.low) in
    ap (λ n. drop n text) (sym place) ∙ sym (drop-drop (1 - k) (end - 4) text) ∙ ap (drop (1 - k)) c.put_four.ensures
    ∙ three_or_four c.args.number k (drop end c.args.text.now) c.if-number-lt100.false c.requires.number c.one_from-2.ensures.from c.one_from-2.ensures.below
