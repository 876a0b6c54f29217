use Rattle.std.proofs.Common.{◌≡◌, ◌∙◌, ◌*◌, ◌+◌, ◌%◌, ◌/◌, ◌<◌, [], ◌∷◌, ◌++◌, length, take, get_or, sym, ap, subst, refl, arith}
use Rattle.std.proofs.lemmas.List.{take_more_set, length-set, get_or_default}
use Rattle.odht_tool_core.specs.Texts.{WritesBytes}
use Rattle.odht_tool_core.proofs.Words.{one_more}
use Rattle.odht_tool_core.proofs.text.parse_in_vectors.Goals as goal

pub loop-at-preserved : goal.loop-at-preserved
loop-at-preserved g c =
    let l = c.loop-at in
    let at = l.at in
    let word = c.args.word.now in
    let values = c.put_values.new.values in
    let high = get_or values (2 * at) 0 in
    let low = get_or values (2 * at + 1) 0 in
    let pair = c.from_le_bytes-pair.result in
    let value = 16 * (pair % 16) + pair / 256 in
    let room : at < length l.bytes = omega (arith, c.loop-at-test.true, l.invariant.1) in
    let inside : 2 * at + 1 < length word = omega (arith, c.loop-at-test.true, c.requires.digits) in
    let small = c.if-put_values-ge16.false in
    let first = c.put_values.ensures.values small (2 * at) (omega (arith, inside)) in
    let second = c.put_values.ensures.values small (2 * at + 1) inside in
    let sum : pair ≡ high + low * 256 = c.from_le_bytes-pair.ensures in
    let same : value ≡ 16 * high + low = omega (arith, sum, first.0, second.0) in
    let written = one_more word (take at l.bytes) at high low l.invariant.0 inside first.0 second.0 first.2 second.2 in (
      subst (WritesBytes (take (2 * (at + 1)) word)) (sym (take_more_set l.bytes at value room ∙ ap (λ n. take at l.bytes ++ (n ∷ [])) same)) written,
      length-set l.bytes at value ∙ l.invariant.1,
    )

pub returns-clause-some : goal.returns-clause-some
returns-clause-some g c =
    let word = c.args.word.now in (
      λ _. (
        c.requires.digits,
        λ k d inside. rw (get_or_default word k d 0 inside) ((c.put_values.ensures.values c.if-put_values-ge16.false k inside).1),
      ),
      λ _. refl,
    )
