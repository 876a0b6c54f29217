use Rattle.std.proofs.Common.{◌∙◌, ◌+◌, sym, subst, map, take}
use Rattle.std.specs.List.{AllZip}
use Rattle.std.specs.Prelude.{string_bytes}
use Rattle.odht_tool_core.specs.Keys.{TellsWord}
use Rattle.odht_tool_core.specs.Keys.{IsReadAs, IsTextOfNone}
use Rattle.odht_tool_core.proofs.KeyWords.{words_more, first_fault, tells_fault}
use Rattle.odht_tool_core.proofs.keys.parse_keys.Goals as goal

pub loop-word-preserved : goal.loop-word-preserved
loop-word-preserved g c =
    let R = IsReadAs (g.L.Key.Text.is_word c.args.form) (g.L.Key.Text.stands_for c.args.form) in
    let word = c.as_bytes.ensures.value ∙ c.as_str.ensures.value in
    let added = c.in-Key.ensures in
    let all = words_more R string_bytes c.args.words.now c.loop-word.word-index c.word-item.result (g.L.Keys.items c.loop-word.keys) c.loop-word-test.true c.word-item.is c.loop-word.invariant added.0
    (subst (λ w. R w added.0) word added.2) in
    subst (AllZip R (map string_bytes (take (c.loop-word.word-index + 1) c.args.words.now))) (sym added.1) all

pub returns-in-NoKey-clause-fault : goal.returns-in-NoKey-clause-fault
returns-in-NoKey-clause-fault g c =
    let R = IsReadAs (g.L.Key.Text.is_word c.args.form) (g.L.Key.Text.stands_for c.args.form) in
    let word = c.as_bytes.ensures.value ∙ c.as_str.ensures.value in
    let none : IsTextOfNone R c.as_bytes.result.now = λ k r. c.in-NoKey.ensures.1 r.0 in
    tells_fault R (g.L.Key.Text.wants c.args.form) (map string_bytes c.args.words.now) (string_bytes c.word-item.result) c.wrong_key.result
    (first_fault R string_bytes c.args.words.now c.loop-word.word-index c.word-item.result (g.L.Keys.items c.loop-word.keys) c.loop-word-test.true c.word-item.is c.loop-word.invariant
    (subst (IsTextOfNone R) word none))
    (subst (λ w. TellsWord (g.L.Key.Text.wants c.args.form) w c.wrong_key.result) c.as_str-in-NoKey.ensures.value c.wrong_key.ensures)
