use Rattle.std.proofs.Common.{rules, ◌≡◌, ◌∙◌, ◌+◌, ◌∷◌, [], ◌++◌, map, take, sym, subst}
use Rattle.std.specs.List.{AllZip}
use Rattle.std.specs.Prelude.{string_bytes}
use Rattle.odht.specs.Dynamic.{dyn_coding}
use Rattle.odht_tool_core.specs.DynTexts.{IsDynamicOf}
use Rattle.odht_tool_core.proofs.KeyWords.{words_more}
use Rattle.odht_tool_reads.specs.Gets.{IsWordAnswer}
use Rattle.odht_tool_reads.proofs.lookups.words.answers_of.Goals as goal

pub loop-word-preserved : goal.loop-word-preserved
loop-word-preserved g c =
    let R = IsWordAnswer (dyn_coding c.args.table.now g.H.HashFn.hash) (IsDynamicOf c.args.form) c.args.table.now.store.0.now in
    let word = c.as_bytes.ensures.value ∙ c.as_str.ensures.value in
    let more : c.push.new.self.items ≡ c.loop-word.answers.items ++ (c.answer_of.result ∷ []) = search rules in
    subst (AllZip R (map string_bytes (take (c.loop-word.word-index + 1) c.args.words.now))) (sym more)
    (words_more R string_bytes c.args.words.now c.loop-word.word-index c.word-item.result c.loop-word.answers.items c.loop-word-test.true c.word-item.is c.loop-word.invariant c.answer_of.result
    (subst (λ w. R w c.answer_of.result) word c.answer_of.ensures))
