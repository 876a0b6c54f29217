use Rattle.std.proofs.Common.{◌≡◌, ◌∙◌, ◌+◌, suc, ◌<◌, length, map, take, sym, subst, arith}
use Rattle.std.specs.Io.KnownBytes.{Appends}
use Rattle.std.specs.Prelude.{string_bytes}
use Rattle.odht_tool_core.specs.JsonAnswers.{answer_in, no_key_line}
use Rattle.odht_tool_core.specs.DynTexts.{dynamic_text}
use Rattle.odht_tool_core.proofs.Answered.{appends_more}
use Rattle.odht_tool_reads.specs.Gets.{word_line, word_lines}
use Rattle.odht_tool_reads.proofs.WordAnswers.{word_lines_more}
use Rattle.odht_tool_reads.proofs.lookups.words.write_lines.Goals as goal

pub loop-at-preserved : goal.loop-at-preserved
loop-at-preserved g c =
    let f = answer_in c.args.style.printed (dynamic_text c.args.style.forms.key) (dynamic_text c.args.style.forms.value) in
    let h = no_key_line c.args.style.printed in
    let o = g.O.Write.contents in
    let at = c.loop-at.at in
    let words = c.args.words.now in
    let answers = c.args.answers.now in
    let next : at + 1 ≡ suc at = omega arith in
    let inside : at < length answers = omega (arith, c.loop-at-test.true, c.requires) in
    let word = c.as_bytes.ensures.value ∙ c.as_str.ensures.value in
    let line = word_lines_more string_bytes f h words answers at c.index-words-at.result c.index-answers-at.result c.loop-at-test.true inside c.index-words-at.is c.index-answers-at.is in
    let one = subst (λ w. Appends (o c.loop-at.output) (o c.write_word.new.output) (word_line f h w c.index-answers-at.result)) word c.in_ok-write_word.ensures in
    let written = appends_more (o c.args.output.now) (o c.loop-at.output) (o c.write_word.new.output)
    (word_lines f h (map string_bytes (take at words)) (take at answers)) (word_line f h (string_bytes c.index-words-at.result) c.index-answers-at.result) c.loop-at.invariant one in
    let all = subst (Appends (o c.args.output.now) (o c.write_word.new.output)) (sym line) written in
    subst (λ n. Appends (o c.args.output.now) (o c.write_word.new.output) (word_lines f h (map string_bytes (take n words)) (take n answers))) (sym next) all
