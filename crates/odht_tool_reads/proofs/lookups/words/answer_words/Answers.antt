use Rattle.std.proofs.Common.{◌∙◌, length, map, sym, ap, subst}
use Rattle.std.specs.List.{AllZip}
use Rattle.std.specs.Prelude.{IfErr, string_bytes}
use Rattle.std.proofs.lemmas.List.{length-map}
use Rattle.std.proofs.lemmas.Slice.Zip.{AllZip-long}
use Rattle.odht.specs.Dynamic.{dyn_coding}
use Rattle.odht_tool_core.specs.JsonAnswers.{answer_in, no_key_line}
use Rattle.odht_tool_core.specs.DynTexts.{IsDynamicOf, dynamic_text}
use Rattle.odht_tool_reads.specs.Gets.{IsWordAnswer}
use Rattle.odht_tool_reads.specs.GetWords.{IsWordsFailure}
use Rattle.odht_tool_reads.proofs.WordAnswers.{words_got}
use Rattle.odht_tool_reads.proofs.lookups.words.answer_words.Goals as goal

-- there are as many answers as words
pub write_words-requires : goal.write_words-requires
write_words-requires g c =
    let R = IsWordAnswer (dyn_coding c.args.table.now g.H.HashFn.hash) (IsDynamicOf c.args.style.forms.key) c.args.table.now.store.0.now in
    let words = c.args.words.now in
    ap length c.as_slice.ensures.value ∙ AllZip-long R (map string_bytes words) c.in_ok-answers.answers.items c.in_ok-answers.ensures ∙ length-map words string_bytes

-- the answers are those to the words, and their lines were written
pub returns : goal.returns
returns g c opened =
    let coding = dyn_coding c.args.table.now g.H.HashFn.hash in
    let R = IsDynamicOf c.args.style.forms.key in
    let B = c.args.table.now.store.0.now in
    let ws = map string_bytes c.args.words.now in
    let r = c.write_words.result in
    words_got coding (answer_in c.args.style.printed (dynamic_text c.args.style.forms.key) (dynamic_text c.args.style.forms.value))
    (no_key_line c.args.style.printed) R B ws (g.O.Write.contents c.args.output.now) (g.O.Write.contents c.write_words.new.output)
    c.as_slice.result.now r opened
    (subst (AllZip (IsWordAnswer coding R B) ws) (sym c.as_slice.ensures.value) c.in_ok-answers.ensures)
    c.write_words.ensures.status c.write_words.ensures.written
    (subst (λ n. IfErr r (IsWordsFailure n)) (sym (length-map c.args.words.now string_bytes)) c.write_words.ensures.err)
