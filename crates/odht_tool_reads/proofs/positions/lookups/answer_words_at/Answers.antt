use Rattle.std.proofs.Common.{◌∙◌, map, ap, subst}
use Rattle.std.specs.Io.KnownBytes.{Appends}
use Rattle.std.specs.List.{AllZip}
use Rattle.std.specs.Prelude.{All, IfSome, string_bytes}
use Rattle.odht.specs.Files.{file_coding}
use Rattle.odht_tool_core.specs.JsonAnswers.{answer_in, no_key_line}
use Rattle.odht_tool_core.specs.DynTexts.{IsDynamicOf, dynamic_text}
use Rattle.odht_tool_reads.specs.Gets.{IsWordAnswer, word_lines, words_status}
use Rattle.odht_tool_reads.specs.Positions.{IsShortSearch}
use Rattle.odht_tool_reads.proofs.positions.lookups.answer_words_at.Goals as goal

pub returns-in_ok-status-in-Some-clause-given : goal.returns-in_ok-status-in-Some-clause-given
returns-in_ok-status-in-Some-clause-given g c B over opens =
    let coding = file_coding c.args.table.now g.H.HashFn.hash in
    let o = g.O.Write.contents in
    let style = c.args.style in
    let ws = map string_bytes c.args.words.now in (
      opens,
      record {
        answers = c.in-Some.answers.items;
        each =
            subst (λ found. IfSome found (λ v. AllZip (IsWordAnswer coding (IsDynamicOf style.forms.key) B) ws v.items)) c.in-Some.is (c.in_ok-answers.ensures.given B over);
        written =
            subst (λ answers. Appends (o c.args.output.now) (o c.write_words.new.output)
            (word_lines (answer_in style.printed (dynamic_text style.forms.key) (dynamic_text style.forms.value)) (no_key_line style.printed) ws answers))
            c.as_slice.ensures.value c.in_ok-status-in-Some.ensures.written;
        status = c.in_ok-status-in-Some.ensures.status ∙ ap words_status c.as_slice.ensures.value;
      },
    )

-- each of these searches was short
pub returns-in_ok-status-in-Some-clause-short : goal.returns-in_ok-status-in-Some-clause-short
returns-in_ok-status-in-Some-clause-short g c B over =
    let coding = file_coding c.args.table.now g.H.HashFn.hash in
    let ws = map string_bytes c.args.words.now in
    record {
      answers = c.in-Some.answers.items;
      each =
          subst (λ found. IfSome found (λ v. AllZip (IsWordAnswer coding (IsDynamicOf c.args.style.forms.key) B) ws v.items)) c.in-Some.is (c.in_ok-answers.ensures.given B over);
      short = subst (λ found. IfSome found (λ v. All (λ a. IsShortSearch coding B a.0) v.items)) c.in-Some.is (c.in_ok-answers.ensures.short B over);
    }
