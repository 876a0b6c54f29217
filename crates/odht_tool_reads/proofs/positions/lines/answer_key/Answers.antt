use Rattle.std.proofs.Common.{rules, ◌∙◌, [], ◌∷◌, ◌++◌, subst, sym}
use Rattle.std.specs.Io.KnownBytes.{Appends}
use Rattle.std.proofs.lemmas.List.{append-nil}
use Rattle.odht.specs.Files.{file_coding}
use Rattle.odht_tool_core.specs.DynTexts.{dynamic_text}
use Rattle.odht_tool_core.specs.JsonAnswers.{answer_in}
use Rattle.odht_tool_reads.proofs.AnswerLists.{appended_kept}
use Rattle.odht_tool_reads.proofs.KeyAnswers.{found_one, one_answer}
use Rattle.odht_tool_reads.proofs.positions.lines.answer_key.Goals as goal

-- the value that was read is the answer to the key
pub returns-clause-given : goal.returns-clause-given
returns-clause-given g c B over =
    let coding = file_coding c.args.table.now g.H.HashFn.hash in
    let line = answer_in c.args.style.printed (dynamic_text c.args.style.forms.key) (dynamic_text c.args.style.forms.value) in
    let key = c.args.key.now in
    let value = c.in_ok-value.value in
    let old = g.O.Write.contents c.args.output.now in
    let mid = g.O.Write.contents c.write_answer_in.new.output in
    let new = g.O.Write.contents c.write_out.new.output in
    let written : Appends old mid (line (key, value)) = search rules in
    record {
      values = value ∷ [];
      answers = one_answer coding B key value (c.in_ok-value.ensures.given B over);
      written = appended_kept old mid new (line (key, value) ++ []) (subst (Appends old mid) (sym (append-nil (line (key, value)))) written) c.write_out.ensures.kept;
      found = c.is_some.ensures ∙ found_one value;
    }
