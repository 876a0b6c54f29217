use Rattle.std.proofs.Common.{rules, ◌≡◌, ◌∙◌, Err, IfErr, Some, ap, subst, sym}
use Rattle.odht_tool_core.specs.Misreads.{misread_text}
use Rattle.odht_tool_core.specs.declared.failure.LineFault.TheVariants.{Key}
use Rattle.odht_tool_core.specs.JsonAnswers.{answer_in}
use Rattle.odht_tool_core.specs.Keys.{IsNextKey, IsNoKeyLine, IsReadAs}
use Rattle.odht_tool_reads.specs.GetParts.{AreKeysAnswered, IsKeysFailure, IsLineFailure, IsNextNone}
use Rattle.odht_tool_reads.proofs.KeyAnswers.{key_failed}
use Rattle.odht_tool_reads.proofs.lookups.read_key.Goals as goal

-- the line that was read is no key, and the message tells it
pub returns-in_ok-answer-in-NoKey-clause-err : goal.returns-in_ok-answer-in-NoKey-clause-err
returns-in_ok-answer-in-NoKey-clause-err g c =
    let f = (g.F.Forms.pair c.args.style.forms).0 in
    let R = IsReadAs (g.T.Keys.Key.Text.is_word f) (g.T.Keys.Key.Text.stands_for f) in
    let next = subst (IsNextKey R (g.I.Read.remaining c.args.input.now) (g.I.Read.remaining c.key_of_line.new.input) c.key_of_line.new.line.items (g.T.Keys.Keys.items c.args.keys.now) (g.T.Keys.Keys.items c.key_of_line.new.keys)) c.in-NoKey.is c.in_ok-key_of_line.ensures.next in
    let line : IsNoKeyLine R (g.I.Read.remaining c.args.input.now) (g.I.Read.remaining c.key_of_line.new.input) c.key_of_line.new.line.items = next.1 in
    record {
      then = line.0;
      line = c.key_of_line.new.line.items;
      next = line.1;
      fault = line.2;
      more = line.3.0;
      misread = c.in_ok-message-in-NoKey.ensures ∙ ap (misread_text (Some c.args.number) Key (g.T.Keys.Key.Text.wants f)) c.as_slice.ensures.value;
      every = c.in_ok-answer-in-NoKey.field-0;
      answered = subst (λ ks. AreKeysAnswered (g.T.Lookups.coding c.args.table.now) (answer_in c.args.style.printed (g.T.Keys.Key.Written.text f) (g.T.Value.Written.text (g.F.Forms.pair c.args.style.forms).1)) (g.T.Lookups.bytes c.args.table.now) ks
          (g.O.Write.contents c.args.output.now) (g.O.Write.contents c.answer.new.output) c.in_ok-answer-in-NoKey.field-0) next.0 c.in_ok-answer-in-NoKey.ensures.ok;
    }

-- the keys before it cannot be answered
pub returns-in_err-answer-in-NoKey-clause-err : goal.returns-in_err-answer-in-NoKey-clause-err
returns-in_err-answer-in-NoKey-clause-err g c =
    let f = (g.F.Forms.pair c.args.style.forms).0 in
    let C = g.T.Lookups.coding c.args.table.now in
    let answer = answer_in c.args.style.printed (g.T.Keys.Key.Written.text f) (g.T.Value.Written.text (g.F.Forms.pair c.args.style.forms).1) in
    let R = IsReadAs (g.T.Keys.Key.Text.is_word f) (g.T.Keys.Key.Text.stands_for f) in
    let p = g.T.Keys.Key.Text.wants f in
    let B = g.T.Lookups.bytes c.args.table.now in
    let input = g.I.Read.remaining c.args.input.now in
    let old = g.O.Write.contents c.args.output.now in
    let new = g.O.Write.contents c.answer.new.output in
    let x = c.in_err-answer-in-NoKey.field-0.0 in
    let next = subst (IsNextKey R input (g.I.Read.remaining c.key_of_line.new.input) c.key_of_line.new.line.items (g.T.Keys.Keys.items c.args.keys.now) (g.T.Keys.Keys.items c.key_of_line.new.keys)) c.in-NoKey.is c.in_ok-key_of_line.ensures.next in
    let line : IsNoKeyLine R input (g.I.Read.remaining c.key_of_line.new.input) c.key_of_line.new.line.items = next.1 in
    let none : IsNextNone R input = record { then = line.0; line = c.key_of_line.new.line.items; next = line.1; fault = line.2 } in
    let failed : c.from_residual-in_err-answer-in-NoKey.result ≡ Err x = search rules in
    subst (λ r. IfErr r (IsLineFailure C answer R p B (g.T.Keys.Keys.items c.args.keys.now) c.args.number input old new)) (sym failed)
    (key_failed C answer R p B (g.T.Keys.Keys.items c.args.keys.now) c.args.number input old new x none
    (subst (λ ks. IsKeysFailure 1 ks old new x) next.0 c.in_err-answer-in-NoKey.ensures.err))
