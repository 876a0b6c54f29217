use Rattle.std.proofs.Common.{rules, ◌≡◌, ◌∙◌, ◌+◌, ◌≤◌, ◌&&◌, [], ◌∷◌, ◌++◌, false, length, inl, inr, Ok, Err, sym, ap, subst, arith, length-append}
use Rattle.std.proofs.lemmas.Bool.{true≢false}
use Rattle.odht_tool_reads.specs.GetLines.{AreLinesAnswered}
use Rattle.odht_tool_reads.specs.declared.lookups.TheConstants.{BATCH}
use Rattle.odht_tool_reads.specs.GetParts.{AreKeysAnswered, IsKeysFailure, IsFlushed, IsReadKey}
use Rattle.odht_tool_tables.specs.KeyTexts.{found_status}
use Rattle.odht_tool_core.specs.JsonAnswers.{answer_in}
use Rattle.odht_tool_core.specs.Keys.{IsReadAs}
use Rattle.odht_tool_reads.proofs.LinesTaken.{none_taken, one_taken, taken_kept, batch_at_most, batch_answered, lines_answered, line_failed, batch_failed, write_failed, last_failed}
use Rattle.odht_tool_reads.proofs.lookups.answer_lines.Goals as goal
use Rattle.odht_tool_reads.proofs.lookups.answer_lines.Goals.{else-loop-number-test, then-loop-number-test+in_ok-read+then-not-read, then-is_last_found, else-is_last_found}

pub loop-number-init : goal.loop-number-init
loop-number-init g c =
    let C = g.T.Lookups.coding c.args.table.now in
    let line = answer_in c.args.style.answers.printed (g.T.Keys.Key.Written.text (g.F.Forms.pair c.args.style.answers.forms).0) (g.T.Value.Written.text (g.F.Forms.pair c.args.style.answers.forms).1) in
    let R = IsReadAs (g.T.Keys.Key.Text.is_word (g.F.Forms.pair c.args.style.answers.forms).0) (g.T.Keys.Key.Text.stands_for (g.F.Forms.pair c.args.style.answers.forms).0) in
    let p = g.T.Keys.Key.Text.wants (g.F.Forms.pair c.args.style.answers.forms).0 in
    let B = g.T.Lookups.bytes c.args.table.now in
    let coming = c.args.style.coming in
    let input = g.I.Read.remaining c.args.input.now in
    let old = g.O.Write.contents c.args.output.now in
    (none_taken C line R B coming input old (g.T.Keys.Keys.items c.no_keys-keys.result) c.no_keys-keys.ensures, omega (arith, ap length c.no_keys-keys.ensures))

pub returns-in_err-read : goal.returns-in_err-read
returns-in_err-read g c =
    let C = g.T.Lookups.coding c.args.table.now in
    let line = answer_in c.args.style.answers.printed (g.T.Keys.Key.Written.text (g.F.Forms.pair c.args.style.answers.forms).0) (g.T.Value.Written.text (g.F.Forms.pair c.args.style.answers.forms).1) in
    let R = IsReadAs (g.T.Keys.Key.Text.is_word (g.F.Forms.pair c.args.style.answers.forms).0) (g.T.Keys.Key.Text.stands_for (g.F.Forms.pair c.args.style.answers.forms).0) in
    let p = g.T.Keys.Key.Text.wants (g.F.Forms.pair c.args.style.answers.forms).0 in
    let B = g.T.Lookups.bytes c.args.table.now in
    let coming = c.args.style.coming in
    let input = g.I.Read.remaining c.args.input.now in
    let old = g.O.Write.contents c.args.output.now in
    let now = g.I.Read.remaining c.loop-number.input in
    let new = g.O.Write.contents c.loop-number.output in
    let keys = g.T.Keys.Keys.items c.loop-number.keys in
    let all = c.loop-number.is_all_found in
    let last = g.O.Write.contents c.read_key.new.output in
    let x = c.in_err-read.field-0.0 in
    let failed : c.from_residual.result ≡ Err x = search rules in
    let why = c.in_err-read.ensures.err in
    subst (AreLinesAnswered C line R p B coming input old last) (sym failed)
    (line_failed C line R B coming input now old new c.loop-number.number keys all last c.loop-number.invariant.0 p x c.loop-number.invariant.1 why)

pub returns-in_err-is_all_found : goal.returns-in_err-is_all_found
returns-in_err-is_all_found g c =
    let C = g.T.Lookups.coding c.args.table.now in
    let line = answer_in c.args.style.answers.printed (g.T.Keys.Key.Written.text (g.F.Forms.pair c.args.style.answers.forms).0) (g.T.Value.Written.text (g.F.Forms.pair c.args.style.answers.forms).1) in
    let R = IsReadAs (g.T.Keys.Key.Text.is_word (g.F.Forms.pair c.args.style.answers.forms).0) (g.T.Keys.Key.Text.stands_for (g.F.Forms.pair c.args.style.answers.forms).0) in
    let p = g.T.Keys.Key.Text.wants (g.F.Forms.pair c.args.style.answers.forms).0 in
    let B = g.T.Lookups.bytes c.args.table.now in
    let coming = c.args.style.coming in
    let input = g.I.Read.remaining c.args.input.now in
    let old = g.O.Write.contents c.args.output.now in
    let now = g.I.Read.remaining c.loop-number.input in
    let new = g.O.Write.contents c.loop-number.output in
    let keys = g.T.Keys.Keys.items c.loop-number.keys in
    let all = c.loop-number.is_all_found in
    let then = g.I.Read.remaining c.read_key.new.input in
    let last = g.O.Write.contents c.answer_batch.new.output in
    let more = g.T.Keys.Keys.items c.read_key.new.keys in
    let added = subst (IsReadKey R now then keys more) c.if-not-read.false c.in_ok-read.ensures.key in
    let key = added.0 in
    let pushed = added.1 in
    let next = added.2 in
    let taken = one_taken C line R B coming input now old new c.loop-number.number keys all then key more c.loop-number.invariant.0 next pushed in
    let x = c.in_err-is_all_found.field-0.0 in
    let failed : c.from_residual-in_err-is_all_found.result ≡ Err x = search rules in
    let why = subst (λ o. IsKeysFailure 1 more o last x) c.in_ok-read.ensures.kept c.in_err-is_all_found.ensures.err in
    let full = λ (e : coming.is_live ≡ false). subst (λ o. IsKeysFailure BATCH more o last x) c.in_ok-read.ensures.kept (c.in_err-is_all_found.ensures.full (c.is_due-is_live.ensures e)) in
    subst (AreLinesAnswered C line R p B coming input old last) (sym failed)
    (batch_failed C line R B coming input then old new (c.loop-number.number + 1) more all last taken p x (batch_at_most keys more key pushed c.loop-number.invariant.1) why full)

pub loop-number-preserved : goal.loop-number-preserved
loop-number-preserved g c =
    let C = g.T.Lookups.coding c.args.table.now in
    let line = answer_in c.args.style.answers.printed (g.T.Keys.Key.Written.text (g.F.Forms.pair c.args.style.answers.forms).0) (g.T.Value.Written.text (g.F.Forms.pair c.args.style.answers.forms).1) in
    let R = IsReadAs (g.T.Keys.Key.Text.is_word (g.F.Forms.pair c.args.style.answers.forms).0) (g.T.Keys.Key.Text.stands_for (g.F.Forms.pair c.args.style.answers.forms).0) in
    let p = g.T.Keys.Key.Text.wants (g.F.Forms.pair c.args.style.answers.forms).0 in
    let B = g.T.Lookups.bytes c.args.table.now in
    let coming = c.args.style.coming in
    let input = g.I.Read.remaining c.args.input.now in
    let old = g.O.Write.contents c.args.output.now in
    let now = g.I.Read.remaining c.loop-number.input in
    let new = g.O.Write.contents c.loop-number.output in
    let keys = g.T.Keys.Keys.items c.loop-number.keys in
    let all = c.loop-number.is_all_found in
    let then = g.I.Read.remaining c.read_key.new.input in
    let last = g.O.Write.contents c.answer_batch.new.output in
    let more = g.T.Keys.Keys.items c.read_key.new.keys in
    let added = subst (IsReadKey R now then keys more) c.if-not-read.false c.in_ok-read.ensures.key in
    let key = added.0 in
    let pushed = added.1 in
    let next = added.2 in
    let taken = one_taken C line R B coming input now old new c.loop-number.number keys all then key more c.loop-number.invariant.0 next pushed in
    let due = c.is_due-is_live.result in
    let every = c.in_ok-is_all_found.is_all_found in
    let after = g.T.Keys.Keys.items c.answer_batch.new.keys in
    let flushed = subst (λ o. IsFlushed C line B due more after o last all every) c.in_ok-read.ensures.kept c.in_ok-is_all_found.ensures.ok in
    let end = g.O.Write.contents c.write_out.new.output in
    let answered = batch_answered C line R B coming input then old new (c.loop-number.number + 1) more all last taken after due every
    (batch_at_most keys more key pushed c.loop-number.invariant.1) c.is_due-is_live.ensures flushed in
    (taken_kept C line R B coming input then old last end (c.loop-number.number + 1) after every answered.0 c.write_out.ensures.kept, answered.1)

-- what was written cannot be written out
pub returns-in_err-write_out : goal.returns-in_err-write_out
returns-in_err-write_out g c =
    let C = g.T.Lookups.coding c.args.table.now in
    let line = answer_in c.args.style.answers.printed (g.T.Keys.Key.Written.text (g.F.Forms.pair c.args.style.answers.forms).0) (g.T.Value.Written.text (g.F.Forms.pair c.args.style.answers.forms).1) in
    let R = IsReadAs (g.T.Keys.Key.Text.is_word (g.F.Forms.pair c.args.style.answers.forms).0) (g.T.Keys.Key.Text.stands_for (g.F.Forms.pair c.args.style.answers.forms).0) in
    let p = g.T.Keys.Key.Text.wants (g.F.Forms.pair c.args.style.answers.forms).0 in
    let B = g.T.Lookups.bytes c.args.table.now in
    let coming = c.args.style.coming in
    let input = g.I.Read.remaining c.args.input.now in
    let old = g.O.Write.contents c.args.output.now in
    let now = g.I.Read.remaining c.loop-number.input in
    let new = g.O.Write.contents c.loop-number.output in
    let keys = g.T.Keys.Keys.items c.loop-number.keys in
    let all = c.loop-number.is_all_found in
    let then = g.I.Read.remaining c.read_key.new.input in
    let end = g.O.Write.contents c.write_out.new.output in
    let more = g.T.Keys.Keys.items c.read_key.new.keys in
    let added = subst (IsReadKey R now then keys more) c.if-not-read.false c.in_ok-read.ensures.key in
    let key = added.0 in
    let pushed = added.1 in
    let next = added.2 in
    let taken = one_taken C line R B coming input now old new c.loop-number.number keys all then key more c.loop-number.invariant.0 next pushed in
    let x = c.in_err-write_out.field-0.0 in
    let failed : c.from_residual-in_err-write_out.result ≡ Err x = search rules in
    let some : 1 ≤ length more = omega (arith, ap length pushed ∙ length-append keys (key ∷ [])) in
    subst (AreLinesAnswered C line R p B coming input old end) (sym failed)
    (write_failed C line R B coming input then old new (c.loop-number.number + 1) more all end taken p x some (batch_at_most keys more key pushed c.loop-number.invariant.1)
    c.in_err-write_out.ensures.err (λ e. true≢false (sym (c.in_err-write_out.ensures.quiet (c.is_due-is_live.ensures e)))))

pub returns-in_err-is_last_found : goal.returns-in_err-is_last_found
returns-in_err-is_last_found g c =
    let C = g.T.Lookups.coding c.args.table.now in
    let line = answer_in c.args.style.answers.printed (g.T.Keys.Key.Written.text (g.F.Forms.pair c.args.style.answers.forms).0) (g.T.Value.Written.text (g.F.Forms.pair c.args.style.answers.forms).1) in
    let R = IsReadAs (g.T.Keys.Key.Text.is_word (g.F.Forms.pair c.args.style.answers.forms).0) (g.T.Keys.Key.Text.stands_for (g.F.Forms.pair c.args.style.answers.forms).0) in
    let p = g.T.Keys.Key.Text.wants (g.F.Forms.pair c.args.style.answers.forms).0 in
    let B = g.T.Lookups.bytes c.args.table.now in
    let coming = c.args.style.coming in
    let input = g.I.Read.remaining c.args.input.now in
    let old = g.O.Write.contents c.args.output.now in
    let now = g.I.Read.remaining c.loop-number.input in
    let new = g.O.Write.contents c.loop-number.output in
    let keys = g.T.Keys.Keys.items c.loop-number.keys in
    let all = c.loop-number.is_all_found in
    let last = g.O.Write.contents c.answer.new.output in
    let same : g.O.Write.contents c.loop-number-test.output ≡ new = elim c.loop-number-test.branch [
      | else-loop-number-test w ↦ ap g.O.Write.contents w.output-is
      | then-loop-number-test+in_ok-read+then-not-read w ↦ ap g.O.Write.contents w.output-is ∙ w.in_ok-read.ensures.kept
    ] in
    let x = c.in_err-is_last_found.field-0.0 in
    let failed : c.from_residual-in_err-is_last_found.result ≡ Err x = search rules in
    let same_keys : g.T.Keys.Keys.items c.loop-number-test.keys ≡ keys = (elim c.loop-number-test.branch [
      | else-loop-number-test w ↦ ap g.T.Keys.Keys.items w.keys-is
      | then-loop-number-test+in_ok-read+then-not-read w ↦ ap g.T.Keys.Keys.items w.keys-is ∙ (subst (IsReadKey R now (g.I.Read.remaining w.read_key.new.input) keys (g.T.Keys.Keys.items w.read_key.new.keys)) w.if-not-read.true w.in_ok-read.ensures.key).0
    ]) in
    let kept = subst (λ ks. IsKeysFailure 1 ks (g.O.Write.contents c.loop-number-test.output) last x) same_keys c.in_err-is_last_found.ensures.err in
    let why = subst (λ o. IsKeysFailure 1 keys o last x) same kept in
    subst (AreLinesAnswered C line R p B coming input old last) (sym failed)
    (last_failed C line R B coming input now old new c.loop-number.number keys all last c.loop-number.invariant.0 p x c.loop-number.invariant.1 (elim c.loop-number-test.branch [
      | else-loop-number-test w ↦ inr (omega (arith, c.loop-number.auto.number-end, w.loop-number-test.false))
      | then-loop-number-test+in_ok-read+then-not-read w ↦ inl ((subst (IsReadKey R now (g.I.Read.remaining w.read_key.new.input) keys (g.T.Keys.Keys.items w.read_key.new.keys)) w.if-not-read.true w.in_ok-read.ensures.key).1, omega (arith, c.loop-number.auto.number-end))
    ]) why)

pub returns : goal.returns
returns g c =
    let C = g.T.Lookups.coding c.args.table.now in
    let line = answer_in c.args.style.answers.printed (g.T.Keys.Key.Written.text (g.F.Forms.pair c.args.style.answers.forms).0) (g.T.Value.Written.text (g.F.Forms.pair c.args.style.answers.forms).1) in
    let R = IsReadAs (g.T.Keys.Key.Text.is_word (g.F.Forms.pair c.args.style.answers.forms).0) (g.T.Keys.Key.Text.stands_for (g.F.Forms.pair c.args.style.answers.forms).0) in
    let p = g.T.Keys.Key.Text.wants (g.F.Forms.pair c.args.style.answers.forms).0 in
    let B = g.T.Lookups.bytes c.args.table.now in
    let coming = c.args.style.coming in
    let input = g.I.Read.remaining c.args.input.now in
    let old = g.O.Write.contents c.args.output.now in
    let now = g.I.Read.remaining c.loop-number.input in
    let new = g.O.Write.contents c.loop-number.output in
    let keys = g.T.Keys.Keys.items c.loop-number.keys in
    let all = c.loop-number.is_all_found in
    let last = g.O.Write.contents c.answer.new.output in
    let every = c.in_ok-is_last_found.is_last_found in
    let same : g.O.Write.contents c.loop-number-test.output ≡ new = elim c.loop-number-test.branch [
      | else-loop-number-test w ↦ ap g.O.Write.contents w.output-is
      | then-loop-number-test+in_ok-read+then-not-read w ↦ ap g.O.Write.contents w.output-is ∙ w.in_ok-read.ensures.kept
    ] in
    let same_keys : g.T.Keys.Keys.items c.loop-number-test.keys ≡ keys = (elim c.loop-number-test.branch [
      | else-loop-number-test w ↦ ap g.T.Keys.Keys.items w.keys-is
      | then-loop-number-test+in_ok-read+then-not-read w ↦ ap g.T.Keys.Keys.items w.keys-is ∙ (subst (IsReadKey R now (g.I.Read.remaining w.read_key.new.input) keys (g.T.Keys.Keys.items w.read_key.new.keys)) w.if-not-read.true w.in_ok-read.ensures.key).0
    ]) in
    let written = subst (λ ks. AreKeysAnswered C line B ks (g.O.Write.contents c.loop-number-test.output) last every) same_keys c.in_ok-is_last_found.ensures.ok in
    let answered = subst (λ o. AreKeysAnswered C line B keys o last every) same written in
    let both : c.if-is_last_found.of ≡ (every && all) = elim c.if-is_last_found.branch [
      | then-is_last_found w ↦ w.of-is ∙ sym (ap (λ b. b && all) w.if-is_last_found.true)
      | else-is_last_found w ↦ w.of-is ∙ w.if-is_last_found.false ∙ sym (ap (λ b. b && all) w.if-is_last_found.false)
    ] in
    let lines = lines_answered C line R B coming input now old new c.loop-number.number keys all last c.loop-number.invariant.0 every (elim c.loop-number-test.branch [
      | else-loop-number-test w ↦ inr (omega (arith, c.loop-number.auto.number-end, w.loop-number-test.false))
      | then-loop-number-test+in_ok-read+then-not-read w ↦ inl ((subst (IsReadKey R now (g.I.Read.remaining w.read_key.new.input) keys (g.T.Keys.Keys.items w.read_key.new.keys)) w.if-not-read.true w.in_ok-read.ensures.key).1, omega (arith, c.loop-number.auto.number-end))
    ]) answered in
    subst (λ status. AreLinesAnswered C line R p B coming input old last (Ok status)) (sym (c.of.ensures ∙ ap found_status both)) lines
