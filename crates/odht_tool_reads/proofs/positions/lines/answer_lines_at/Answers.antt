use Rattle.std.proofs.Common.{rules, ◌≡◌, ◌∙◌, ◌+◌, ◌&&◌, inl, inr, [], ◌∷◌, Err, Ok, refl, sym, ap, subst, arith, true}
use Rattle.odht.specs.Files.{file_coding}
use Rattle.odht_tool_core.specs.DynTexts.{IsDynamicOf, dynamic_text, dynamic_wanted}
use Rattle.odht_tool_core.specs.JsonAnswers.{answer_in}
use Rattle.odht_tool_reads.specs.GetParts.{AreKeysAnswered, IsReadKey}
use Rattle.odht_tool_reads.specs.GetLines.{all_lines}
use Rattle.odht_tool_reads.specs.PositionLines.{AreLinesRead}
use Rattle.odht_tool_reads.specs.declared.positions.Reached.TheVariants.{End}
use Rattle.odht_tool_reads.proofs.LinesTaken.{none_taken}
use Rattle.odht_tool_reads.proofs.PositionLines.{all_read, key_answered, key_failed, key_unread, only_key, some_read}
use Rattle.odht_tool_reads.proofs.positions.lines.answer_lines_at.Goals as goal
use Rattle.odht_tool_reads.proofs.positions.lines.answer_lines_at.Goals.{else-loop-number-test, then-loop-number-test+in_ok-add_key+then-not-branch, then-is_found, else-is_found}

pub loop-number-init : goal.loop-number-init
loop-number-init g c B over =
    let f = c.args.style.forms in
    none_taken (file_coding c.args.table.now g.H.HashFn.hash) (answer_in c.args.style.printed (dynamic_text f.key) (dynamic_text f.value)) (IsDynamicOf f.key) B (all_lines true) (g.I.Read.remaining c.args.input.now) (g.O.Write.contents c.args.output.now) [] refl

pub returns-in_err-add_key-clause-given : goal.returns-in_err-add_key-clause-given
returns-in_err-add_key-clause-given g c B over =
    let f = c.args.style.forms in
    let C = file_coding c.args.table.now g.H.HashFn.hash in
    let line = answer_in c.args.style.printed (dynamic_text f.key) (dynamic_text f.value) in
    let R = IsDynamicOf f.key in
    let p = dynamic_wanted f.key in
    let input = g.I.Read.remaining c.args.input.now in
    let old = g.O.Write.contents c.args.output.now in
    let now = g.I.Read.remaining c.loop-number.input in
    let new = g.O.Write.contents c.loop-number.output in
    let then = g.I.Read.remaining c.add_key.new.input in
    let x = c.in_err-add_key.field-0.0 in
    let failed : c.from_residual.result ≡ Err x = search rules in
    subst (AreLinesRead C line R p B input then old new) (sym failed)
    (key_unread C line R p B input now old new c.loop-number.number c.loop-number.is_all_found (c.loop-number.invariant B over) then x c.in_err-add_key.ensures.err)

pub returns-in_err-is_found-clause-given : goal.returns-in_err-is_found-clause-given
returns-in_err-is_found-clause-given g c B over =
    let f = c.args.style.forms in
    let C = file_coding c.args.table.now g.H.HashFn.hash in
    let line = answer_in c.args.style.printed (dynamic_text f.key) (dynamic_text f.value) in
    let R = IsDynamicOf f.key in
    let p = dynamic_wanted f.key in
    let input = g.I.Read.remaining c.args.input.now in
    let old = g.O.Write.contents c.args.output.now in
    let now = g.I.Read.remaining c.loop-number.input in
    let new = g.O.Write.contents c.loop-number.output in
    let then = g.I.Read.remaining c.add_key.new.input in
    let last = g.O.Write.contents c.answer_key.new.output in
    let x = c.in_err-is_found.field-0.0 in
    let failed : c.from_residual-in_err-is_found.result ≡ Err x = search rules in
    let added = subst (IsReadKey R now then c.remove_all.new.self c.add_key.new.keys) c.if-not-branch.false c.in_ok-add_key.ensures.key in
    subst (AreLinesRead C line R p B input then old last) (sym failed)
    (key_failed C line R p B input now old new c.loop-number.number c.loop-number.is_all_found (c.loop-number.invariant B over) then last added.0 added.2 x c.in_err-is_found.ensures.err)

pub loop-number-preserved : goal.loop-number-preserved
loop-number-preserved g c B over =
    let f = c.args.style.forms in
    let C = file_coding c.args.table.now g.H.HashFn.hash in
    let line = answer_in c.args.style.printed (dynamic_text f.key) (dynamic_text f.value) in
    let R = IsDynamicOf f.key in
    let p = dynamic_wanted f.key in
    let input = g.I.Read.remaining c.args.input.now in
    let old = g.O.Write.contents c.args.output.now in
    let now = g.I.Read.remaining c.loop-number.input in
    let new = g.O.Write.contents c.loop-number.output in
    let then = g.I.Read.remaining c.add_key.new.input in
    let last = g.O.Write.contents c.answer_key.new.output in
    let all = c.loop-number.is_all_found in
    let found = c.in_ok-is_found.is_found in
    let added = subst (IsReadKey R now then c.remove_all.new.self c.add_key.new.keys) c.if-not-branch.false c.in_ok-add_key.ensures.key in
    let first = only_key c.remove_all.new.self c.add_key.new.keys added.0 c.at.result.now c.remove_all.ensures added.1 c.at.ensures in
    let answered = subst (λ k. AreKeysAnswered C line B (k ∷ []) new last found) (sym first) (c.in_ok-is_found.ensures.given B over) in
    let both : c.if-is_found.is_all_found ≡ (found && all) = elim c.if-is_found.branch [
      | then-is_found w ↦ w.is_all_found-is ∙ sym (ap (λ b. b && all) w.if-is_found.true)
      | else-is_found w ↦ w.is_all_found-is ∙ w.if-is_found.false ∙ sym (ap (λ b. b && all) w.if-is_found.false)
    ] in
    key_answered C line R p B input now old new c.loop-number.number all (c.loop-number.invariant B over) then last added.0 added.2 found c.if-is_found.is_all_found answered both

-- more bytes were taken than may be
pub returns-then-is_more-clause-given : goal.returns-then-is_more-clause-given
returns-then-is_more-clause-given g c B over =
    let f = c.args.style.forms in
    let C = file_coding c.args.table.now g.H.HashFn.hash in
    let line = answer_in c.args.style.printed (dynamic_text f.key) (dynamic_text f.value) in
    let R = IsDynamicOf f.key in
    let p = dynamic_wanted f.key in
    let input = g.I.Read.remaining c.args.input.now in
    let old = g.O.Write.contents c.args.output.now in
    let now = g.I.Read.remaining c.loop-number.input in
    let new = g.O.Write.contents c.loop-number.output in
    let then = g.I.Read.remaining c.add_key.new.input in
    let last = g.O.Write.contents c.answer_key.new.output in
    let all = c.loop-number.is_all_found in
    let found = c.in_ok-is_found.is_found in
    let added = subst (IsReadKey R now then c.remove_all.new.self c.add_key.new.keys) c.if-not-branch.false c.in_ok-add_key.ensures.key in
    let first = only_key c.remove_all.new.self c.add_key.new.keys added.0 c.at.result.now c.remove_all.ensures added.1 c.at.ensures in
    let answered = subst (λ k. AreKeysAnswered C line B (k ∷ []) new last found) (sym first) (c.in_ok-is_found.ensures.given B over) in
    let both : c.if-is_found.is_all_found ≡ (found && all) = elim c.if-is_found.branch [
      | then-is_found w ↦ w.is_all_found-is ∙ sym (ap (λ b. b && all) w.if-is_found.true)
      | else-is_found w ↦ w.is_all_found-is ∙ w.if-is_found.false ∙ sym (ap (λ b. b && all) w.if-is_found.false)
    ] in
    some_read C line R p B input then old last (c.loop-number.number + 1) c.if-is_found.is_all_found
    (key_answered C line R p B input now old new c.loop-number.number all (c.loop-number.invariant B over) then last added.0 added.2 found c.if-is_found.is_all_found answered both)

pub returns-clause-given : goal.returns-clause-given
returns-clause-given g c B over =
    let f = c.args.style.forms in
    let C = file_coding c.args.table.now g.H.HashFn.hash in
    let line = answer_in c.args.style.printed (dynamic_text f.key) (dynamic_text f.value) in
    let R = IsDynamicOf f.key in
    let p = dynamic_wanted f.key in
    let input = g.I.Read.remaining c.args.input.now in
    let old = g.O.Write.contents c.args.output.now in
    let now = g.I.Read.remaining c.loop-number.input in
    let new = g.O.Write.contents c.loop-number.output in
    let read = all_read C line R p B input now old new c.loop-number.number c.loop-number.is_all_found (c.loop-number.invariant B over) now (elim c.loop-number-test.branch [
      | else-loop-number-test w ↦ inr (omega (arith, c.loop-number.auto.number-end, w.loop-number-test.false))
      | then-loop-number-test+in_ok-add_key+then-not-branch w ↦ inl ((subst (IsReadKey R now (g.I.Read.remaining w.add_key.new.input) w.remove_all.new.self w.add_key.new.keys) w.if-not-branch.true w.in_ok-add_key.ensures.key).1, omega (arith, c.loop-number.auto.number-end))
    ]) in
    subst (λ status. AreLinesRead C line R p B input now old new (Ok (End status))) (sym c.of.ensures) read
