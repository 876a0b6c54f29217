use Rattle.std.proofs.Common.{rules, ◌≡◌, ◌≤◌, ◌∙◌, ℕ, Ok, true, false, ap, sym}
use Rattle.odht_base.specs.Format.{Format, IsFormat, format_of}
use Rattle.odht_header.proofs.lemmas.Formats.{IsFormat-format_of}
use Rattle.odht_raw.specs.DynParts.{bytes_coding}
use Rattle.odht_calls.specs.Writes.{InsertAnswers}
use Rattle.odht_calls.proofs.lemmas.InsertedInto.{inserted_status, into_answers}
use Rattle.odht_calls.proofs.lemmas.Layouts.{of_long}
use Rattle.odht_calls.proofs.lemmas.Refused.{refused_insert}
use Rattle.odht_calls.proofs.any.write.insert.Given.{Over}
use Rattle.odht_calls.proofs.any.write.insert.Goals.{After-insert_dynamic_into}
use Rattle.odht_calls.proofs.any.write.insert.Goals as goal

pub returns-in-Err-clause-answers : goal.returns-in-Err-clause-answers
returns-in-Err-clause-answers g c =
    of_long (c.if-key-layout.false, c.if-value-value_len.false, c.if-former-value_len.false)
    (refused_insert _ _ c.in-Err.refused _ c.in-Err.ensures.err c.status_of.ensures _ _ _)

-- what the status of the insert answers
answered : (g : Over) (c : After-insert_dynamic_into g) (s : ℕ) → s ≡ inserted_status c.insert_dynamic_into.result
    → InsertAnswers (bytes_coding (format_of c.args.layout.key_len c.args.layout.value_len g.H.HashFn.hash)) c.args.bytes.now c.args.key.now c.args.value.now c.args.former.now s c.insert_dynamic_into.new.bytes c.insert_dynamic_into.new.former
answered g c s status =
    let F : Format = format_of c.args.layout.key_len c.args.layout.value_len g.H.HashFn.hash in
    let key : c.args.layout.key_len ≤ 255 = search rules in
    let value : c.args.layout.value_len ≤ 255 = search rules in
    let f : IsFormat F = IsFormat-format_of _ _ _ _ key value c.requires g.met.H.HashFn.fits in
    into_answers F f _ _ _ _ _ _ c.in_default.ensures.err _ s c.insert_dynamic_into.ensures.inserted status

pub returns-in-Ok-true-clause-answers : goal.returns-in-Ok-true-clause-answers
returns-in-Ok-true-clause-answers g c =
    let at = (goal.at.returns-in-Ok-true-clause-answers g c).After-insert_dynamic_into in
    let told : c.in-Ok-true.field-0 ≡ true = search rules in
    let is : c.insert_dynamic_into.result ≡ Ok true = c.in-Ok-true.is ∙ ap Ok told in
    of_long (c.if-key-layout.false, c.if-value-value_len.false, c.if-former-value_len.false) (answered g at _ (sym (ap inserted_status is)))

pub returns-in-Ok-false-clause-answers : goal.returns-in-Ok-false-clause-answers
returns-in-Ok-false-clause-answers g c =
    let at = (goal.at.returns-in-Ok-false-clause-answers g c).After-insert_dynamic_into in
    let told : c.in-Ok-false.field-0 ≡ false = search rules in
    let is : c.insert_dynamic_into.result ≡ Ok false = c.in-Ok-false.is ∙ ap Ok told in
    of_long (c.if-key-layout.false, c.if-value-value_len.false, c.if-former-value_len.false) (answered g at _ (sym (ap inserted_status is)))

pub returns-in-Err-insert_dynamic_into-clause-answers : goal.returns-in-Err-insert_dynamic_into-clause-answers
returns-in-Err-insert_dynamic_into-clause-answers g c =
    let at = (goal.at.returns-in-Err-insert_dynamic_into-clause-answers g c).After-insert_dynamic_into in
    of_long (c.if-key-layout.false, c.if-value-value_len.false, c.if-former-value_len.false)
    (answered g at _ (c.status_of-in-Err-insert_dynamic_into.ensures ∙ sym (ap inserted_status c.in-Err-insert_dynamic_into.is)))
