use Rattle.std.proofs.Common.{rules, ◌≡◌, ◌∙◌, ◌<◌, ◌≤◌, sym, ap, subst, Err, Some, lt-ltb, le-ltb, arith}
use Rattle.std.specs.Result.{result_err}
use Rattle.odht_base.specs.Format.{Format, format_of}
use Rattle.odht_base.specs.Image.{image_len}
use Rattle.odht_base.specs.Decoded.{header_slots}
use Rattle.odht_header.specs.declared.error.Error.TheVariants.{WrongLength}
use Rattle.odht_header.proofs.lemmas.FirstErrors.{option_or-first, option_or-second, Ok-checked, Err-checked, gives-Some, None-gives}
use Rattle.odht_header.proofs.lemmas.HeaderChecks.{front_header_refusal-fields}
use Rattle.odht_header.proofs.header.Header.layout_len.Goals as goal

pub returns-in_err-check_fields-clause-err : goal.returns-in_err-check_fields-clause-err
returns-in_err-check_fields-clause-err c hash =
    let F : Format = format_of c.args.layout.key_len c.args.layout.value_len hash in
    let x = c.in_err-check_fields.field-0.0 in
    let refusal : c.from_residual.result ≡ Err x = search rules in
    ap result_err refusal ∙ sym (front_header_refusal-fields F c.args.found c.args.self.now ∙ option_or-first _ _ x (Err-checked _ x (sym c.in_err-check_fields.was ∙ c.check_fields.ensures hash)))

pub returns-then-found-expected-clause-err : goal.returns-then-found-expected-clause-err
returns-then-found-expected-clause-err c hash =
    let F : Format = format_of c.args.layout.key_len c.args.layout.value_len hash in
    let B = c.args.self.now in
    let passed = Ok-checked _ (sym c.in_ok-check_fields.was ∙ c.check_fields.ensures hash) in
    let is : c.len_of_slots-expected.result ≡ image_len F (header_slots B) = c.len_of_slots-expected.ensures hash ∙ ap (image_len F) c.slot_count-slot_count.ensures in
    let short : c.args.found < image_len F (header_slots B) = subst (λ n. c.args.found < n) is c.if-found-expected.true in
    (λ i. Some (WrongLength (c.slot_count-slot_count.ensures i) c.args.found (is i)))
    ∙ sym (front_header_refusal-fields F c.args.found B ∙ option_or-second _ _ passed ∙ gives-Some _ _ (lt-ltb c.args.found (image_len F (header_slots B)) short))

pub returns-clause-err : goal.returns-clause-err
returns-clause-err c hash =
    let F : Format = format_of c.args.layout.key_len c.args.layout.value_len hash in
    let B = c.args.self.now in
    let passed = Ok-checked _ (sym c.in_ok-check_fields.was ∙ c.check_fields.ensures hash) in
    let is : c.len_of_slots-expected.result ≡ image_len F (header_slots B) = c.len_of_slots-expected.ensures hash ∙ ap (image_len F) c.slot_count-slot_count.ensures in
    let long : image_len F (header_slots B) ≤ c.args.found = omega (arith, is, c.if-found-expected.false) in
    sym (front_header_refusal-fields F c.args.found B ∙ option_or-second _ _ passed ∙ None-gives _ _ (le-ltb c.args.found (image_len F (header_slots B)) long))

pub returns-clause-len : goal.returns-clause-len
returns-clause-len c hash =
    let F : Format = format_of c.args.layout.key_len c.args.layout.value_len hash in
    c.len_of_slots-expected.ensures hash ∙ ap (image_len F) c.slot_count-slot_count.ensures
