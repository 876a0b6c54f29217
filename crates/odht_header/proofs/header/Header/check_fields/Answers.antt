use Rattle.std.proofs.Common.{rules, ◌≡◌, ◌∙◌, sym, ap, Err}
use Rattle.std.specs.Option.{option_or}
use Rattle.odht_base.specs.Format.{Format, format_of}
use Rattle.odht_header.specs.Refusals.{checked, power_refusal, few_slots_refusal}
use Rattle.odht_header.proofs.lemmas.FirstErrors.{option_or-first, last-first, Ok-checked, Err-checked}
use Rattle.odht_header.proofs.lemmas.HeaderChecks.{past}
use Rattle.odht_header.proofs.header.Header.check_fields.Goals as goal

pub returns-in_err-check_tag : goal.returns-in_err-check_tag
returns-in_err-check_tag c hash =
    let F : Format = format_of c.args.layout.key_len c.args.layout.value_len hash in
    let refusal : c.from_residual.result ≡ Err c.in_err-check_tag.field-0.0 = search rules in
    refusal ∙ sym (ap checked (past F c.args.self.now 0 tt ∙ option_or-first _ _ _ (Err-checked _ c.in_err-check_tag.field-0.0 (sym c.in_err-check_tag.was ∙ c.check_tag.ensures))))

pub returns-in_err-check_version : goal.returns-in_err-check_version
returns-in_err-check_version c hash =
    let F : Format = format_of c.args.layout.key_len c.args.layout.value_len hash in
    let p0 = Ok-checked _ (sym c.in_ok-check_tag.was ∙ c.check_tag.ensures) in
    let refusal : c.from_residual-in_err-check_version.result ≡ Err c.in_err-check_version.field-0.0 = search rules in
    refusal ∙ sym (ap checked (past F c.args.self.now 1 (p0, tt) ∙ option_or-first _ _ _ (Err-checked _ c.in_err-check_version.field-0.0 (sym c.in_err-check_version.was ∙ c.check_version.ensures))))

pub returns-in_err-check_metadata_size : goal.returns-in_err-check_metadata_size
returns-in_err-check_metadata_size c hash =
    let F : Format = format_of c.args.layout.key_len c.args.layout.value_len hash in
    let p0 = Ok-checked _ (sym c.in_ok-check_tag.was ∙ c.check_tag.ensures) in
    let p1 = Ok-checked _ (sym c.in_ok-check_version.was ∙ c.check_version.ensures) in
    let refusal : c.from_residual-in_err-check_metadata_size.result ≡ Err c.in_err-check_metadata_size.field-0.0 = search rules in
    refusal ∙ sym (ap checked (past F c.args.self.now 2 (p0, (p1, tt)) ∙ option_or-first _ _ _ (Err-checked _ c.in_err-check_metadata_size.field-0.0 (sym c.in_err-check_metadata_size.was ∙ c.check_metadata_size.ensures))))

pub returns-in_err-check_expected_size : goal.returns-in_err-check_expected_size
returns-in_err-check_expected_size c hash =
    let F : Format = format_of c.args.layout.key_len c.args.layout.value_len hash in
    let p0 = Ok-checked _ (sym c.in_ok-check_tag.was ∙ c.check_tag.ensures) in
    let p1 = Ok-checked _ (sym c.in_ok-check_version.was ∙ c.check_version.ensures) in
    let p2 = Ok-checked _ (sym c.in_ok-check_metadata_size.was ∙ c.check_metadata_size.ensures) in
    let refusal : c.from_residual-in_err-check_expected_size.result ≡ Err c.in_err-check_expected_size.field-0.0 = search rules in
    refusal ∙ sym (ap checked (past F c.args.self.now 3 (p0, (p1, (p2, tt))) ∙ option_or-first _ _ _ (Err-checked _ c.in_err-check_expected_size.field-0.0 (sym c.in_err-check_expected_size.was ∙ c.check_expected_size.ensures))))

pub returns-in_err-check_expected_size-2 : goal.returns-in_err-check_expected_size-2
returns-in_err-check_expected_size-2 c hash =
    let F : Format = format_of c.args.layout.key_len c.args.layout.value_len hash in
    let p0 = Ok-checked _ (sym c.in_ok-check_tag.was ∙ c.check_tag.ensures) in
    let p1 = Ok-checked _ (sym c.in_ok-check_version.was ∙ c.check_version.ensures) in
    let p2 = Ok-checked _ (sym c.in_ok-check_metadata_size.was ∙ c.check_metadata_size.ensures) in
    let p3 = Ok-checked _ (sym c.in_ok-check_expected_size.was ∙ c.check_expected_size.ensures) in
    let refusal : c.from_residual-in_err-check_expected_size-2.result ≡ Err c.in_err-check_expected_size-2.field-0.0 = search rules in
    refusal ∙ sym (ap checked (past F c.args.self.now 4 (p0, (p1, (p2, (p3, tt)))) ∙ option_or-first _ _ _ (Err-checked _ c.in_err-check_expected_size-2.field-0.0 (sym c.in_err-check_expected_size-2.was ∙ c.check_expected_size-2.ensures))))

pub returns-in_err-check_header_size : goal.returns-in_err-check_header_size
returns-in_err-check_header_size c hash =
    let F : Format = format_of c.args.layout.key_len c.args.layout.value_len hash in
    let p0 = Ok-checked _ (sym c.in_ok-check_tag.was ∙ c.check_tag.ensures) in
    let p1 = Ok-checked _ (sym c.in_ok-check_version.was ∙ c.check_version.ensures) in
    let p2 = Ok-checked _ (sym c.in_ok-check_metadata_size.was ∙ c.check_metadata_size.ensures) in
    let p3 = Ok-checked _ (sym c.in_ok-check_expected_size.was ∙ c.check_expected_size.ensures) in
    let p4 = Ok-checked _ (sym c.in_ok-check_expected_size-2.was ∙ c.check_expected_size-2.ensures) in
    let refusal : c.from_residual-in_err-check_header_size.result ≡ Err c.in_err-check_header_size.field-0.0 = search rules in
    refusal ∙ sym (ap checked (past F c.args.self.now 5 (p0, (p1, (p2, (p3, (p4, tt))))) ∙ option_or-first _ _ _ (Err-checked _ c.in_err-check_header_size.field-0.0 (sym c.in_err-check_header_size.was ∙ c.check_header_size.ensures))))

pub returns : goal.returns
returns c hash =
    let F : Format = format_of c.args.layout.key_len c.args.layout.value_len hash in
    let p0 = Ok-checked _ (sym c.in_ok-check_tag.was ∙ c.check_tag.ensures) in
    let p1 = Ok-checked _ (sym c.in_ok-check_version.was ∙ c.check_version.ensures) in
    let p2 = Ok-checked _ (sym c.in_ok-check_metadata_size.was ∙ c.check_metadata_size.ensures) in
    let p3 = Ok-checked _ (sym c.in_ok-check_expected_size.was ∙ c.check_expected_size.ensures) in
    let p4 = Ok-checked _ (sym c.in_ok-check_expected_size-2.was ∙ c.check_expected_size-2.ensures) in
    let p5 = Ok-checked _ (sym c.in_ok-check_header_size.was ∙ c.check_header_size.ensures) in
    let B = c.args.self.now in
    c.check_slot_count.ensures ∙ sym (ap checked (past F B 6 (p0, (p1, (p2, (p3, (p4, (p5, tt)))))) ∙ ap (option_or (power_refusal B)) (last-first (few_slots_refusal B))))
