use Rattle.std.proofs.Common.{rules, ◌≡◌, ◌∙◌, sym, ap, Err}
use Rattle.odht_base.specs.Format.{Format, format_of}
use Rattle.odht_header.specs.Refusals.{checked}
use Rattle.odht_header.proofs.lemmas.FirstErrors.{option_or-first, option_or-second, Ok-checked, Err-checked}
use Rattle.odht_header.proofs.lemmas.HeaderChecks.{header_refusal-fields}
use Rattle.odht_header.proofs.header.Header.check_layout.Goals as goal

pub returns-in_err-check_fields : goal.returns-in_err-check_fields
returns-in_err-check_fields c hash =
    let F : Format = format_of c.args.layout.key_len c.args.layout.value_len hash in
    let x = c.in_err-check_fields.field-0.0 in
    let refusal : c.from_residual.result ≡ Err x = search rules in
    refusal ∙ sym (ap checked (header_refusal-fields F c.args.raw_bytes_len c.args.self.now ∙ option_or-first _ _ x (Err-checked _ x (sym c.in_err-check_fields.was ∙ c.check_fields.ensures hash))))

pub returns : goal.returns
returns c hash =
    let F : Format = format_of c.args.layout.key_len c.args.layout.value_len hash in
    let passed = Ok-checked _ (sym c.in_ok-check_fields.was ∙ c.check_fields.ensures hash) in
    c.check_length.ensures hash ∙ sym (ap checked (header_refusal-fields F c.args.raw_bytes_len c.args.self.now ∙ option_or-second _ _ passed))
