use Rattle.std.proofs.Common.{rules, ◌≡◌, ◌∙◌, sym, ap, Option, Err, Some, None, ℕ}
use Rattle.odht_base.specs.Format.{Format, format_of}
use Rattle.odht_header.specs.Refusals.{checked, check_refusal_by}
use Rattle.odht_header.proofs.lemmas.FirstErrors.{Ok-checked, Err-checked}
use Rattle.odht_raw.proofs.lemmas.Openings.{check_refusal-view, check_refusal-late, view_refusal-accepted}
use Rattle.odht_tool_tables.proofs.dynamic.check_lengths.Goals as goal

pub returns-in_err-check_opening-clause-first : goal.returns-in_err-check_opening-clause-first
returns-in_err-check_opening-clause-first g c =
    let F : Format = format_of c.args.layout.key_len c.args.layout.value_len g.H.HashFn.hash in
    let x = c.in_err-check_opening.field-0.0 in
    let refusal : c.from_residual.result ≡ Err x = search rules in
    refusal ∙ sym (ap checked (check_refusal-view F c.args.bytes.now c.args.bound x (Err-checked _ x (sym c.in_err-check_opening.was ∙ c.check_opening.ensures))))

pub check_dynamic_within-requires-clause-accepted : goal.check_dynamic_within-requires-clause-accepted
check_dynamic_within-requires-clause-accepted g c =
    let F : Format = format_of c.args.layout.key_len c.args.layout.value_len g.H.HashFn.hash in
    view_refusal-accepted F c.args.bytes.now (Ok-checked _ (sym c.in_ok-check_opening.was ∙ c.check_opening.ensures))

pub check_dynamic-requires-clause-accepted : goal.check_dynamic-requires-clause-accepted
check_dynamic-requires-clause-accepted g c =
    let F : Format = format_of c.args.layout.key_len c.args.layout.value_len g.H.HashFn.hash in
    view_refusal-accepted F c.args.bytes.now (Ok-checked _ (sym c.in_ok-check_opening.was ∙ c.check_opening.ensures))

pub returns-in-Some-clause-first : goal.returns-in-Some-clause-first
returns-in-Some-clause-first g c =
    let F : Format = format_of c.args.layout.key_len c.args.layout.value_len g.H.HashFn.hash in
    let B = c.args.bytes.now in
    let passed = Ok-checked _ (sym c.in_ok-check_opening.was ∙ c.check_opening.ensures) in
    c.check_dynamic_within.ensures.first
    ∙ sym (ap checked (check_refusal-late F B (Some c.in-Some.groups) passed))
    ∙ sym (ap (λ (o : Option ℕ). checked (check_refusal_by F o B)) c.in-Some.is)

pub returns-in-None-clause-first : goal.returns-in-None-clause-first
returns-in-None-clause-first g c =
    let F : Format = format_of c.args.layout.key_len c.args.layout.value_len g.H.HashFn.hash in
    let B = c.args.bytes.now in
    let passed = Ok-checked _ (sym c.in_ok-check_opening.was ∙ c.check_opening.ensures) in
    c.check_dynamic.ensures.first
    ∙ sym (ap checked (check_refusal-late F B None passed))
    ∙ sym (ap (λ (o : Option ℕ). checked (check_refusal_by F o B)) c.in-None.is)
