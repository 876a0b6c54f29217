use Rattle.std.proofs.Common.{rules, ◌≡◌, ◌∙◌, sym, ap, Err}
use Rattle.odht_base.specs.Format.{Format, format_of}
use Rattle.odht_header.specs.Refusals.{checked}
use Rattle.odht_header.proofs.lemmas.FirstErrors.{Ok-checked, Err-checked}
use Rattle.odht_raw.proofs.lemmas.Openings.{check_refusal-view, check_refusal-late, view_refusal-accepted}
use Rattle.odht_calls.proofs.read.whole.Goals as goal

pub returns-in_err-check_opening_in : goal.returns-in_err-check_opening_in
returns-in_err-check_opening_in g c =
    let F : Format = format_of (g.L.Lengths.key_len c.args.lengths) (g.L.Lengths.value_len c.args.lengths) g.H.HashFn.hash in
    let refusal : c.from_residual.result ≡ Err c.in_err-check_opening_in.field-0.0 = search rules in
    refusal ∙ sym (ap checked (check_refusal-view F c.args.bytes.now c.args.groups c.in_err-check_opening_in.field-0.0 (Err-checked _ c.in_err-check_opening_in.field-0.0 (sym c.in_err-check_opening_in.was ∙ c.check_opening_in.ensures))))

pub check_parts-requires-clause-accepted : goal.check_parts-requires-clause-accepted
check_parts-requires-clause-accepted g c =
    let F : Format = format_of (g.L.Lengths.key_len c.args.lengths) (g.L.Lengths.value_len c.args.lengths) g.H.HashFn.hash in
    view_refusal-accepted F c.args.bytes.now (Ok-checked _ (sym c.in_ok-check_opening_in.was ∙ c.check_opening_in.ensures))

pub returns : goal.returns
returns g c =
    let F : Format = format_of (g.L.Lengths.key_len c.args.lengths) (g.L.Lengths.value_len c.args.lengths) g.H.HashFn.hash in
    c.check_parts.ensures.first ∙ sym (ap checked (check_refusal-late F c.args.bytes.now c.args.groups (Ok-checked _ (sym c.in_ok-check_opening_in.was ∙ c.check_opening_in.ensures))))
