use Rattle.std.proofs.Common.{rules, ◌≡◌, ◌∙◌, sym, ap, Err}
use Rattle.odht_raw.specs.Words.{checked, Format, format_of, hashes_refusal, opening_refusal}
use Rattle.odht_raw.specs.Frame.{IsAccepted}
use Rattle.odht_raw.specs.DynParts.{DynParts, parts_format}
use Rattle.odht_header.proofs.lemmas.FirstErrors.{Ok-checked, Err-checked}
use Rattle.odht_raw.proofs.lemmas.Openings.{view_refusal-opening, view_refusal-slots}
use Rattle.odht_raw.proofs.memory_layout.opening.check_opening_in.Given.{Over}
use Rattle.odht_raw.proofs.memory_layout.opening.check_opening_in.Goals.{After-check_by_header}
use Rattle.odht_raw.proofs.memory_layout.opening.check_opening_in.Goals as goal

-- the check of the header is that of these lengths
by_header : (g : Over) (c : After-check_by_header g)
    → c.check_by_header.result ≡ checked (opening_refusal (format_of (g.L.Lengths.key_len c.args.lengths) (g.L.Lengths.value_len c.args.lengths) g.H.HashFn.hash) c.args.bytes.now)
by_header g c =
    c.check_by_header.ensures g.H.HashFn.hash ∙ (λ i. checked (opening_refusal (format_of (c.of_lengths.ensures.key i) (c.of_lengths.ensures.value i) g.H.HashFn.hash) c.args.bytes.now))

pub returns-in_err-check_by_header : goal.returns-in_err-check_by_header
returns-in_err-check_by_header g c =
    let F : Format = format_of (g.L.Lengths.key_len c.args.lengths) (g.L.Lengths.value_len c.args.lengths) g.H.HashFn.hash in
    let x = c.in_err-check_by_header.field-0.0 in
    let refusal : c.from_residual.result ≡ Err x = search rules in
    let header = by_header g (goal.at.returns-in_err-check_by_header g c).After-check_by_header in
    refusal ∙ sym (ap checked (view_refusal-opening F c.args.bytes.now x (Err-checked _ x (sym c.in_err-check_by_header.was ∙ header))))

pub parts_in-requires-clause-accepted : goal.parts_in-requires-clause-accepted
parts_in-requires-clause-accepted g c =
    Ok-checked _ (sym c.in_ok-check_by_header.was ∙ by_header g (goal.at.parts_in-requires-clause-accepted g c).After-check_by_header)

pub returns : goal.returns
returns g c =
    let F : Format = format_of (g.L.Lengths.key_len c.args.lengths) (g.L.Lengths.value_len c.args.lengths) g.H.HashFn.hash in
    let is : IsAccepted F c.args.bytes.now = Ok-checked _ (sym c.in_ok-check_by_header.was ∙ by_header g (goal.at.returns g c).After-check_by_header) in
    c.sanity_check_hashes.ensures
    ∙ ap (λ (S : DynParts). checked (hashes_refusal (parts_format S F.hash) S.parts.entries.bytes S.parts.control 10)) c.parts_in.ensures.parts
    ∙ sym (ap checked (view_refusal-slots F c.args.bytes.now is))
