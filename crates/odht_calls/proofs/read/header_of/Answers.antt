use Rattle.std.proofs.Common.{◌≡◌, ◌∙◌, sym}
use Rattle.odht_base.specs.Format.{format_of}
use Rattle.odht_header.specs.Refusals.{checked, opening_refusal}
use Rattle.odht_header.proofs.lemmas.FirstErrors.{Ok-checked, Err-checked}
use Rattle.odht_raw.proofs.lemmas.Accepted.{accepted_opening}
use Rattle.odht_calls.proofs.read.header_of.Given.{Over}
use Rattle.odht_calls.proofs.read.header_of.Goals.{After-check_by_header}
use Rattle.odht_calls.proofs.read.header_of.Goals as goal

-- the check of the header is that of these lengths
by_header : (g : Over) (c : After-check_by_header g)
    → c.check_by_header.result ≡ checked (opening_refusal (format_of (g.L.Lengths.key_len c.args.lengths) (g.L.Lengths.value_len c.args.lengths) g.H.HashFn.hash) c.args.bytes.now)
by_header g c =
    c.check_by_header.ensures g.H.HashFn.hash ∙ (λ i. checked (opening_refusal (format_of (c.of_lengths.ensures.key i) (c.of_lengths.ensures.value i) g.H.HashFn.hash) c.args.bytes.now))

pub of-requires : goal.of-requires
of-requires g c =
    let F = format_of (g.L.Lengths.key_len c.args.lengths) (g.L.Lengths.value_len c.args.lengths) g.H.HashFn.hash in
    (accepted_opening F c.args.bytes.now (Ok-checked _ (sym c.in-Ok.is ∙ by_header g (goal.at.of-requires g c).After-check_by_header))).long

pub returns-in-Ok-clause-err : goal.returns-in-Ok-clause-err
returns-in-Ok-clause-err g c = sym (Ok-checked _ (sym c.in-Ok.is ∙ by_header g (goal.at.returns-in-Ok-clause-err g c).After-check_by_header))

pub returns-in-Err-clause-err : goal.returns-in-Err-clause-err
returns-in-Err-clause-err g c = sym (Err-checked _ c.in-Err.refused (sym c.in-Err.is ∙ by_header g (goal.at.returns-in-Err-clause-err g c).After-check_by_header))
