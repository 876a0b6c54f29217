use Rattle.std.proofs.Common.{◌∙◌}
use Rattle.odht_base.specs.Format.{format_of}
use Rattle.odht_header.specs.Refusals.{checked, header_refusal}
use Rattle.odht_header.proofs.header.Header.sanity_check.Goals as goal

pub returns : goal.returns
returns g c =
    let hash = g.C.H.HashFn.hash in
    c.check_layout.ensures hash
    ∙ (λ i. checked (header_refusal (format_of (c.of.ensures.key i) (c.of.ensures.value i) hash) c.args.raw_bytes_len c.args.self.now))
