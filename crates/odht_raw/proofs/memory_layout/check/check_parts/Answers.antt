use Rattle.std.proofs.Common.{◌≡◌, ◌∙◌}
use Rattle.odht_raw.specs.Words.{checked, Format, format_of, late_refusal_by}
use Rattle.odht_header.proofs.lemmas.Formats.{IsFormat-format_of}
use Rattle.odht_raw.specs.DynParts.{parts_format}
use Rattle.odht_raw.proofs.lemmas.WholeChecks.{checked_late}
use Rattle.odht_raw.proofs.memory_layout.check.check_parts.Goals as goal

pub returns-clause-valid : goal.returns-clause-valid
returns-clause-valid g c =
    let F : Format = format_of (g.L.Lengths.key_len c.args.lengths) (g.L.Lengths.value_len c.args.lengths) g.H.HashFn.hash in
    let f = IsFormat-format_of _ _ _ _ c.requires.pair.key c.requires.pair.value c.requires.pair.hashes g.met.H.HashFn.fits in
    let first : c.check_late.result ≡ checked (late_refusal_by F c.args.groups c.args.bytes.now) =
    c.check_late.ensures ∙ (λ i. checked (late_refusal_by (parts_format (c.parts_in-table.ensures.parts i) g.H.HashFn.hash) c.args.groups (c.of.ensures i))) in
    checked_late F f c.args.groups c.args.bytes.now c.prove_bytes.ensures c.requires.accepted c.check_late.result first
