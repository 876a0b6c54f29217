use Rattle.std.proofs.Common.{◌≡◌, ◌∙◌, ap, subst}
use Rattle.odht_base.specs.Format.{format_of}
use Rattle.odht_header.specs.Refusals.{prefix_refusal}
use Rattle.odht_raw.specs.Prefixes.{IsFront}
use Rattle.odht_calls.proofs.lemmas.Prefixes.{answered_table_len, refused_table_len}
use Rattle.odht_calls.proofs.read.table_len.Given.{Over}
use Rattle.odht_calls.proofs.read.table_len.Goals.{After-of_lengths}
use Rattle.odht_calls.proofs.read.table_len.Goals as goal

-- the lengths as numbers are those of the table
same : (g : Over) (c : After-of_lengths g) → format_of c.of_lengths.result.key_len c.of_lengths.result.value_len g.H.HashFn.hash ≡ format_of (g.L.Lengths.key_len c.args.lengths) (g.L.Lengths.value_len c.args.lengths) g.H.HashFn.hash
same g c = λ i. format_of (c.of_lengths.ensures.key i) (c.of_lengths.ensures.value i) g.H.HashFn.hash

pub returns-in-Ok : goal.returns-in-Ok
returns-in-Ok g c =
    let at = (goal.at.returns-in-Ok g c).After-of_lengths in
    answered_table_len _ _ _ _ (subst (λ F. IsFront F c.args.bytes.now c.in-Ok.found) (same g at) (c.in-Ok.ensures.ok g.H.HashFn.hash))

pub returns-in-Err : goal.returns-in-Err
returns-in-Err g c =
    let at = (goal.at.returns-in-Err g c).After-of_lengths in
    refused_table_len _ _ _ c.in-Err.refused _ (c.in-Err.ensures.err g.H.HashFn.hash ∙ ap (λ F. prefix_refusal F c.args.bytes.now) (same g at)) c.status_of.ensures
