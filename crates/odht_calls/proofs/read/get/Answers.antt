use Rattle.std.proofs.Common.{◌∙◌, sym, true≢false}
use Rattle.odht_calls.proofs.lemmas.Refused.{refused_get, the_error}
use Rattle.odht_calls.proofs.read.get.Goals as goal

pub returns-then-not-is_accepted : goal.returns-then-not-is_accepted
returns-then-not-is_accepted g c =
    let found = the_error _ (λ none. true≢false (sym (c.is_accepted.ensures.1 none) ∙ c.if-not-is_accepted.true)) in
    refused_get _ _ found.0 _ found.1 (c.refused.ensures ∙ found.2) _ _
