use Rattle.odht_calls.proofs.lemmas.Layouts.{of_long}
use Rattle.odht_calls.proofs.lemmas.Refused.{accepted_contains, refused_contains}
use Rattle.odht_calls.proofs.any.read.contains.Goals as goal

pub returns-in-Err : goal.returns-in-Err
returns-in-Err g c = of_long c.if-key-layout.false (refused_contains _ _ c.in-Err.refused _ c.in-Err.ensures.err c.status_of.ensures _)

pub returns : goal.returns
returns g c = of_long c.if-key-layout.false (accepted_contains _ _ c.in_default.ensures.err _ _ (c.contains.ensures.answers c.if-key-layout.false))
