use Rattle.odht_calls.proofs.lemmas.Layouts.{of_long}
use Rattle.odht_calls.proofs.lemmas.Refused.{accepted_get, refused_get}
use Rattle.odht_calls.proofs.any.read.get.Goals as goal

pub returns-in-Err : goal.returns-in-Err
returns-in-Err g c = of_long (c.if-key-layout.false, c.if-value-layout.false) (refused_get _ _ c.in-Err.refused _ c.in-Err.ensures.err c.status_of.ensures _ _)

pub returns : goal.returns
returns g c =
    of_long (c.if-key-layout.false, c.if-value-layout.false) (accepted_get _ _ c.in_default.ensures.err _ _ _ _ (c.get.ensures.answers (c.if-key-layout.false, c.if-value-layout.false)))
