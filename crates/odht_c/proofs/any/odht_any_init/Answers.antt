use Rattle.odht_calls.proofs.lemmas.Layouts.{by_fx}
use Rattle.odht_c.proofs.any.odht_any_init.Goals as goal

pub returns-then-has_hash : goal.returns-then-has_hash
returns-then-has_hash c = by_fx _ _ _ _ (c.has_hash.ensures.has.0 c.if-has_hash.true) c.init.ensures
