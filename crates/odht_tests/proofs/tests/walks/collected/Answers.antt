use Rattle.std.proofs.Common.{rules, ◌≡◌, ◌∙◌}
use Rattle.odht_tests.proofs.Drained.{drained, IfOk-more}
use Rattle.odht_tests.proofs.tests.walks.collected.Goals as goal

pub returns : goal.returns
returns g c = IfOk-more _ _ c.collect.result (λ v h. let all : v.items ≡ h.0 = search rules in all ∙ drained _ h.0 h.1 (tt {0}) ∙ c.iter.ensures.pairs) c.collect.ensures.ran
