use Rattle.std.proofs.Common.{◌∙◌, ap, length}
use Rattle.std.proofs.lemmas.List.{length-map}
use Rattle.odht_base.specs.Table.{walk}
use Rattle.odht_tests.proofs.Drained.{drained}
use Rattle.odht_tests.proofs.tests.walks.counted.Goals as goal

pub returns : goal.returns
returns g c =
    let ran = c.count.ensures.ran in
    ran.2 ∙ ap length (drained _ ran.0 (ran.1.1.0, ran.1.1.1, λ w. (ran.1.0, ran.1.1.2)) (tt {0})) ∙ ap length c.iter.ensures.pairs ∙ length-map (walk c.args.table.now) _
