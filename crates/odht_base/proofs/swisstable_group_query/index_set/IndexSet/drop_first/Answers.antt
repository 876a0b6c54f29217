use Rattle.std.proofs.Common.{◌∙◌, ap, drop, arith}
use Rattle.odht_base.proofs.lemmas.MaskBits.{without_lowest}
use Rattle.odht_base.proofs.swisstable_group_query.index_set.IndexSet.drop_first.Goals as goal

pub returns : goal.returns
returns c = without_lowest c.self.inside.bits (omega arith) ∙ ap (drop 1) c.self.view_is
