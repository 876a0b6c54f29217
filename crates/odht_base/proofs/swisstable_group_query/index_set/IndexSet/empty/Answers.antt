use Rattle.odht_base.proofs.lemmas.MaskBits.{no_bits}
use Rattle.odht_base.proofs.swisstable_group_query.index_set.IndexSet.empty.Goals as goal

pub returns : goal.returns
returns c = no_bits 64 0
