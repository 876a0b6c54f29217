use Rattle.std.proofs.Common.{◌∙◌, ap, drop, arith}
use Rattle.odht_base.proofs.lemmas.MaskBits.{without_lowest_lane}
use Rattle.odht_base.proofs.swisstable_group_query.lane_set.LaneSet.drop_first.Goals as goal

pub returns : goal.returns
returns c = without_lowest_lane c.self.inside.bits (omega arith) ∙ ap (drop 1) c.self.view_is
