use Rattle.std.proofs.Common.{◌∙◌}
use Rattle.odht_base.proofs.lemmas.Words.{pair_decides, whole_decides}
use Rattle.odht_base.proofs.bytes.arrays.ArrayU8ByteArray.equals.Goals as goal

pub returns-in-16 : goal.returns-in-16
returns-in-16 g c = whole_decides c.args.self.now c.args.other.now 16 _ (c.told-self ∙ c.in-16.is) (c.told-other ∙ c.in-16.is) c.is_same_pair.ensures

pub returns-then-is_same_pair : goal.returns-then-is_same_pair
returns-then-is_same_pair g c =
    whole_decides c.args.self.now c.args.other.now 20 _ (c.told-self ∙ c.in-20.is) (c.told-other ∙ c.in-20.is)
    (pair_decides c.args.self.now c.args.other.now 0 16 4 _ (c.is_same_pair-in-20.ensures.0 c.if-is_same_pair.true) c.is_same_half.ensures)

pub returns-then-is_same_pair-2 : goal.returns-then-is_same_pair-2
returns-then-is_same_pair-2 g c =
    whole_decides c.args.self.now c.args.other.now 24 _ (c.told-self ∙ c.in-24.is) (c.told-other ∙ c.in-24.is)
    (pair_decides c.args.self.now c.args.other.now 0 16 8 _ (c.is_same_pair-in-24.ensures.0 c.if-is_same_pair-2.true) c.is_same_word-then-is_same_pair-2.ensures)
