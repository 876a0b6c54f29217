use Rattle.odht_base.proofs.lemmas.Words.{pair_decides, whole_decides}
use Rattle.odht_base.proofs.bytes.arrays.is_same_four.Goals as goal

pub returns-then-is_same_pair : goal.returns-then-is_same_pair
returns-then-is_same_pair c =
    whole_decides c.args.left.now c.args.right.now 32 _ c.requires.left c.requires.right
    (pair_decides c.args.left.now c.args.right.now 0 16 16 _ (c.is_same_pair.ensures.0 c.if-is_same_pair.true) c.is_same_pair-then-is_same_pair.ensures)
