use Rattle.odht_base.proofs.lemmas.Words.{pair_decides}
use Rattle.odht_base.proofs.bytes.arrays.is_same_pair.Goals as goal

pub returns-then-is_same_word : goal.returns-then-is_same_word
returns-then-is_same_word c = pair_decides c.args.left.now c.args.right.now c.args.at 8 8 _ (c.is_same_word.ensures.0 c.if-is_same_word.true) c.is_same_word-then-is_same_word.ensures
