use Rattle.std.proofs.Common.{refl}
use Rattle.odht_tool_core.specs.Pairs.{pairs_in}
use Rattle.odht_tool_core.proofs.key_lists.ByteKeysKeys.none.Goals as goal

pub returns : goal.returns
unfolding pairs_in
returns c = refl
