use Rattle.std.proofs.Common.{◌*◌}
use Rattle.odht_raw.specs.Frame.{HasNoFree}
use Rattle.odht_raw.proofs.raw_table.group_search.first_free_of_group.Given as goal

abbrev pub invariant-loop-piece : goal.invariant-loop-piece
invariant-loop-piece g l = HasNoFree l.bytes (l.piece * g.Q.Group.SIZE)
