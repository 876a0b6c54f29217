use Rattle.std.proofs.Common.{ℕ, ◌+◌, ◌*◌}
use Rattle.odht_raw.specs.Parts.{hashed_by}
use Rattle.odht_base.specs.Table.{Table}
use Rattle.odht_raw.specs.SearchEnds.{GoesOnAmong}
use Rattle.odht_raw.specs.SearchSteps.{IsGroupAt, Passed}
use Rattle.odht_raw.specs.Stored.{stored_format}
use Rattle.odht_raw.proofs.raw_table.group_search.search_group.Given as goal

abbrev pub invariant-loop-piece : goal.invariant-loop-piece
invariant-loop-piece g l =
    let F = hashed_by g.H.HashFn.hash (stored_format l.stored) in
    record {
      on : GoesOnAmong F l.stored.entries l.bytes l.start l.key (l.piece * g.Q.Group.SIZE);
      passed : (P : Table) (p : ℕ) → IsGroupAt F P l.stored.entries l.key p l.start l.bytes → Passed F P l.key (p + l.piece * g.Q.Group.SIZE);
    }
