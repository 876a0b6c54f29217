use Rattle.std.proofs.Common.{map}
use Rattle.odht_raw.specs.Words.{format_of, IsPartsOf, Table}
use Rattle.odht_raw.specs.Walks.{stored}
use Rattle.odht.specs.Equality.{HasAll}
use Rattle.odht.proofs.equality.has_all.Given as goal

-- the table has all items exactly where it has those that are left
abbrev pub invariant-loop-entry : goal.invariant-loop-entry
invariant-loop-entry g l =
    let F = format_of g.K.ByteArray.LEN g.V.ByteArray.LEN g.H.HashFn.hash in
    let pairs = map (stored g.K.ByteArray.bytes g.V.ByteArray.bytes) in
    record {
      left : (Q : Table) → IsPartsOf F Q l.table.entries.bytes l.table.control → HasAll Q (pairs l.initial.entry-iterator) → HasAll Q (pairs l.entry-iterator);
      whole : (Q : Table) → IsPartsOf F Q l.table.entries.bytes l.table.control → HasAll Q (pairs l.entry-iterator) → HasAll Q (pairs l.initial.entry-iterator);
    }
