use Rattle.std.proofs.Common.{[], length}
use Rattle.odht_base.specs.Table.{Table}
use Rattle.odht_raw.specs.DynParts.{parts_format}
use Rattle.odht_raw.specs.Waiting.{AreWholeParts}
use Rattle.odht_raw.proofs.lemmas.LeftSlots.{IsLeftBefore}
use Rattle.odht_raw.proofs.lemmas.PlacedFirst.{IsGone, IsPassed}
use Rattle.odht_raw.proofs.raw_table.insert_order.place_near.Given as goal

-- those before `at` are placed, and none was left to wait
abbrev pub invariant-loop-at : goal.invariant-loop-at
invariant-loop-at g l =
    let F = parts_format l.table g.H.HashFn.hash in
    record {
      gone : IsGone l.table.parts.entries.slots l.fn.slots l.slots l.at l.at;
      left : IsLeftBefore l.slots l.at 0;
      passed : (P : Table) → AreWholeParts F P l.table.parts (length l.fn.slots) → IsPassed F P [] l.fn.slots l.slots l.at l.at;
    }
