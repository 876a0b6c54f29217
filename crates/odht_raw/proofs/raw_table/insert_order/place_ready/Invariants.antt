use Rattle.std.proofs.Common.{ℕ, List}
use Rattle.odht_raw.specs.Words.{IsPartsOf, Table}
use Rattle.odht_raw.specs.DynParts.{parts_format}
use Rattle.odht_raw.specs.Frontiers.{AreFrontiers}
use Rattle.odht_raw.specs.Waiting.{IsPending}
use Rattle.odht_raw.proofs.lemmas.LeftSlots.{IsLeftBefore}
use Rattle.odht_raw.proofs.lemmas.PlacedFirst.{IsGone, IsPassed}
use Rattle.odht_raw.proofs.raw_table.insert_order.place_ready.Given as goal

-- what the pass has done before `at`; the last slot that it left; the frontiers; and for each table that it may be of, and each list of placed slots
abbrev pub invariant-loop-at : goal.invariant-loop-at
invariant-loop-at g l =
    let F = parts_format l.table g.H.HashFn.hash
    in IsGone l.table.parts.entries.slots l.fn.slots l.slots l.at l.placed
    × IsLeftBefore l.slots l.at l.left
    × AreFrontiers l.slots l.table.parts.entries.slots l.frontiers
    × ((P : Table) (done : List ℕ)
    → IsPartsOf F P l.table.parts.entries.bytes l.table.parts.control
    → IsPending F P done l.fn.slots
    → IsPassed F P done l.fn.slots l.slots l.at l.placed)
