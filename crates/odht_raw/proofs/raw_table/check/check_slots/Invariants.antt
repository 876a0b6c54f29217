use Rattle.std.proofs.Common.{◌≡◌, ◌≤◌, ◌-◌, ◌%◌}
use Rattle.odht_raw.specs.DynParts.{parts_format}
use Rattle.odht_raw.specs.Summaries.{IsSummary}
use Rattle.odht_raw.proofs.raw_table.check.check_slots.Given as goal

-- what is known of the slots before the span
abbrev pub invariant-spans : goal.invariant-spans
invariant-spans g l =
    let F = parts_format l.table g.H.HashFn.hash in
    record {
      within : l.start ≤ l.table.parts.entries.slots;
      groups : l.start % 16 ≡ 0;
      known : IsSummary F l.table.parts l.fn.searches l.start l.summary.occupied l.summary.unreachable;
    }

abbrev pub decreases-spans : goal.decreases-spans
decreases-spans g l = l.table.parts.entries.slots - l.start
