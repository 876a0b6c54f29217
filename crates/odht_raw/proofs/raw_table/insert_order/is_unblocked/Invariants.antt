use Rattle.std.proofs.Common.{◌≡◌, ◌+◌, ◌-◌}
use Rattle.odht_raw.specs.Waiting.{IsFrontier}
use Rattle.odht_raw.proofs.raw_table.insert_order.is_unblocked.Given as goal

abbrev pub invariant-groups : goal.invariant-groups
invariant-groups l = record {
  frontier : IsFrontier l.slots (l.mask + 1) l.frontier.home l.frontier.base l.frontier.position;
  home : l.frontier.home ≡ l.fn.frontier.home;
}

abbrev pub decreases-groups : goal.decreases-groups
decreases-groups l = l.mask + 1 - l.frontier.position
