use Rattle.std.proofs.Common.{◌≡◌, ◌+◌, ◌-◌, ◌%◌}
use Rattle.odht_raw.proofs.lemmas.GroupSearches.{OccupiedBefore}
use Rattle.odht_raw.proofs.raw_table.group_search.first_free_by_groups.Given as goal

-- the slots before the probe's position count as occupied
abbrev pub invariant-groups : goal.invariant-groups
invariant-groups g l = record {
  control : l.probe.control ≡ l.control;
  home : l.probe.home ≡ l.hash % (l.mask + 1);
  occupied : OccupiedBefore l.control (l.hash % (l.mask + 1)) (l.mask + 1) l.probe.position;
}

abbrev pub decreases-groups : goal.decreases-groups
decreases-groups g l = l.mask + 1 - l.probe.position
