use Rattle.std.proofs.Common.{◌≡◌, ◌+◌, ◌-◌, ◌/◌, ◌≤◌, min}
use Rattle.odht_raw.specs.Parts.{hashed_by}
use Rattle.odht_raw.specs.ProbeSeqs.{place_of}
use Rattle.odht_raw.specs.Searches.{IsUnderWay}
use Rattle.odht_raw.specs.Stored.{stored_format}
use Rattle.odht_raw.proofs.raw_table.group_search.search_from.Given as goal

-- the search is under way at the probe, and each group before it was counted
abbrev pub invariant-groups : goal.invariant-groups
invariant-groups g l = record {
  control : l.scan.control ≡ l.fn.scan.control;
  mask : l.probe.mask + 1 ≡ l.stored.entries.slots;
  within : l.probe.position + 16 ≤ l.stored.entries.slots;
  from : l.initial.probe.position ≤ l.probe.position;
  read_so_far : min l.scan.groups 18446744073709551615 ≡ min (l.fn.scan.groups + (l.probe.position - l.initial.probe.position) / 16) 18446744073709551615;
  few : l.scan.groups ≤ l.fn.scan.groups + (l.probe.position - l.initial.probe.position) / 16;
  at : IsUnderWay (hashed_by g.H.HashFn.hash (stored_format l.stored)) l.stored.entries l.key (place_of l.scan l.probe);
}

abbrev pub decreases-groups : goal.decreases-groups
decreases-groups g l = l.stored.entries.slots - l.probe.position
