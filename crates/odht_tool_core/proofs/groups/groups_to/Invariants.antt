use Rattle.std.proofs.Common.{◌≡◌, ◌<◌, ◌*◌, ◌%◌}
use Rattle.odht_tool_core.proofs.GroupPlaces.{IsNotBefore}
use Rattle.odht_tool_core.proofs.groups.groups_to.Given as goal

-- the probe is at the first slot of the group, and no group before has the slot
abbrev pub invariant-loop-group : goal.invariant-loop-group
invariant-loop-group l = record {
  home : l.probe.home ≡ l.hash % l.slot_count;
  mask : l.probe.mask ≡ l.mask;
  position : l.group < l.groups → l.probe.position ≡ 16 * l.group;
  before : IsNotBefore l.hash l.slot_count l.slot l.group;
}
