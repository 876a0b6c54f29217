use Rattle.std.proofs.Common.{◌≡◌, ◌*◌, ◌<◌, ◌≤◌, ◌%◌, map}
use Rattle.std.specs.List.{range_with_len}
use Rattle.std.specs.Vec.{vec_len, vec_capacity}
use Rattle.odht_base.specs.Probe.{probe_slot}
use Rattle.odht_vectors.proofs.vectors.group_starts.group_starts.Given as goal

abbrev pub invariant-loop-group : goal.invariant-loop-group
invariant-loop-group g l = record {
  items : l.starts.items ≡ map (λ j. probe_slot (l.hash % l.slots) l.slots (j * g.row.SIZE)) (range_with_len 0 l.group);
  len : vec_len l.starts ≡ l.group;
  room : l.groups ≤ vec_capacity l.starts;
  home : l.probe.home ≡ l.hash % l.slots;
  mask : l.probe.mask ≡ l.mask;
  position : l.group < l.groups → l.probe.position ≡ l.group * g.row.SIZE;
}
