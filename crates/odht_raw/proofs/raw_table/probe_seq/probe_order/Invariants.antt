use Rattle.std.proofs.Common.{◌≡◌, ◌<◌, ◌≤◌, map}
use Rattle.std.specs.List.{range_with_len}
use Rattle.std.specs.Vec.{vec_len, vec_capacity}
use Rattle.odht_base.specs.Probe.{probe_slot}
use Rattle.odht_raw.proofs.raw_table.probe_seq.probe_order.Given as goal

abbrev pub invariant-loop-position : goal.invariant-loop-position
invariant-loop-position l = record {
  items : l.list.items ≡ map (probe_slot l.start l.slots) (range_with_len 0 l.position);
  len : vec_len l.list ≡ l.position;
  room : l.slots ≤ vec_capacity l.list;
  home : l.probe.home ≡ l.start;
  mask : l.probe.mask ≡ l.mask;
  position : l.position < l.slots → l.probe.position ≡ l.position;
}
