use Rattle.std.proofs.Common.{◌≡◌, ◌<◌, ◌-◌, ◌/◌, ◌^◌, ◌%◌, ℕ}
use Rattle.std.specs.Prelude.{IsFalse}
use Rattle.odht_raw.specs.Words.{bytes_at, probe_slot, slot_key, stops_at}
use Rattle.odht_raw.specs.Checks.{cells_of, IsFitting, IsGroupSearch}
use Rattle.odht_raw.specs.DynParts.{parts_format}
use Rattle.odht_raw.proofs.raw_table.check.is_reached_by_groups.Given as goal

-- the probe's group was looked at, and each position before it is passed and is not the slot's own
abbrev pub invariant-groups : goal.invariant-groups
invariant-groups g l =
    let F = parts_format l.table g.H.HashFn.hash in
    let s = l.table.parts.entries.slots in
    record {
      control : l.probe.control ≡ l.table.parts.control;
      home : l.probe.home ≡ l.hash % s;
      looked : IsGroupSearch (bytes_at l.table.parts.control (probe_slot (l.hash % s) s l.probe.position) 16) (l.hash / 2 ^ 25) l.group;
      others : (q : ℕ) → q < l.probe.position → probe_slot (l.hash % s) s q ≡ l.fn.slot → ⊥;
      passed : IsFitting F l.table.parts → (q : ℕ) → q < l.probe.position
          → IsFalse (stops_at (cells_of F l.table.parts) (slot_key F l.table.parts.entries.bytes l.fn.slot) (probe_slot (l.hash % s) s q));
    }

abbrev pub decreases-groups : goal.decreases-groups
decreases-groups g l = l.table.parts.entries.slots - l.probe.position
