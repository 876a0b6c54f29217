use Rattle.std.proofs.Common.{◌≡◌, ◌+◌, ◌-◌, ◌≤◌, ◌++◌, map}
use Rattle.odht_raw.specs.Parts.{TableParts, entry_format}
use Rattle.odht_raw.specs.Walks.{numbered_of, numbered_from, AreOccupied}
use Rattle.odht_raw.proofs.raw_table.walk.RawSlotsIterator.next.Given as goal

-- the parts are those at the start, and the items left are those of the group's occupied slots and of later slots
abbrev pub invariant-groups : goal.invariant-groups
invariant-groups g l =
    let F = entry_format g.K.ByteArray.LEN g.V.ByteArray.LEN in
    let T : TableParts = record { control = l.self-inside.control.now; entries = l.self-inside.entries } in
    let S : TableParts = record { control = l.initial.self-inside.control.now; entries = l.initial.self-inside.entries } in
    record {
      control : l.self-inside.control ≡ l.initial.self-inside.control;
      entries : l.self-inside.entries ≡ l.initial.self-inside.entries;
      within : l.self-inside.next_slot ≤ l.self-inside.entries.slots;
      occupied : AreOccupied T l.self-inside.base l.self-inside.occupied;
      left : numbered_of g.K.ByteArray.of_bytes g.V.ByteArray.of_bytes F T (map (λ i. l.self-inside.base + i) l.self-inside.occupied) ++ numbered_from g.K.ByteArray.of_bytes g.V.ByteArray.of_bytes F T l.self-inside.next_slot
          ≡ numbered_of g.K.ByteArray.of_bytes g.V.ByteArray.of_bytes F S (map (λ i. l.initial.self-inside.base + i) l.initial.self-inside.occupied) ++ numbered_from g.K.ByteArray.of_bytes g.V.ByteArray.of_bytes F S l.initial.self-inside.next_slot;
    }

abbrev pub decreases-groups : goal.decreases-groups
decreases-groups g l = l.self-inside.entries.slots - l.self-inside.next_slot
