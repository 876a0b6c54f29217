use Rattle.std.proofs.Common.{ℕ, ◌<◌, ◌%◌, ◌≡◌}
use Rattle.std.specs.Prelude.{slice_index, IsFalse}
use Rattle.odht_raw.specs.Words.{counts_as_free, format_of, IsPartsOf, probe_slot, slot_key, Table}
use Rattle.odht_raw.specs.SearchSteps.{Passed}
use Rattle.odht_raw.proofs.raw_table.plain.plain_search.Given as goal

abbrev pub invariant-loop-position : goal.invariant-loop-position
invariant-loop-position g l =
    let F = format_of g.K.ByteArray.LEN g.V.ByteArray.LEN g.H.HashFn.hash in
    record {
      occupied : (q : ℕ) → q < l.position → IsFalse (counts_as_free (slice_index l.control (probe_slot (l.hash % l.entries.slots) l.entries.slots q)));
      other : (q : ℕ) → q < l.position → slot_key F l.entries.bytes (probe_slot (l.hash % l.entries.slots) l.entries.slots q) ≡ g.K.ByteArray.bytes l.key → ⊥;
      passed : (P : Table) → IsPartsOf F P l.entries.bytes l.control → Passed F P (g.K.ByteArray.bytes l.key) l.position;
    }
