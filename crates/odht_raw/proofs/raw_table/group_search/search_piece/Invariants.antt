use Rattle.std.proofs.Common.{◌≡◌, ◌+◌, ◌%◌, length}
use Rattle.std.specs.List.Sorted.{IsStrictlyIncreasing}
use Rattle.odht_raw.specs.Parts.{hashed_by}
use Rattle.odht_base.specs.Decoded.{slot_key}
use Rattle.odht_raw.proofs.lemmas.GroupLooks.{IsTaken}
use Rattle.odht_raw.specs.Stored.{stored_format}
use Rattle.odht_raw.proofs.raw_table.group_search.search_piece.Given as goal

abbrev pub invariant-matches : goal.invariant-matches
invariant-matches g l = record {
  rising : IsStrictlyIncreasing (g.Q.Group.matches l.group);
  same : g.Q.Group.free l.group ≡ g.Q.Group.free l.initial.group;
  taken : IsTaken (g.Q.Group.matches l.initial.group) (g.Q.Group.matches l.group) (λ i. slot_key (hashed_by g.H.HashFn.hash (stored_format l.stored)) l.stored.entries.bytes ((l.start + i) % l.stored.entries.slots) ≡ l.key → ⊥);
}

abbrev pub decreases-matches : goal.decreases-matches
decreases-matches g l = length (g.Q.Group.matches l.group)
