use Rattle.std.proofs.Common.{◌≡◌, ◌+◌, ◌%◌, ℕ, List, length}
use Rattle.std.specs.Prelude.{⊤}
use Rattle.std.specs.List.Sorted.{IsStrictlyIncreasing}
use Rattle.odht_raw.specs.Reads.{read_key}
use Rattle.odht_raw.proofs.lemmas.GroupLooks.{IsTaken}
use Rattle.odht_raw.proofs.raw_table.read_search.look_at_read.Given as goal

abbrev pub invariant-matches : goal.invariant-matches
invariant-matches g l = record {
  rising : IsStrictlyIncreasing (g.Q.Group.matches l.group);
  same : g.Q.Group.free l.group ≡ g.Q.Group.free l.initial.group;
  part : IsTaken (g.Q.Group.matches l.initial.group) (g.Q.Group.matches l.group) (λ i. ⊤);
  taken : (B : List ℕ) → g.S.ReadAt.gives l.source B → IsTaken (g.Q.Group.matches l.initial.group) (g.Q.Group.matches l.group) (λ i. read_key l.place B ((l.start + i) % l.place.slots) ≡ l.key → ⊥);
}

abbrev pub decreases-matches : goal.decreases-matches
decreases-matches g l = length (g.Q.Group.matches l.group)
