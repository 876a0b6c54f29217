use Rattle.std.proofs.Common.{◌≡◌, ◌+◌, ◌%◌, length}
use Rattle.odht_raw.specs.Words.{home, slot_key}
use Rattle.odht_raw.proofs.lemmas.GroupLooks.{IsTaken}
use Rattle.odht_raw.specs.DynParts.{parts_format}
use Rattle.odht_raw.proofs.raw_table.parts.Parts.find_from.Given as goal

-- the entries of the matches that were dropped have other keys
abbrev pub invariant-matches : goal.invariant-matches
invariant-matches g l =
    let F = parts_format l.self g.H.HashFn.hash in
    let k = l.key in
    record {
      same : l.group.free ≡ l.initial.group.free;
      taken : IsTaken l.initial.group.matches l.group.matches (λ i. slot_key F l.self.parts.entries.bytes ((home F k l.self.parts.entries.slots + i) % l.self.parts.entries.slots) ≡ k → ⊥);
    }

abbrev pub decreases-matches : goal.decreases-matches
decreases-matches g l = length l.group.matches
