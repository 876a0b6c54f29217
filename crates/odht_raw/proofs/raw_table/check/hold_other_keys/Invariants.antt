use Rattle.std.proofs.Common.{◌≡◌, ◌<◌, ◌+◌, ◌%◌, length}
use Rattle.std.specs.List.Sorted.{IsStrictlyIncreasing}
use Rattle.odht_base.specs.Decoded.{slot_key}
use Rattle.odht_raw.specs.DynParts.{parts_format}
use Rattle.odht_raw.proofs.lemmas.GroupLooks.{IsTaken}
use Rattle.odht_raw.proofs.raw_table.check.hold_other_keys.Given as goal

-- the matches rise, and each that was taken is behind the slots in question, or has another key
abbrev pub invariant-matches : goal.invariant-matches
invariant-matches g l =
    let F = parts_format l.table g.H.HashFn.hash in
    let es = l.table.parts.entries.bytes in
    IsStrictlyIncreasing l.group.matches × IsTaken l.initial.group.matches l.group.matches (λ x. x < l.count → slot_key F es ((l.start + x) % l.table.parts.entries.slots) ≡ slot_key F es l.slot → ⊥)

abbrev pub decreases-matches : goal.decreases-matches
decreases-matches g l = length l.group.matches
