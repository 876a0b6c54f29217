use Rattle.std.proofs.Common.{All, ℕ, ◌<◌, List, subst}
use Rattle.std.proofs.lemmas.List.Elements.{All-head, All-tail}
use Rattle.odht_raw.specs.Walks.{Item}
use Rattle.odht_raw.proofs.raw_table.walk.PartSlotsIterator.next.Goals as goal

-- the slot of an item is below n
abbrev below : ℕ → ℕ × Item (List ℕ) (List ℕ) → Type 0
below n x = x.0 < n

pub key-requires : goal.key-requires
key-requires g c =
    let s : ℕ = c.self.inside.table.parts.entries.slots in
    All-head (below s) _ _ (subst (All (below s)) c.in_ok-slot.ensures.steps c.self.invariant)

pub value-requires : goal.value-requires
value-requires g c =
    let s : ℕ = c.self.inside.table.parts.entries.slots in
    All-head (below s) _ _ (subst (All (below s)) c.in_ok-slot.ensures.steps c.self.invariant)

pub invariant_of-self-2 : goal.invariant_of-self-2
invariant_of-self-2 g c =
    let s : ℕ = c.self.inside.table.parts.entries.slots in
    All-tail (below s) _ _ (subst (All (below s)) c.in_ok-slot.ensures.steps c.self.invariant)
