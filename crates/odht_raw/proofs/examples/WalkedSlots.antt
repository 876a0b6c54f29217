-- Worked examples: the items of slots, as a walk over parts gives them.
use Rattle.std.proofs.Common.{◌≡◌, ℕ, zero, suc, refl, arith, true≢false, List, [], ◌∷◌, lit<}
use Rattle.odht_raw.specs.Words.{controls, entries, le_bytes, Table}
use Rattle.odht_base.proofs.examples.Configs.{direct_config}
use Rattle.odht_raw.specs.Parts.{TableParts}
use Rattle.odht_raw.specs.Walks.{Item, items_of, items_from, AreOccupied}
use Rattle.odht_header.proofs.examples.Invalid.{fives_at}
use Rattle.odht_header.proofs.examples.Opened.{opened}

-- the parts of a table of sixteen slots
abbrev parts : Table → TableParts
parts P = record {
  control = controls direct_config P.cells;
  entries = record { slots = 16; bytes = entries direct_config P.cells };
}

-- slots 6 and 9 hold the pair (5, 5)
abbrev two : TableParts
two = parts (fives_at (6 ∷ 9 ∷ []))

-- the item of each of the two, whose key has the tag 0
abbrev five : Item (List ℕ) (List ℕ)
five = (0, record { key = le_bytes 4 5; value = le_bytes 4 5 })

-- free slots have none
pub items_of_slots : (items_of (λ b. b) (λ b. b) direct_config two (9 ∷ []) ≡ five ∷ [])
    × (items_of (λ b. b) (λ b. b) direct_config two (5 ∷ 6 ∷ 7 ∷ []) ≡ five ∷ [])
    × (items_of (λ b. b) (λ b. b) direct_config two (0 ∷ 15 ∷ []) ≡ [])
unfolding opened
items_of_slots = (refl, refl, refl)

-- a walk from slot 7 on misses the first, and one from slot 10 on both; the mirror is not walked
pub items_from_slots : (items_from (λ b. b) (λ b. b) direct_config two 0 ≡ five ∷ five ∷ [])
    × (items_from (λ b. b) (λ b. b) direct_config two 6 ≡ five ∷ five ∷ [])
    × (items_from (λ b. b) (λ b. b) direct_config two 7 ≡ five ∷ [])
    × (items_from (λ b. b) (λ b. b) direct_config two 10 ≡ [])
unfolding opened
items_from_slots = (refl, refl, refl, refl)

-- slots 6 and 9 are occupied, counted from 4 on
pub occupied_slots : AreOccupied two 4 (2 ∷ 5 ∷ [])
unfolding opened
occupied_slots zero d l = (lit< tt, refl)
occupied_slots (suc zero) d l = (lit< tt, refl)
occupied_slots (suc (suc k)) d l = absurd (omega (arith, l))

-- slot 7 is not, and the mirror of slot 6 is no slot
pub other_slots_refused : (AreOccupied two 4 (2 ∷ 3 ∷ []) → ⊥) × (AreOccupied two 4 (2 ∷ 18 ∷ []) → ⊥)
unfolding opened
other_slots_refused = ((λ all. true≢false (all 1 0 (lit< tt)).1), (λ all. omega (arith, (all 1 0 (lit< tt)).0)))
