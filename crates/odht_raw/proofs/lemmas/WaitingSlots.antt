-- Slots that wait to be placed, as they are listed: a list of slots that rises.
use Rattle.std.proofs.Common.{◌≡◌, ◌<◌, ◌^◌, ◌∙◌, inl, inr, ℕ, ap, List, AllPairs, slice_index, ltb, arith}
use Rattle.std.specs.List.Sorted.{IsPartitionedBy}
use Rattle.odht_raw.proofs.lemmas.Below.{add-mod_left, cases_lt, get_or-map, IsNonDecreasingBy-from_default, IsPartitionedBy-ltb, length-map, mod-eq_of_lt}
use Rattle.odht_raw.specs.Waiting.{waiting, slot_of, AreRising}

-- the slot of one that waits
pub slot_of-waiting : (slot : ℕ) → slot < 2 ^ 63 → slot_of (waiting slot) ≡ slot
slot_of-waiting slot small = add-mod_left (2 ^ 63) slot ∙ mod-eq_of_lt small

-- the slots of a list rise as its items do
abbrev pub SlotsRise : List ℕ → Type 0
SlotsRise ns = AllPairs (λ a b. slot_of a < slot_of b) ns

-- where the list of its slots rises
pub slots_rise : (ns : List ℕ) → AreRising ns → SlotsRise ns
slots_rise ns rise i j d lt l =
    let size = length-map ns slot_of in
    omega (arith, rise i j 0 lt (omega (arith, l, size)), get_or-map slot_of ns i d 0 (omega (arith, lt, l)), get_or-map slot_of ns j d 0 l)

-- so those below a slot come first
pub parted_where_rising : (ns : List ℕ) (slot : ℕ) → AreRising ns → IsPartitionedBy (λ n. ltb (slot_of n) slot) ns
parted_where_rising ns slot up = IsPartitionedBy-ltb slot_of ns slot (IsNonDecreasingBy-from_default slot_of ns 0 (λ i j le within. elim (cases_lt i j) [
  | inl before ↦ omega (arith, slots_rise ns up i j 0 before within)
  | inr same ↦ let e : i ≡ j = omega arith in omega (arith, ap (λ k. slot_of (slice_index ns k)) e)
]))
