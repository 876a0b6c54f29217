-- Worked examples: how long new tables are, why there is none, and what is written into their bytes. A slot of
-- number_coding takes thirteen bytes.
use Rattle.std.proofs.Common.{◌≡◌, ◌^◌, ℕ, refl, arith, replicate, get_or, [], ◌∷◌, Some, None, Err, inl, inr}
use Rattle.odht_raw.specs.Words.{factor_of, TooShort}
use Rattle.odht_base.specs.Load.{slots_for}
use Rattle.odht_base.proofs.examples.Configs.{my_config, pair64}
use Rattle.odht_base.proofs.lemmas.FreeSlots.{map_of-empty}
use Rattle.odht_base.proofs.lemmas.Least.{slots_for-IsLeastSlots}
use Rattle.odht_base.proofs.lemmas.Options.{some_same}
use Rattle.odht_header.specs.declared.error.Error.TheVariants.{Capacity, InitLength, Memory}
use Rattle.odht_header.specs.Refusals.{new_refusal}
use Rattle.odht_header.proofs.examples.Opened.{opened}
use Rattle.odht.specs.Growths.{grown_len, HasGrownLen, IsGrownLayout, IsRoomFor, IsPlacing}
use Rattle.odht.specs.NewTables.{new_len, init_refusal, IsCapacityOrMemory, FailsAsNew, FailsBy}
use Rattle.odht.proofs.examples.SmallTables.{number_coding, no_pairs, one_pair, bytes_of}

-- sixteen slots for thirteen items, 32 for fourteen, and none for 2^63
pub lengths : (new_len number_coding 13 87 ≡ Some 256) × (new_len number_coding 14 87 ≡ Some 464) × (new_len number_coding (2 ^ 63) 87 ≡ None)
unfolding opened slots_for
lengths = (refl, refl, refl)

-- that many bytes, one more, and any for 2^63 items
pub refusals : (init_refusal number_coding 13 87 (replicate 256 0) ≡ None) × (init_refusal number_coding 13 87 (replicate 257 0) ≡ Some (InitLength 257 256))
    × (init_refusal number_coding (2 ^ 63) 87 (replicate 256 0) ≡ Some Capacity)
unfolding opened slots_for new_refusal
refusals = (refl, refl, refl)

-- the empty table grows into one of sixteen slots, as for one item
pub grown_layout : IsGrownLayout my_config (bytes_of no_pairs) (Some (16, 256))
unfolding opened slots_for
grown_layout = record { slots = refl; least = slots_for-IsLeastSlots 1 (factor_of 87) 16 refl; long = refl; fits = omega arith }

pub no_layout_refused : IsGrownLayout my_config (bytes_of no_pairs) None → ⊥
unfolding opened slots_for grown_len
no_layout_refused h = absurd cc

-- so it grows into 256 bytes, and not into 255
pub grown_lengths : HasGrownLen my_config (bytes_of no_pairs) (replicate 256 0) × (HasGrownLen my_config (bytes_of no_pairs) (replicate 255 0) → ⊥)
unfolding opened slots_for grown_len
grown_lengths = (refl, λ h. omega (arith, some_same 256 255 h))

-- ---- errors
pub either_error : IsCapacityOrMemory {T = ℕ} (Err Capacity) × IsCapacityOrMemory {T = ℕ} (Err Memory)
either_error = (inl refl, inr refl)

pub no_other : IsCapacityOrMemory {T = ℕ} (Err (TooShort 1)) → ⊥
no_other (inl e) = absurd cc
no_other (inr e) = absurd cc

-- thirteen items are not too many, but there may be no memory
pub no_memory : FailsAsNew {T = ℕ} number_coding 13 (factor_of 87) (Err Memory)
unfolding opened slots_for
no_memory = record { capacity = (λ e. absurd cc, λ large. absurd (let long = large 16 refl in omega (arith, long))); memory = inr refl }

pub not_large : FailsAsNew {T = ℕ} number_coding 13 (factor_of 87) (Err Capacity) → ⊥
unfolding opened slots_for
not_large h = let long = h.capacity.0 refl 16 refl in omega (arith, long)

-- the error of a check comes, and no other; without one there is `Memory` alone
pub checked : FailsBy {T = ℕ} (Some (TooShort 1)) (Err (TooShort 1)) × FailsBy {T = ℕ} None (Err Memory)
checked = (record { refused = λ e is. cc; memory = λ none. absurd cc }, record { refused = λ e is. absurd cc; memory = λ none. refl })

pub not_checked : (FailsBy {T = ℕ} (Some (TooShort 1)) (Err Memory) → ⊥) × (FailsBy {T = ℕ} None (Err Capacity) → ⊥)
not_checked = (λ h. let is = h.refused (TooShort 1) refl in cc, λ h. let is = h.memory refl in cc)

-- ---- room for the slots, and placing
-- 256 zeros have room for sixteen slots, and 255 have not
pub zeros : IsRoomFor my_config 16 (replicate 256 0) × (IsRoomFor my_config 16 (replicate 255 0) → ⊥)
unfolding opened
zeros = (record { len = refl; zeros = refl }, λ h. let long : 255 ≡ 256 = h.len in omega (arith, long))

-- the pair 1 to 2 goes to slot 5, and not twice
pub placed : IsPlacing my_config no_pairs (pair64 1 2 ∷ []) (one_pair 2)
unfolding opened
placed = record { apart = (refl, tt); new = λ i d low. map_of-empty 16 (factor_of 87) (get_or (pair64 1 2 ∷ []) i d).key; placed = refl }

pub placed_twice : IsPlacing my_config no_pairs (pair64 1 2 ∷ pair64 1 3 ∷ []) (one_pair 3) → ⊥
unfolding opened
placed_twice h = let one = h.apart.0 in cc
