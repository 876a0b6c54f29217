-- Worked examples: bytes that a view accepts and the whole check rejects.
use Rattle.std.proofs.Common.{◌≡◌, ℕ, refl, List, [], ◌∷◌, Option, Some, None, option_map, map, if◌then◌else◌}
use Rattle.std.specs.List.{range_with_len, list_any}
use Rattle.std.specs.Prelude.{◌==◌}
use Rattle.odht_base.specs.Numbers.{le_bytes}
use Rattle.odht_base.specs.Bytes.{overwritten_at}
use Rattle.odht_base.specs.Load.{factor_of}
use Rattle.odht_base.specs.Table.{Table}
use Rattle.odht_base.specs.Image.{image}
use Rattle.odht_base.specs.Search.{groups_read}
use Rattle.odht_base.specs.Decoded.{decoded_table, decoded_pairs, header_count}
use Rattle.odht_base.proofs.examples.Configs.{my_config, test_config, direct_config, pair32, owned_of}
use Rattle.odht_base.proofs.examples.Tables.{three_pairs}
use Rattle.odht_base.proofs.examples.Unmade.{unmade}
use Rattle.odht_header.proofs.examples.Opened.{opened}
use Rattle.odht_header.proofs.examples.Refused.{test_bytes}
use Rattle.odht_header.specs.Refusals.{view_refusal, check_refusal}
use Rattle.odht_header.specs.declared.error.Error.{Error}
use Rattle.odht_header.specs.declared.error.Error.TheVariants.{TooShort, LoadFactorTooSmall, NonZeroPadding, BadFreeControl, MirrorMismatch, WrongItemCount, TooManyItems, Unreachable}

-- what a view and the whole check say
abbrev both : List ℕ → Option Error × Option Error
both B = (view_refusal test_config B, check_refusal test_config B)

pub a_fresh_table : both test_bytes ≡ (None, None)
unfolding opened
a_fresh_table = refl

-- control byte 12 and its mirror are 128
pub free_byte_128 : both (overwritten_at (overwritten_at test_bytes 172 (0x80 ∷ [])) 188 (0x80 ∷ [])) ≡ (None, Some (BadFreeControl 12 128))
unfolding opened
free_byte_128 = refl

-- a count of 5 without items
abbrev pub count_of_five : List ℕ
count_of_five = overwritten_at test_bytes 8 (5 ∷ [])

pub wrong_count : (both count_of_five ≡ (None, Some (WrongItemCount 5 0))) × (header_count count_of_five ≡ 5) × (decoded_pairs test_config count_of_five ≡ [])
unfolding opened
wrong_count = (refl, refl, refl)

-- a load factor below one percent, and none at all
pub small_factor : (both (overwritten_at test_bytes 28 (le_bytes 2 654)) ≡ (None, Some (LoadFactorTooSmall 654)))
    × (both (overwritten_at test_bytes 28 (le_bytes 2 0)) ≡ (None, Some (LoadFactorTooSmall 0)))
unfolding opened
small_factor = (refl, refl)

-- a mirror byte that differs from its slot's, and a padding
pub wrong_mirror : (both (overwritten_at test_bytes 176 (5 ∷ [])) ≡ (None, Some (MirrorMismatch 0)))
    × (decoded_pairs test_config (overwritten_at test_bytes 176 (5 ∷ [])) ≡ [])
    × (both (overwritten_at test_bytes 31 (1 ∷ [])) ≡ (None, Some (NonZeroPadding (0 ∷ 1 ∷ []))))
unfolding opened
wrong_mirror = (refl, refl, refl)

-- sixteen occupied slots of sixteen, with the count c
abbrev pub all_occupied : ℕ → List ℕ
all_occupied c = overwritten_at (image direct_config (record { factor = factor_of 87; cells = map (λ i. Some (pair32 i i)) (range_with_len 0 16) })) 8 (le_bytes 8 c)

pub no_free_slot : (view_refusal direct_config (all_occupied 13) ≡ None)
    × (check_refusal direct_config (all_occupied 13) ≡ Some (WrongItemCount 13 16))
    × (check_refusal direct_config (all_occupied 16) ≡ Some (TooManyItems 16 13))
    × (groups_read direct_config (decoded_table direct_config (all_occupied 13)).cells (le_bytes 4 99) ≡ 1)
unfolding opened
no_free_slot = (refl, refl, refl, refl)

-- the pair (5, 5) in these of sixteen slots, and nothing else
abbrev pub fives_at : List ℕ → Table
fives_at slots = record { factor = factor_of 87; cells = map (λ i. if list_any (λ j. i == j) slots then Some (pair32 5 5) else None) (range_with_len 0 16) }

-- key 5 behind its free home, and twice
pub unreachable_keys : (view_refusal direct_config (image direct_config (fives_at (6 ∷ []))) ≡ None)
    × (check_refusal direct_config (image direct_config (fives_at (6 ∷ []))) ≡ Some (Unreachable 6))
    × (view_refusal direct_config (image direct_config (fives_at (5 ∷ 6 ∷ []))) ≡ None)
    × (check_refusal direct_config (image direct_config (fives_at (5 ∷ 6 ∷ []))) ≡ Some (Unreachable 6))
unfolding opened
unreachable_keys = (refl, refl, refl, refl)

-- a valid table that no list of inserts makes is rejected by neither
pub unmade_accepted : (view_refusal direct_config (image direct_config unmade) ≡ None) × (check_refusal direct_config (image direct_config unmade) ≡ None)
unfolding opened
unmade_accepted = (refl, refl)

-- what the whole check says of the 256 bytes of three inserts with the bytes d from `at` on
abbrev changed : ℕ → List ℕ → Option (Option Error)
changed at d = option_map (λ P. check_refusal my_config (overwritten_at (image my_config P) at d)) (owned_of my_config 3 95 three_pairs)

pub changed_bytes : (changed 0 [] ≡ Some None)
    × (changed 245 (255 ∷ []) ≡ Some (Some (MirrorMismatch 5)))
    × (changed 28 (0x8e ∷ 2 ∷ 1 ∷ []) ≡ Some (Some (LoadFactorTooSmall 654)))
    × (changed 30 (1 ∷ []) ≡ Some (Some (NonZeroPadding (1 ∷ 0 ∷ []))))
    × (changed 8 (4 ∷ []) ≡ Some (Some (WrongItemCount 4 3)))
    × (check_refusal my_config [] ≡ Some (TooShort 0))
unfolding opened
changed_bytes = (refl, refl, refl, refl, refl, refl)
