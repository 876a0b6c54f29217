-- Worked examples: probe orders, and where searches end.
use Rattle.std.proofs.Common.{◌≡◌, ◌++◌, ◌*◌, ℕ, refl, [], ◌∷◌, Option, Some, None, option_map, option_and_then, map, replicate}
use Rattle.std.specs.List.{range_with_len}
use Rattle.odht_base.specs.Groups.{equal, first_free}
use Rattle.odht_base.specs.Map.{map_of}
use Rattle.odht_base.specs.Numbers.{le_bytes}
use Rattle.odht_base.specs.Probe.{order}
use Rattle.odht_base.specs.Search.{search_end, groups_read}
use Rattle.odht_base.specs.Table.{Table}
use Rattle.odht_base.proofs.examples.Configs.{direct_config, pair32, view_of}
use Rattle.odht_base.proofs.examples.Opened.{opened}

pub probe_orders : (order 0 64 ≡ range_with_len 0 32 ++ range_with_len 48 16 ++ range_with_len 32 16)
    × (order 40 64 ≡ range_with_len 40 24 ++ range_with_len 0 8 ++ range_with_len 24 16 ++ range_with_len 8 16)
    × (order 15 16 ≡ 15 ∷ range_with_len 0 15)
unfolding opened
probe_orders = (refl, refl, refl)

-- the first n of the keys 0, 64, 128, .., which all have home 0 in 64 slots
abbrev keys_of_one_home : ℕ → Option Table
keys_of_one_home n = view_of direct_config 40 87 (map (λ i. pair32 (64 * i) i) (range_with_len 0 n))

-- the last of 33 is in slot 48, the first slot of the third group, and each is found
pub one_home : (option_and_then (λ (P : Table). search_end direct_config P.cells (le_bytes 4 2048)) (keys_of_one_home 33) ≡ Some 48)
    × (option_map (λ (P : Table). groups_read direct_config P.cells (le_bytes 4 2048)) (keys_of_one_home 33) ≡ Some 3)
    × (option_map (λ P. map (λ i. map_of P (le_bytes 4 (64 * i))) (range_with_len 0 33)) (keys_of_one_home 33) ≡ Some (map (λ i. Some (le_bytes 4 i)) (range_with_len 0 33)))
unfolding opened
one_home = (refl, refl, refl)

-- an absent key behind a full first group
pub absent_key : (option_map (λ (P : Table). groups_read direct_config P.cells (le_bytes 4 4096)) (keys_of_one_home 16) ≡ Some 2)
    × (option_map (λ (P : Table). map_of P (le_bytes 4 4096)) (keys_of_one_home 16) ≡ Some None)
unfolding opened
absent_key = (refl, refl)

-- a search in a fresh table ends after one group
pub fresh_key : option_map (λ (P : Table). groups_read direct_config P.cells (le_bytes 4 5)) (view_of direct_config 40 87 []) ≡ Some 1
unfolding opened
fresh_key = refl

-- a key behind two others of its home with tags that differ in their lowest bit
pub behind_two_tags : (option_map (λ (P : Table). search_end direct_config P.cells (le_bytes 4 100663312)) (view_of direct_config 0 87 (pair32 100663296 1 ∷ pair32 67108864 2 ∷ [])) ≡ Some (Some 2))
    × (option_map (λ (P : Table). map_of P (le_bytes 4 100663312)) (view_of direct_config 0 87 (pair32 100663296 1 ∷ pair32 67108864 2 ∷ [])) ≡ Some None)
unfolding opened
behind_two_tags = (refl, refl)

-- their group of control bytes
pub group_of_two_tags : (equal (3 ∷ 2 ∷ replicate 14 255) 3 ≡ 0 ∷ []) × (first_free (3 ∷ 2 ∷ replicate 14 255) ≡ Some 2)
group_of_two_tags = (refl, refl)
