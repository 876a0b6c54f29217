-- Worked examples: tables of a few inserts, and their bytes.
use Rattle.std.proofs.Common.{◌≡◌, ◌++◌, ℕ, refl, List, [], ◌∷◌, Option, Some, option_map, map, length, replicate, slice_range, slice_index}
use Rattle.odht_base.specs.Format.{Format, home, tag}
use Rattle.odht_base.specs.Hashes.{fx, un}
use Rattle.odht_base.specs.Image.{image}
use Rattle.odht_base.specs.Map.{map_of, last}
use Rattle.odht_base.specs.Numbers.{le_bytes}
use Rattle.odht_base.specs.Table.{Pair, Table, walk, count, fresh}
use Rattle.odht_base.proofs.examples.Configs.{my_config, test_config, direct_config, pair64, pair32, view_of, owned_of}
use Rattle.odht_base.proofs.examples.Opened.{opened}

-- a fresh table: 192 bytes, of which the slots' are zeros and 255s
pub fresh_bytes : option_map (image test_config) (fresh 0 87)
    ≡ Some (79 ∷ 68 ∷ 72 ∷ 84 ∷ 1 ∷ 4 ∷ 4 ∷ 32 ∷ replicate 8 0 ++ 16 ∷ replicate 7 0 ++ 0 ∷ 0 ∷ 0 ∷ 2 ∷ 0xb7 ∷ 0xde ∷ 0 ∷ 0 ∷ replicate 128 0 ++ replicate 32 255)
unfolding opened
fresh_bytes = refl

-- 1 to 2, from u32 to u32: home 5
abbrev one : Option Table
one = view_of test_config 0 87 (pair32 1 2 ∷ [])

pub one_insert : (home test_config (le_bytes 4 1) 16 ≡ 5)
    × (option_map (λ P. slice_range (image test_config P) 72 80) one ≡ Some (1 ∷ 0 ∷ 0 ∷ 0 ∷ 2 ∷ 0 ∷ 0 ∷ 0 ∷ []))
    × (option_map (λ P. slice_index (image test_config P) 165) one ≡ Some 0x13)
    × (option_map (λ P. slice_index (image test_config P) 181) one ≡ Some 0x13)
unfolding opened
one_insert = (refl, refl, refl, refl)

-- 15 and 31 both have home 15 in 16 slots, so the second wraps to slot 0
abbrev pub wrapped : Option Table
wrapped = view_of direct_config 0 87 (pair32 15 15 ∷ pair32 31 31 ∷ [])

pub wrapped_insert : (option_map (λ P. slice_range (image direct_config P) 32 40) wrapped ≡ Some (31 ∷ 0 ∷ 0 ∷ 0 ∷ 31 ∷ 0 ∷ 0 ∷ 0 ∷ []))
    × (option_map (λ P. map (slice_index (image direct_config P)) (160 ∷ 175 ∷ 176 ∷ 191 ∷ [])) wrapped ≡ Some (0 ∷ 0 ∷ 0 ∷ 0 ∷ []))
    × (option_map (λ P. map (slice_index (image direct_config P)) (161 ∷ 174 ∷ 177 ∷ 190 ∷ [])) wrapped ≡ Some (255 ∷ 255 ∷ 255 ∷ 255 ∷ []))
unfolding opened
wrapped_insert = (refl, refl, refl)

-- keys and values of no bytes: the second insert overwrites the first
abbrev unit_config : Format
unit_config = record { key_len = 0; value_len = 0; hash = fx }

abbrev nothing : Pair
nothing = record { key = []; value = [] }

pub empty_keys : (option_map (λ P. length (image unit_config P)) (view_of unit_config 0 87 (nothing ∷ [])) ≡ Some 64)
    × (option_map (λ P. map (slice_index (image unit_config P)) (32 ∷ 48 ∷ 33 ∷ 49 ∷ [])) (view_of unit_config 0 87 (nothing ∷ [])) ≡ Some (0 ∷ 0 ∷ 255 ∷ 255 ∷ []))
    × (option_map count (view_of unit_config 0 87 (nothing ∷ nothing ∷ [])) ≡ Some 1)
    × (option_map (λ P. map_of P []) (view_of unit_config 0 87 (nothing ∷ [])) ≡ Some (Some []))
unfolding opened
empty_keys = (refl, refl, refl, refl)

-- 1 to 2, 3 to 4 and 5 to 6, from u64 to u32, for three items at 95 percent
abbrev pub three_pairs : List Pair
three_pairs = pair64 1 2 ∷ pair64 3 4 ∷ pair64 5 6 ∷ []

abbrev three_controls : List ℕ
three_controls = 255 ∷ 255 ∷ 255 ∷ 255 ∷ 255 ∷ 0x13 ∷ 255 ∷ 255 ∷ 255 ∷ 0x61 ∷ 255 ∷ 255 ∷ 255 ∷ 255 ∷ 255 ∷ 0x3a ∷ []

abbrev pub three_bytes : List ℕ
three_bytes =
    0x4f ∷ 0x44 ∷ 0x48 ∷ 0x54 ∷ 0x01 ∷ 0x08 ∷ 0x04 ∷ 0x20 ∷ 3 ∷ 0 ∷ 0 ∷ 0 ∷ 0 ∷ 0 ∷ 0 ∷ 0 ∷ 0x10 ∷ 0 ∷ 0 ∷ 0 ∷ 0 ∷ 0 ∷ 0 ∷ 0 ∷ 0 ∷ 0 ∷ 0 ∷ 2 ∷ 0x32 ∷ 0xf3 ∷ 0 ∷ 0
    ∷ replicate 60 0 ++ 1 ∷ 0 ∷ 0 ∷ 0 ∷ 0 ∷ 0 ∷ 0 ∷ 0 ∷ 2 ∷ 0 ∷ 0 ∷ 0
    ∷ replicate 36 0 ++ 5 ∷ 0 ∷ 0 ∷ 0 ∷ 0 ∷ 0 ∷ 0 ∷ 0 ∷ 6 ∷ 0 ∷ 0 ∷ 0
    ∷ replicate 60 0 ++ 3 ∷ 0 ∷ 0 ∷ 0 ∷ 0 ∷ 0 ∷ 0 ∷ 0 ∷ 4 ∷ 0 ∷ 0 ∷ 0
    ∷ three_controls ++ three_controls

pub three_inserts : (option_map (image my_config) (owned_of my_config 3 95 three_pairs) ≡ Some three_bytes)
    × (option_map (image my_config) (view_of my_config 3 95 three_pairs) ≡ Some three_bytes)
    × (length three_bytes ≡ 256)
unfolding opened
three_inserts = (refl, refl, refl)

-- the walk is in slot order: slots 5, 9 and 15
pub three_walk : (option_map walk (view_of my_config 3 95 three_pairs) ≡ Some (pair64 1 2 ∷ pair64 5 6 ∷ pair64 3 4 ∷ []))
    × (map (λ k. home my_config (le_bytes 8 k) 16) (1 ∷ 5 ∷ 3 ∷ []) ≡ 5 ∷ 9 ∷ 15 ∷ [])
    × (map (λ k. tag my_config (le_bytes 8 k)) (1 ∷ 5 ∷ 3 ∷ []) ≡ 0x13 ∷ 0x61 ∷ 0x3a ∷ [])
unfolding opened
three_walk = (refl, refl, refl)

-- keys of sixteen bytes that begin with zeros and are their own hashes
abbrev path_config : Format
path_config = record { key_len = 16; value_len = 4; hash = un }

abbrev path : ℕ → List ℕ
path first = first ∷ replicate 11 0 ++ 5 ∷ 0 ∷ 0 ∷ 0 ∷ []

abbrev path_pairs : List Pair
path_pairs = record { key = path 0; value = le_bytes 4 1 } ∷ record { key = path 1; value = le_bytes 4 2 } ∷ record { key = path 0; value = le_bytes 4 3 } ∷ []

pub path_index : (option_map (λ P. length (image path_config P)) (owned_of path_config 3 87 path_pairs) ≡ Some 384)
    × (option_map (λ P. slice_range (image path_config P) 148 152) (owned_of path_config 3 87 path_pairs) ≡ Some (3 ∷ 0 ∷ 0 ∷ 0 ∷ []))
    × (option_map (λ P. slice_range (image path_config P) 152 168) (owned_of path_config 3 87 path_pairs) ≡ Some (path 1))
    × (option_map (λ P. map (slice_index (image path_config P)) (357 ∷ 358 ∷ 373 ∷ 374 ∷ [])) (owned_of path_config 3 87 path_pairs) ≡ Some (0 ∷ 0 ∷ 0 ∷ 0 ∷ []))
    × (option_map (λ P. map_of P (path 0)) (owned_of path_config 3 87 path_pairs) ≡ Some (last path_pairs (path 0)))
    × (last path_pairs (path 0) ≡ Some (le_bytes 4 3))
    × (option_map count (owned_of path_config 3 87 path_pairs) ≡ Some 2)
unfolding opened
path_index = (refl, refl, refl, refl, refl, refl, refl)
