-- Worked examples: XXH64 with seed 0, whose values are those that `xxhsum -H64` prints.
use Rattle.std.proofs.Common.{◌≡◌, refl, [], ◌∷◌}
use Rattle.std.specs.List.{range_with_len}
use Rattle.odht_base.specs.Numbers.{le_bytes}
use Rattle.odht_base.specs.Xxh64.{xxh64, xxh64_low}
use Rattle.odht_base.proofs.examples.Opened.{opened}

-- no byte, pieces of one byte, of four and of eight
pub short_keys : (xxh64 [] ≡ 0xef46db3751d8e999)
    × (xxh64 (97 ∷ []) ≡ 0xd24ec4f1a98c6e5b)
    × (xxh64 (97 ∷ 98 ∷ 99 ∷ []) ≡ 0x44bc2cf5ad770999)
    × (xxh64 (1 ∷ 2 ∷ 3 ∷ 4 ∷ []) ≡ 0x542620e3a2a92ed1)
    × (xxh64 (1 ∷ 2 ∷ 3 ∷ 4 ∷ 5 ∷ 6 ∷ 7 ∷ []) ≡ 0xa8ae77473ca95cc9)
    × (xxh64 (le_bytes 8 1) ≡ 0x9f29cb17a2a49995)
    × (xxh64 (le_bytes 8 2) ≡ 0xeac73e4044e82db0)
    × (xxh64 (le_bytes 9 1) ≡ 0xa2443c71157cb676)
unfolding opened
short_keys = (refl, refl, refl, refl, refl, refl, refl, refl)

-- the bytes 0, 1, 2 and so on, below a stripe, one stripe, more, and all pieces behind stripes
pub long_keys : (xxh64 (range_with_len 0 16) ≡ 0x44b6ef2fb84169f7)
    × (xxh64 (range_with_len 0 31) ≡ 0xc346d2b59b4d8ee1)
    × (xxh64 (range_with_len 0 32) ≡ 0xcbf59c5116ff32b4)
    × (xxh64 (range_with_len 0 33) ≡ 0x0c535d1acafb8ead)
    × (xxh64 (range_with_len 0 64) ≡ 0xf7c67301db6713f0)
    × (xxh64 (range_with_len 0 78) ≡ 0xc6f8e34e0b8b5a32)
    × (xxh64 (range_with_len 0 255) ≡ 0x0f7d97507caad693)
unfolding opened
long_keys = (refl, refl, refl, refl, refl, refl, refl)

-- a hash is the low half
pub low_bits : (xxh64_low [] ≡ 0x51d8e999) × (xxh64_low (le_bytes 8 1) ≡ 0xa2a49995)
unfolding opened
low_bits = (refl, refl)
