-- Worked examples: forged headers and cut bytes.
use Rattle.std.proofs.Common.{◌≡◌, ◌^◌, ◌-◌, ℕ, refl, List, [], ◌∷◌, Option, Some, None, option_map, map, take}
use Rattle.std.specs.List.{range_with_len}
use Rattle.odht_base.specs.Numbers.{le_bytes}
use Rattle.odht_base.specs.Bytes.{overwritten_at}
use Rattle.odht_base.specs.Load.{factor_of}
use Rattle.odht_base.specs.Format.{Format}
use Rattle.odht_base.specs.Hashes.{fx}
use Rattle.odht_base.specs.Table.{empty}
use Rattle.odht_base.specs.Image.{image}
use Rattle.odht_base.proofs.examples.Configs.{my_config, test_config, direct_config, pair32, view_of}
use Rattle.odht_header.proofs.examples.Opened.{opened}
use Rattle.odht_header.specs.Refusals.{view_refusal}
use Rattle.odht_header.specs.declared.error.Error.{Error}
use Rattle.odht_header.specs.declared.error.Error.TheVariants.{TooShort, WrongTag, WrongVersion, WrongSizeOf, SlotCountNotPowerOfTwo, SlotCountTooSmall, WrongLength, NonZeroEmpty, ControlMismatch}
use Rattle.odht_header.specs.declared.error.Part.TheVariants.{EntryMetadata, EncodedKey, EncodedValue, Header}

-- the bytes of a fresh table of sixteen slots at p percent
abbrev pub fresh_bytes : Format → ℕ → List ℕ
fresh_bytes F p = image F (empty 16 (factor_of p))

-- 192 bytes of u32 to u32
abbrev pub test_bytes : List ℕ
test_bytes = fresh_bytes test_config 87

-- what a view answers with the bytes d from `at` on
abbrev forged : ℕ → List ℕ → Option Error
forged at d = view_refusal test_config (overwritten_at test_bytes at d)

-- the unchanged bytes are accepted, and a view of another key length rejects them
pub unforged : (view_refusal test_config test_bytes ≡ None) × (view_refusal my_config test_bytes ≡ Some (WrongSizeOf EncodedKey 8 4))
unfolding opened
unforged = (refl, refl)

-- the tag comes before the version, and the version before the sizes
pub forged_tag : (view_refusal test_config (overwritten_at (overwritten_at test_bytes 0 (0 ∷ [])) 27 (0 ∷ [])) ≡ Some (WrongTag (0 ∷ 68 ∷ 72 ∷ 84 ∷ [])))
    × (forged 27 (1 ∷ []) ≡ Some (WrongVersion (0 ∷ 0 ∷ 0 ∷ 1 ∷ [])))
    × (view_refusal test_config (overwritten_at (overwritten_at test_bytes 4 (9 ∷ [])) 27 (9 ∷ [])) ≡ Some (WrongVersion (0 ∷ 0 ∷ 0 ∷ 9 ∷ [])))
unfolding opened
forged_tag = (refl, refl, refl)

pub forged_sizes : (forged 4 (2 ∷ []) ≡ Some (WrongSizeOf EntryMetadata 1 2))
    × (forged 6 (0 ∷ []) ≡ Some (WrongSizeOf EncodedValue 4 0))
    × (forged 7 (31 ∷ []) ≡ Some (WrongSizeOf Header 32 31))
unfolding opened
forged_sizes = (refl, refl, refl)

-- the slot count is tested before the length
pub forged_slot_counts : (forged 16 (le_bytes 8 0) ≡ Some (SlotCountNotPowerOfTwo 0))
    × (forged 16 (le_bytes 8 24) ≡ Some (SlotCountNotPowerOfTwo 24))
    × (forged 16 (le_bytes 8 (2 ^ 64 - 1)) ≡ Some (SlotCountNotPowerOfTwo (2 ^ 64 - 1)))
    × (forged 16 (le_bytes 8 8) ≡ Some (SlotCountTooSmall 8))
    × (forged 16 (le_bytes 8 32) ≡ Some (WrongLength 32 192 336))
    × (forged 16 (le_bytes 8 (2 ^ 63)) ≡ Some (WrongLength (2 ^ 63) 192 83010348331692982320))
unfolding opened
forged_slot_counts = (refl, refl, refl, refl, refl, refl)

-- 256 bytes of u64 to u32 whose header says 2 ^ 63 slots
pub forged_length : view_refusal my_config (overwritten_at (fresh_bytes my_config 95) 16 (le_bytes 8 (2 ^ 63))) ≡ Some (WrongLength (2 ^ 63) 256 119903836479112085552)
unfolding opened
forged_length = refl

-- a length that 64 bits would wrap to 48
abbrev tiny_config : Format
tiny_config = record { key_len = 1; value_len = 0; hash = fx }

pub forged_wrap : view_refusal tiny_config (overwritten_at (take 48 (fresh_bytes tiny_config 87)) 16 (le_bytes 8 (2 ^ 63))) ≡ Some (WrongLength (2 ^ 63) 48 18446744073709551664)
unfolding opened
forged_wrap = refl

-- every cut
pub cuts : (map (λ n. view_refusal test_config (take n test_bytes)) (range_with_len 0 32) ≡ map (λ n. Some (TooShort n)) (range_with_len 0 32))
    × (map (λ n. view_refusal test_config (take n test_bytes)) (range_with_len 32 160) ≡ map (λ n. Some (WrongLength 16 n 192)) (range_with_len 32 160))
unfolding opened
cuts = (refl, refl)

-- a free slot that is not zero
pub occupied_free_slot : forged 32 (7 ∷ []) ≡ Some (NonZeroEmpty 0)
unfolding opened
occupied_free_slot = refl

-- a table of one insert, opened with the other hash
pub other_hash : option_map (λ P. view_refusal direct_config (image test_config P)) (view_of test_config 0 87 (pair32 1 2 ∷ [])) ≡ Some (Some (ControlMismatch 5 0 19))
unfolding opened
other_hash = refl
