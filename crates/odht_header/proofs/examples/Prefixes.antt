-- Worked examples: a table at the front of longer bytes, cut bytes and forged slot counts.
use Rattle.std.proofs.Common.{◌≡◌, ◌^◌, ◌-◌, ◌++◌, refl, [], ◌∷◌, Some, None, map, take}
use Rattle.std.specs.List.{range_with_len}
use Rattle.odht_base.specs.Numbers.{le_bytes}
use Rattle.odht_base.specs.Bytes.{overwritten_at}
use Rattle.odht_base.proofs.examples.Configs.{my_config, test_config}
use Rattle.odht_header.proofs.examples.Opened.{opened}
use Rattle.odht_header.proofs.examples.Refused.{test_bytes}
use Rattle.odht_header.specs.Refusals.{opening_refusal, prefix_refusal}
use Rattle.odht_header.specs.declared.error.Error.TheVariants.{TooShort, WrongTag, WrongSizeOf, SlotCountNotPowerOfTwo, WrongLength}
use Rattle.odht_header.specs.declared.error.Part.TheVariants.{EncodedKey}

-- 192 bytes of a table with three bytes behind them: opening refuses them, but not as a table and what follows
pub longer : (opening_refusal test_config (test_bytes ++ (1 ∷ 2 ∷ 3 ∷ [])) ≡ Some (WrongLength 16 195 192))
    × (prefix_refusal test_config (test_bytes ++ (1 ∷ 2 ∷ 3 ∷ [])) ≡ None)
    × (prefix_refusal test_config test_bytes ≡ None)
unfolding opened
longer = (refl, refl, refl)

-- the table does not begin a byte later, and is none of other keys
pub elsewhere : (prefix_refusal test_config (1 ∷ test_bytes) ≡ Some (WrongTag (1 ∷ 79 ∷ 68 ∷ 72 ∷ [])))
    × (prefix_refusal my_config (test_bytes ++ test_bytes) ≡ Some (WrongSizeOf EncodedKey 8 4))
unfolding opened
elsewhere = (refl, refl)

-- every cut
pub cut_fronts : (map (λ n. prefix_refusal test_config (take n test_bytes)) (range_with_len 0 32) ≡ map (λ n. Some (TooShort n)) (range_with_len 0 32))
    × (map (λ n. prefix_refusal test_config (take n test_bytes)) (range_with_len 32 160) ≡ map (λ n. Some (WrongLength 16 n 192)) (range_with_len 32 160))
unfolding opened
cut_fronts = (refl, refl)

-- slot counts that promise more bytes than there are
pub forged_fronts : (prefix_refusal test_config (overwritten_at (test_bytes ++ test_bytes) 16 (le_bytes 8 (2 ^ 63))) ≡ Some (WrongLength (2 ^ 63) 384 83010348331692982320))
    × (prefix_refusal test_config (overwritten_at test_bytes 16 (le_bytes 8 (2 ^ 64 - 1))) ≡ Some (SlotCountNotPowerOfTwo (2 ^ 64 - 1)))
    × (prefix_refusal test_config (overwritten_at (test_bytes ++ test_bytes) 16 (le_bytes 8 32)) ≡ None)
unfolding opened
forged_fronts = (refl, refl, refl)
