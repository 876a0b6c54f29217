-- Worked examples: hashes, load factors and slot counts.
use Rattle.std.proofs.Common.{◌≡◌, ◌^◌, ◌-◌, refl, [], ◌∷◌, Some, None, map, option_map, lit≤, arith}
use Rattle.odht_base.specs.Hashes.{fx, un}
use Rattle.odht_base.specs.Image.{image_len}
use Rattle.odht_base.specs.Load.{slots_for, max_items, factor_of, percent_of, IsPercent, IsLeastSlots}
use Rattle.odht_base.specs.Numbers.{le_bytes}
use Rattle.odht_base.proofs.lemmas.Least.{slots_for-IsLeastSlots}
use Rattle.odht_base.proofs.examples.Configs.{my_config, test_config}
use Rattle.odht_base.proofs.examples.Opened.{opened}

pub fx_values : (fx [] ≡ 0)
    × (fx (1 ∷ []) ≡ 0x27220a95)
    × (fx (1 ∷ 0 ∷ []) ≡ 0x27220a95)
    × (fx (1 ∷ 0 ∷ 0 ∷ 0 ∷ []) ≡ 0x27220a95)
    × (fx (1 ∷ 0 ∷ 0 ∷ []) ≡ 0x47d3c0f2)
    × (fx (1 ∷ 0 ∷ 0 ∷ 0 ∷ 0 ∷ 0 ∷ 0 ∷ 0 ∷ 1 ∷ []) ≡ 0x6ef5cb87)
    × (fx (le_bytes 8 1) ≡ 0x27220a95)
    × (fx (le_bytes 8 3) ≡ 0x75661fbf)
    × (fx (le_bytes 8 5) ≡ 0xc3aa34e9)
unfolding opened
fx_values = (refl, refl, refl, refl, refl, refl, refl, refl, refl)

pub un_value : un (1 ∷ 2 ∷ 3 ∷ 4 ∷ 5 ∷ []) ≡ 0x05040302
unfolding opened
un_value = refl

pub factors : (map factor_of (0 ∷ 1 ∷ 6 ∷ 50 ∷ 87 ∷ 95 ∷ 100 ∷ []) ≡ 0 ∷ 655 ∷ 3932 ∷ 32767 ∷ 57015 ∷ 62258 ∷ 65535 ∷ [])
    × (le_bytes 2 (factor_of 87) ≡ 0xb7 ∷ 0xde ∷ [])
    × (le_bytes 2 (factor_of 95) ≡ 0x32 ∷ 0xf3 ∷ [])
    × (le_bytes 2 (factor_of 100) ≡ 0xff ∷ 0xff ∷ [])
    × (le_bytes 2 (factor_of 1) ≡ 0x8f ∷ 0x02 ∷ [])
factors = (refl, refl, refl, refl, refl)

-- the percentage rounds down a second time
pub percentages : (percent_of (factor_of 87) ≡ 86) × (percent_of (factor_of 6) ≡ 5) × (percent_of (factor_of 100) ≡ 100)
percentages = (refl, refl, refl)

-- tables can be made at 1 and at 100 percent
pub percents : IsPercent 1 × IsPercent 100
percents = ((lit≤ tt, lit≤ tt), (lit≤ tt, lit≤ tt))

-- at 0 none can
pub zero_percent_refused : IsPercent 0 → ⊥
zero_percent_refused h = omega (arith, h.0)

-- and at 101 none
pub high_percent_refused : IsPercent 101 → ⊥
high_percent_refused h = omega (arith, h.1)

pub maxima : (max_items 12345 (factor_of 100) ≡ 12344)
    × (max_items 12345 (factor_of 0) ≡ 0)
    × (max_items 66 (factor_of 50) ≡ 32)
    × (max_items (2 ^ 64 - 1) (factor_of 100) ≡ 18446462598732840959)
    × (max_items 10 (factor_of 100) ≡ 9)
    × (map (λ s. max_items s (factor_of 50)) (10 ∷ 11 ∷ 12 ∷ []) ≡ 4 ∷ 5 ∷ 5 ∷ [])
    × (map (λ s. max_items s (factor_of 87)) (16 ∷ 32 ∷ 64 ∷ []) ≡ 13 ∷ 27 ∷ 55 ∷ [])
maxima = (refl, refl, refl, refl, refl, refl, refl)

-- sixteen items at 100 percent need 32 slots, since one stays free
pub slot_counts_for : (slots_for 16 (factor_of 100) ≡ Some 32)
    × (slots_for 1000 (factor_of 100) ≡ Some 1024)
    × (slots_for 0 (factor_of 100) ≡ Some 16)
    × (slots_for 6 (factor_of 60) ≡ Some 16)
    × (slots_for 5 (factor_of 50) ≡ Some 16)
    × (slots_for 5 (factor_of 49) ≡ Some 16)
    × (slots_for (2 ^ 62) (factor_of 100) ≡ Some (2 ^ 63))
    × (slots_for (2 ^ 63) (factor_of 100) ≡ None)
unfolding opened
slot_counts_for = (refl, refl, refl, refl, refl, refl, refl, refl)

-- at few percent sixteen slots hold no item
pub few_percent : (slots_for 0 (factor_of 6) ≡ Some 16)
    × (max_items 16 (factor_of 6) ≡ 0)
    × (slots_for 1 (factor_of 6) ≡ Some 32)
    × (max_items 32 (factor_of 6) ≡ 1)
    × (slots_for 1 (factor_of 1) ≡ Some 128)
unfolding opened
few_percent = (refl, refl, refl, refl, refl)

pub byte_counts : (option_map (image_len my_config) (slots_for 3 (factor_of 95)) ≡ Some 256)
    × (option_map (image_len test_config) (slots_for 0 (factor_of 87)) ≡ Some 192)
    × (option_map (image_len my_config) (slots_for (2 ^ 59) (factor_of 100)) ≡ Some 14987979559889010736)
    × (image_len my_config (2 ^ 63) ≡ 119903836479112085552)
    × (image_len test_config (2 ^ 63) ≡ 83010348331692982320)
unfolding opened
byte_counts = (refl, refl, refl, refl, refl)

-- thirteen items at 87 percent need sixteen slots, not 32, not none, and fourteen do not fit
pub least_slots : IsLeastSlots 13 57015 16
unfolding opened
least_slots = slots_for-IsLeastSlots 13 57015 16 refl

pub other_slots_refused : (IsLeastSlots 13 57015 32 → ⊥) × (IsLeastSlots 0 57015 0 → ⊥) × (IsLeastSlots 14 57015 16 → ⊥)
unfolding opened
other_slots_refused = (
  λ h. let least = h.least 16 (record { power = refl; least = lit≤ tt }) (lit≤ tt) in omega (arith, least),
  λ h. let low = h.is_count.least in omega (arith, low),
  λ h. let fits = h.holds in omega (arith, fits),
)
