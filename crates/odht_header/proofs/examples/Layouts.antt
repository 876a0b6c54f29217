-- Worked examples: how large a new table is, and which keys bytes hold.
use Rattle.std.proofs.Common.{refl, lit<, lit≤, arith}
use Rattle.odht_base.specs.Numbers.{le_bytes}
use Rattle.odht_base.specs.Decoded.{key_at, HoldsKey}
use Rattle.odht_base.proofs.examples.Configs.{test_config, direct_config}
use Rattle.odht_base.proofs.examples.Numbers.{least_slots}
use Rattle.odht_header.specs.Layouts.{IsLayout}
use Rattle.odht_header.specs.Refusals.{lists_differ}
use Rattle.odht_header.proofs.examples.Apart.{unequal_lists, tested}
use Rattle.odht_header.proofs.examples.Invalid.{all_occupied}
use Rattle.odht_header.proofs.examples.Opened.{opened}

-- thirteen items at 87 percent: sixteen slots, 192 bytes
pub layout : IsLayout test_config 13 57015 16 192
unfolding opened
layout = record { slots = refl; least = least_slots; long = refl; fits = lit< tt }

-- no other slots and no other length
pub other_layouts_refused : (IsLayout test_config 13 57015 32 336 → ⊥) × (IsLayout test_config 13 57015 16 193 → ⊥)
unfolding opened
other_layouts_refused = (
  λ h. let least = h.least.least 16 least_slots.is_count (lit≤ tt) in omega (arith, least),
  λ h. let long = h.long in omega (arith, long),
)

-- bytes hold the key of an entry, whatever its control byte
pub held : HoldsKey direct_config (all_occupied 0) (le_bytes 4 3)
unfolding opened
held = (3, lit< tt, refl)

-- and none that is in no entry
pub absent_refused : HoldsKey direct_config (all_occupied 0) (le_bytes 4 99) → ⊥
unfolding opened
absent_refused (i, low, same) =
    unequal_lists (key_at direct_config (all_occupied 0) i) (le_bytes 4 99)
    (tested (λ j. lists_differ (key_at direct_config (all_occupied 0) j) (le_bytes 4 99)) 16 i refl low) same
