-- Worked examples: what the calls answer that tell where opening or checking fails.
use Rattle.std.proofs.Common.{refl, Some, None}
use Rattle.odht_header.specs.declared.error.Error.TheVariants.{Unreachable}
use Rattle.odht_header.proofs.examples.Apart.{unequal}
use Rattle.odht_calls.specs.Places.{no_slot, PlaceAnswers}

-- an unreachable key in slot 9 is not placed in the slot before it, nor is it another error
pub slot_before_refused : PlaceAnswers (Some (Unreachable 9)) 16 8 → ⊥
slot_before_refused h = unequal 8 9 refl h.slot

pub other_status_refused : PlaceAnswers (Some (Unreachable 9)) 9 9 → ⊥
other_status_refused h = unequal 9 16 refl h.status

-- of valid bytes it is not the first slot
pub first_slot_refused : PlaceAnswers None 0 0 → ⊥
first_slot_refused h = unequal 0 no_slot refl h.slot
