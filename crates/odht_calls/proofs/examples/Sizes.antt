-- Worked examples: what a call for the numbers of a header answers, here of a table of 16 slots at 7 percent, which
-- takes one item. 7 percent are 4587 of 65536, which are 6 percent, rounded down.
use Rattle.std.proofs.Common.{refl, []}
use Rattle.odht_header.specs.declared.error.Error.TheVariants.{TooShort}
use Rattle.odht_header.proofs.examples.Apart.{unequal}
use Rattle.odht_header.proofs.examples.Opened.{opened}
use Rattle.odht_calls.specs.Reads.{SizesAnswers}
use Rattle.odht_calls.proofs.examples.Tables.{direct_coding, one_item, one_bytes, miscounted, one_image, accepted_bytes}

-- an error is not answered with ODHT_OK
pub sizes_status_refused : SizesAnswers direct_coding.format [] 9 9 9 0 9 9 9 → ⊥
unfolding opened
sizes_status_refused h = unequal 0 1 refl h.status

-- and writes no slot count
pub sizes_slots_written_refused : SizesAnswers direct_coding.format [] 9 9 9 1 0 9 9 → ⊥
unfolding opened
sizes_slots_written_refused h = unequal 0 9 refl (h.refused (TooShort 0) refl).0

-- no maximum, and no percentage
pub sizes_written_refused : (SizesAnswers direct_coding.format [] 9 9 9 1 9 0 9 → ⊥) × (SizesAnswers direct_coding.format [] 9 9 9 1 9 9 0 → ⊥)
unfolding opened
sizes_written_refused = (λ h. unequal 0 9 refl (h.refused (TooShort 0) refl).1, λ h. unequal 0 9 refl (h.refused (TooShort 0) refl).2)

-- of bytes that are accepted and not valid, they are those in the header
pub sizes_unstated_refused : (SizesAnswers direct_coding.format miscounted 9 9 9 0 9 1 6 → ⊥)
    × (SizesAnswers direct_coding.format miscounted 9 9 9 0 16 9 6 → ⊥)
    × (SizesAnswers direct_coding.format miscounted 9 9 9 0 16 1 7 → ⊥)
unfolding opened
sizes_unstated_refused =
    (λ h. unequal 9 16 refl (h.by_header accepted_bytes.2).0, λ h. unequal 9 1 refl (h.by_header accepted_bytes.2).1, λ h. unequal 7 6 refl (h.by_header accepted_bytes.2).2)

-- and of a valid table they are its own
pub sizes_others_refused : (SizesAnswers direct_coding.format one_bytes 9 9 9 0 9 1 6 → ⊥)
    × (SizesAnswers direct_coding.format one_bytes 9 9 9 0 16 9 6 → ⊥)
    × (SizesAnswers direct_coding.format one_bytes 9 9 9 0 16 1 7 → ⊥)
unfolding opened
sizes_others_refused =
    (λ h. unequal 9 16 refl (h.on_valid one_item one_image).0, λ h. unequal 9 1 refl (h.on_valid one_item one_image).1, λ h. unequal 7 6 refl (h.on_valid one_item one_image).2)
