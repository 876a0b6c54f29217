-- Worked examples: what lookups answer.
use Rattle.std.proofs.Common.{ℕ, refl, [], Option, Some, None, IfSome}
use Rattle.odht_base.proofs.lemmas.Options.{some_same}
use Rattle.odht_header.specs.Coding.{HasStored}
use Rattle.odht_header.specs.declared.error.Error.TheVariants.{TooShort}
use Rattle.odht_header.proofs.examples.Opened.{opened}
use Rattle.odht_calls.specs.Reads.{IsGot, IsGotAt, GetAnswers}
use Rattle.odht_header.proofs.examples.Apart.{unequal}
use Rattle.odht_calls.proofs.examples.Tables.{direct_coding, one_item, one_bytes, miscounted, one_image, accepted_bytes, not_stored}

-- ---- IsGot
-- an absent key is not answered with ODHT_OK
pub absent_as_done_refused : IsGot {V = ℕ} None 9 0 9 → ⊥
absent_as_done_refused h = unequal 0 32 refl h.0

-- and leaves no other value
pub absent_written_refused : IsGot {V = ℕ} None 9 32 7 → ⊥
absent_written_refused h = unequal 7 9 refl h.1

-- a present key is not answered with ODHT_ABSENT
pub present_as_absent_refused : IsGot {V = ℕ} (Some 7) 9 32 7 → ⊥
present_as_absent_refused h = unequal 32 0 refl h.0

-- and does not leave the buffer unchanged
pub present_unwritten_refused : IsGot {V = ℕ} (Some 7) 9 0 9 → ⊥
present_unwritten_refused h = unequal 9 7 refl h.1

-- ---- IsGotAt
-- an absent key is not reported as found
pub absent_as_found_refused : IsGotAt {V = ℕ} None (Some 9) (Some 1) (Some 9) → ⊥
absent_as_found_refused h = unequal 1 0 refl (some_same 1 0 h.0)

-- and leaves no other value
pub absent_written_at_refused : IsGotAt {V = ℕ} None (Some 9) (Some 0) (Some 7) → ⊥
absent_written_at_refused h = unequal 7 9 refl (some_same 7 9 h.1)

-- a present key is reported as found by 1 alone
pub present_as_two_refused : IsGotAt {V = ℕ} (Some 7) (Some 9) (Some 2) (Some 7) → ⊥
present_as_two_refused h = unequal 2 1 refl (some_same 2 1 h.0)

-- and does not leave the buffer unchanged
pub present_unwritten_at_refused : IsGotAt {V = ℕ} (Some 7) (Some 9) (Some 1) (Some 9) → ⊥
present_unwritten_at_refused h = unequal 9 7 refl (some_same 9 7 h.1)

-- ---- GetAnswers
-- an error is not answered with another status
pub refusal_status_refused : GetAnswers direct_coding [] 5 9 2 9 → ⊥
unfolding opened
refusal_status_refused h = unequal 2 1 refl (h.refused (TooShort 0) refl).0

-- and writes no value
pub refusal_written_refused : GetAnswers direct_coding [] 5 9 1 7 → ⊥
unfolding opened
refusal_written_refused h = unequal 7 9 refl (h.refused (TooShort 0) refl).1

-- a present key of a valid table is not answered as an absent one
pub present_missed_refused : GetAnswers direct_coding one_bytes 5 9 32 9 → ⊥
unfolding opened
present_missed_refused h = unequal 32 0 refl (h.on_valid one_item one_image).0

-- bytes that are accepted and not valid are answered with no third status
pub third_status_refused : GetAnswers direct_coding miscounted 6 9 7 9 → ⊥
third_status_refused h = go (h.on_any accepted_bytes.2)
  where
    go : (o : Option ℕ) × IsGot o 9 7 9 × IfSome o (HasStored direct_coding miscounted 6) → ⊥
    go (None, answer, stored) = unequal 7 32 refl answer.0
    go (Some v, answer, stored) = unequal 7 0 refl answer.0

-- and with no value that none of their slots has
pub not_stored_refused : GetAnswers direct_coding miscounted 6 9 0 7 → ⊥
not_stored_refused h = go (h.on_any accepted_bytes.2)
  where
    go : (o : Option ℕ) × IsGot o 9 0 7 × IfSome o (HasStored direct_coding miscounted 6) → ⊥
    go (None, answer, stored) = unequal 0 32 refl answer.0
    go (Some v, answer, stored) = not_stored v stored
