-- Worked examples: what lookups of many keys answer, here of one key, into the arrays 9 ∷ [] and 3 ∷ [].
use Rattle.std.proofs.Common.{ℕ, refl, [], ◌∷◌, Option, Some, None, IfSome}
use Rattle.odht_base.proofs.lemmas.Options.{some_same}
use Rattle.odht_header.specs.Coding.{HasStored}
use Rattle.odht_header.specs.declared.error.Error.TheVariants.{TooShort}
use Rattle.odht_header.proofs.examples.Opened.{opened}
use Rattle.odht_calls.specs.Reads.{IsGotAt, GetAllAnswers}
use Rattle.odht_header.proofs.examples.Apart.{unequal, unequal_lists}
use Rattle.odht_calls.proofs.examples.Tables.{direct_coding, one_item, one_bytes, miscounted, one_image, accepted_bytes, not_stored}

-- ---- lengths
-- arrays of two lengths are not answered with ODHT_OK
pub lengths_status_refused : GetAllAnswers direct_coding one_bytes (5 ∷ []) [] (3 ∷ []) 0 [] (3 ∷ []) → ⊥
lengths_status_refused h = unequal 0 35 refl (h.lengths (λ long. unequal 0 1 refl long.0)).0

-- and neither the values nor what was found change
pub lengths_written_refused : (GetAllAnswers direct_coding one_bytes (5 ∷ []) [] (3 ∷ []) 35 (7 ∷ []) (3 ∷ []) → ⊥)
    × (GetAllAnswers direct_coding one_bytes (5 ∷ []) (9 ∷ []) [] 35 (9 ∷ []) (1 ∷ []) → ⊥)
lengths_written_refused = (
  λ h. unequal_lists (7 ∷ []) [] refl (h.lengths (λ long. unequal 0 1 refl long.0)).1,
  λ h. unequal_lists (1 ∷ []) [] refl (h.lengths (λ long. unequal 0 1 refl long.1)).2,
)

-- ---- refused
-- an error is not answered with another status
pub refusal_all_status_refused : GetAllAnswers direct_coding [] (5 ∷ []) (9 ∷ []) (3 ∷ []) 2 (9 ∷ []) (3 ∷ []) → ⊥
unfolding opened
refusal_all_status_refused h = unequal 2 1 refl (h.refused (TooShort 0) (refl, refl) refl).0

-- and nothing is written
pub refusal_all_written_refused : (GetAllAnswers direct_coding [] (5 ∷ []) (9 ∷ []) (3 ∷ []) 1 (7 ∷ []) (3 ∷ []) → ⊥)
    × (GetAllAnswers direct_coding [] (5 ∷ []) (9 ∷ []) (3 ∷ []) 1 (9 ∷ []) (1 ∷ []) → ⊥)
unfolding opened
refusal_all_written_refused = (
  λ h. unequal_lists (7 ∷ []) (9 ∷ []) refl (h.refused (TooShort 0) (refl, refl) refl).1,
  λ h. unequal_lists (1 ∷ []) (3 ∷ []) refl (h.refused (TooShort 0) (refl, refl) refl).2,
)

-- ---- accepted
-- accepted bytes are answered with ODHT_OK, also where the one key is found
pub accepted_status_refused : GetAllAnswers direct_coding one_bytes (5 ∷ []) (9 ∷ []) (3 ∷ []) 32 (7 ∷ []) (1 ∷ []) → ⊥
accepted_status_refused h = unequal 32 0 refl (h.accepted (refl, refl) accepted_bytes.1)

-- ---- on_valid
-- a present key of a valid table is not reported as absent
pub present_missed_all_refused : GetAllAnswers direct_coding one_bytes (5 ∷ []) (9 ∷ []) (3 ∷ []) 0 (9 ∷ []) (0 ∷ [])
    → ⊥
unfolding opened
present_missed_all_refused h = unequal 0 1 refl (some_same 0 1 (h.on_valid one_item 0 5 (refl, refl) one_image refl).0)

-- and its value is written
pub present_unwritten_all_refused : GetAllAnswers direct_coding one_bytes (5 ∷ []) (9 ∷ []) (3 ∷ []) 0 (9 ∷ []) (1 ∷ [])
    → ⊥
unfolding opened
present_unwritten_all_refused h =
    unequal 9 7 refl (some_same 9 7 (h.on_valid one_item 0 5 (refl, refl) one_image refl).1)

-- ---- on_any
-- each element of what was found is 0 or 1, also of bytes that are accepted and not valid
pub third_found_refused : GetAllAnswers direct_coding miscounted (6 ∷ []) (9 ∷ []) (3 ∷ []) 0 (9 ∷ []) (2 ∷ []) → ⊥
third_found_refused h = go (h.on_any 0 6 (refl, refl) accepted_bytes.2 refl)
  where
    go : (o : Option ℕ) × IsGotAt o (Some 9) (Some 2) (Some 9) × IfSome o (HasStored direct_coding miscounted 6) → ⊥
    go (None, answer, stored) = unequal 2 0 refl (some_same 2 0 answer.0)
    go (Some v, answer, stored) = unequal 2 1 refl (some_same 2 1 answer.0)

-- and no value is found that none of their slots has
pub not_stored_all_refused : GetAllAnswers direct_coding miscounted (6 ∷ []) (9 ∷ []) (3 ∷ []) 0 (7 ∷ []) (1 ∷ []) → ⊥
not_stored_all_refused h = go (h.on_any 0 6 (refl, refl) accepted_bytes.2 refl)
  where
    go : (o : Option ℕ) × IsGotAt o (Some 9) (Some 1) (Some 7) × IfSome o (HasStored direct_coding miscounted 6) → ⊥
    go (None, answer, stored) = unequal 1 0 refl (some_same 1 0 answer.0)
    go (Some v, answer, stored) = not_stored v stored
