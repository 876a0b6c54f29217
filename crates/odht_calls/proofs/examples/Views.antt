-- Worked examples: calls on opened tables. Views are slices at the address 640, openings are of slices at 64.
--     at640, at64      the slice of these bytes at either address
use Rattle.std.proofs.Common.{ℕ, refl, sym, List, [], ◌∷◌, Option, Some, None, IfSome, ap, length}
use Rattle.std.proofs.lemmas.Option.{none-some}
use Rattle.std.specs.Borrow.{Bor}
use Rattle.odht_base.proofs.lemmas.Options.{some_same}
use Rattle.odht_header.specs.Coding.{HasStored}
use Rattle.odht_header.proofs.examples.Apart.{unequal, unequal_lists}
use Rattle.odht_header.proofs.examples.Opened.{opened}
use Rattle.odht_calls.specs.Layouts.{AnyViewLenAnswers}
use Rattle.odht_calls.specs.Reads.{IsGot, IsGotAt}
use Rattle.odht_calls.specs.Views.{OpenViewAnswers, ViewGetAnswers, ViewGetAllAnswers, ViewLenAnswers}
use Rattle.odht_calls.proofs.examples.Tables.{direct_coding, one_item, one_bytes, no_bytes, miscounted, one_image, not_stored}

abbrev at640 : List ℕ → Bor (List ℕ)
at640 B = record { ref_ptr = (640, length B); now = B }

abbrev at64 : List ℕ → Bor (List ℕ)
at64 B = record { ref_ptr = (64, length B); now = B }

-- ---- OpenViewAnswers
-- an error is not answered with ODHT_OK
pub view_status_refused : OpenViewAnswers direct_coding.format (at64 []) (at640 no_bytes) 0 (at64 []) → ⊥
unfolding opened
view_status_refused h = unequal 0 1 refl h.status

-- nor are accepted bytes left out of the view
pub view_unwritten_refused : OpenViewAnswers direct_coding.format (at64 one_bytes) (at640 no_bytes) 0 (at640 no_bytes) → ⊥
unfolding opened
view_unwritten_refused h = unequal_lists no_bytes one_bytes refl (ap (λ b. b.now) (h.opened refl))

-- and no other slice takes their place, even of the same bytes
pub view_copied_refused : OpenViewAnswers direct_coding.format (at64 one_bytes) (at640 no_bytes) 0 (at640 one_bytes) → ⊥
unfolding opened
view_copied_refused h = unequal 640 64 refl (ap (λ b. b.ref_ptr.0) (h.opened refl))

-- a view that is answered with ODHT_OK is of accepted bytes
pub view_unaccepted_refused : OpenViewAnswers direct_coding.format (at64 one_bytes) (at640 no_bytes) 0 (at64 []) → ⊥
unfolding opened
view_unaccepted_refused h = none-some _ (sym (h.accepted refl))

-- and an error leaves the view unchanged
pub view_written_refused : OpenViewAnswers direct_coding.format (at64 []) (at640 no_bytes) 1 (at64 []) → ⊥
unfolding opened
view_written_refused h = unequal_lists [] no_bytes refl (ap (λ b. b.now) (h.refused (unequal 1 0 refl)))

-- ---- ViewGetAnswers
-- a present key of a valid table is not answered as an absent one
pub view_missed_refused : ViewGetAnswers direct_coding one_bytes 5 9 32 9 → ⊥
unfolding opened
view_missed_refused h = unequal 32 0 refl (h.on_valid one_item one_image).0

-- bytes that are accepted and not valid are answered with no third status
pub view_third_status_refused : ViewGetAnswers direct_coding miscounted 6 9 7 9 → ⊥
view_third_status_refused h = go h.on_any
  where
    go : (o : Option ℕ) × IsGot o 9 7 9 × IfSome o (HasStored direct_coding miscounted 6) → ⊥
    go (None, answer, stored) = unequal 7 32 refl answer.0
    go (Some v, answer, stored) = unequal 7 0 refl answer.0

-- and with no value that none of their slots has
pub view_not_stored_refused : ViewGetAnswers direct_coding miscounted 6 9 0 7 → ⊥
view_not_stored_refused h = go h.on_any
  where
    go : (o : Option ℕ) × IsGot o 9 0 7 × IfSome o (HasStored direct_coding miscounted 6) → ⊥
    go (None, answer, stored) = unequal 0 32 refl answer.0
    go (Some v, answer, stored) = not_stored v stored

-- ---- ViewLenAnswers
-- of bytes that are accepted and not valid, the number is that in the header
pub view_recounted_refused : ViewLenAnswers direct_coding miscounted 0 → ⊥
unfolding opened
view_recounted_refused h = unequal 0 5 refl h.by_header

-- and of a valid table it is its count
pub view_uncounted_refused : ViewLenAnswers direct_coding one_bytes 0 → ⊥
unfolding opened
view_uncounted_refused h = unequal 0 1 refl (h.on_valid one_item one_image)

-- ---- AnyViewLenAnswers
pub any_view_recounted_refused : AnyViewLenAnswers miscounted 0 → ⊥
unfolding opened
any_view_recounted_refused h = unequal 0 5 refl (h (record { key_len = 8; value_len = 4; hash = 0 })).by_header

-- ---- ViewGetAllAnswers, here of one key, into the arrays 9 ∷ [] and 3 ∷ []
-- arrays of two lengths are not answered with ODHT_OK
pub view_lengths_status_refused : ViewGetAllAnswers direct_coding one_bytes (5 ∷ []) [] (3 ∷ []) 0 [] (3 ∷ []) → ⊥
view_lengths_status_refused h = unequal 0 35 refl (h.lengths (λ long. unequal 0 1 refl long.0)).0

-- and neither the values nor what was found change
pub view_lengths_written_refused : (ViewGetAllAnswers direct_coding one_bytes (5 ∷ []) [] (3 ∷ []) 35 (7 ∷ []) (3 ∷ []) → ⊥)
    × (ViewGetAllAnswers direct_coding one_bytes (5 ∷ []) (9 ∷ []) [] 35 (9 ∷ []) (1 ∷ []) → ⊥)
view_lengths_written_refused = (
  λ h. unequal_lists (7 ∷ []) [] refl (h.lengths (λ long. unequal 0 1 refl long.0)).1,
  λ h. unequal_lists (1 ∷ []) [] refl (h.lengths (λ long. unequal 0 1 refl long.1)).2,
)

-- arrays of one length are answered with ODHT_OK, also where the one key is found
pub view_all_status_refused : ViewGetAllAnswers direct_coding one_bytes (5 ∷ []) (9 ∷ []) (3 ∷ []) 32 (7 ∷ []) (1 ∷ []) → ⊥
view_all_status_refused h = unequal 32 0 refl (h.looked_up (refl, refl))

-- a present key of a valid table is not reported as absent
pub view_missed_all_refused : ViewGetAllAnswers direct_coding one_bytes (5 ∷ []) (9 ∷ []) (3 ∷ []) 0 (9 ∷ []) (0 ∷ [])
    → ⊥
unfolding opened
view_missed_all_refused h = unequal 0 1 refl (some_same 0 1 (h.on_valid one_item 0 5 (refl, refl) one_image refl).0)

-- and its value is written
pub view_unwritten_all_refused : ViewGetAllAnswers direct_coding one_bytes (5 ∷ []) (9 ∷ []) (3 ∷ []) 0 (9 ∷ []) (1 ∷ [])
    → ⊥
unfolding opened
view_unwritten_all_refused h =
    unequal 9 7 refl (some_same 9 7 (h.on_valid one_item 0 5 (refl, refl) one_image refl).1)

-- each element of what was found is 0 or 1, also of bytes that are accepted and not valid
pub view_third_found_refused : ViewGetAllAnswers direct_coding miscounted (6 ∷ []) (9 ∷ []) (3 ∷ []) 0 (9 ∷ []) (2 ∷ []) → ⊥
view_third_found_refused h = go (h.on_any 0 6 (refl, refl) refl)
  where
    go : (o : Option ℕ) × IsGotAt o (Some 9) (Some 2) (Some 9) × IfSome o (HasStored direct_coding miscounted 6) → ⊥
    go (None, answer, stored) = unequal 2 0 refl (some_same 2 0 answer.0)
    go (Some v, answer, stored) = unequal 2 1 refl (some_same 2 1 answer.0)

-- and no value is found that none of their slots has
pub view_not_stored_all_refused : ViewGetAllAnswers direct_coding miscounted (6 ∷ []) (9 ∷ []) (3 ∷ []) 0 (7 ∷ []) (1 ∷ []) → ⊥
view_not_stored_all_refused h = go (h.on_any 0 6 (refl, refl) refl)
  where
    go : (o : Option ℕ) × IsGotAt o (Some 9) (Some 1) (Some 7) × IfSome o (HasStored direct_coding miscounted 6) → ⊥
    go (None, answer, stored) = unequal 1 0 refl (some_same 1 0 answer.0)
    go (Some v, answer, stored) = not_stored v stored
