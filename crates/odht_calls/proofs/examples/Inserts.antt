-- Worked examples: what an insert answers.
use Rattle.std.proofs.Common.{◌≡◌, ◌∙◌, ℕ, refl, ap, List, [], ◌∷◌, Option, None, Some, Result, Ok, Err}
use Rattle.odht_base.proofs.examples.Configs.{direct_config}
use Rattle.odht_base.specs.Numbers.{le_bytes}
use Rattle.odht_base.specs.Table.{Pair}
use Rattle.odht_raw.specs.Frame.{InsertFrame, IsFramed}
use Rattle.odht_header.specs.declared.error.Error.{Error}
use Rattle.odht_header.specs.declared.error.Error.TheVariants.{TooShort, Full}
use Rattle.odht_header.proofs.examples.Opened.{opened}
use Rattle.odht_calls.specs.Statuses.{status_of}
use Rattle.odht_calls.specs.Writes.{IsFormer, IsAnswered, IsAfterInsert, InsertAnswers}
use Rattle.odht_header.proofs.examples.Apart.{unequal, unequal_lists}
use Rattle.odht_calls.proofs.examples.Tables.{direct_coding, no_items, one_item, no_bytes, one_bytes, other_bytes, miscounted, no_image, accepted_bytes}

-- ---- IsFormer
-- a new key is not answered with ODHT_REPLACED
pub new_as_replaced_refused : IsFormer {V = ℕ} None 9 33 9 → ⊥
new_as_replaced_refused h = unequal 33 0 refl h.0

-- and writes no value
pub new_written_refused : IsFormer {V = ℕ} None 9 0 7 → ⊥
new_written_refused h = unequal 7 9 refl h.1

-- a key that was there is not answered with ODHT_OK
pub replaced_as_new_refused : IsFormer {V = ℕ} (Some 7) 9 0 7 → ⊥
replaced_as_new_refused h = unequal 0 33 refl h.0

-- and does not leave the buffer unchanged
pub replaced_unwritten_refused : IsFormer {V = ℕ} (Some 7) 9 33 9 → ⊥
replaced_unwritten_refused h = unequal 9 7 refl h.1

-- ---- IsAnswered
-- an insert is not answered as one of a key that was there
pub answered_as_replaced_refused : IsAnswered {V = ℕ} (Ok None) 9 33 9 → ⊥
answered_as_replaced_refused h = unequal 33 0 refl h.0

-- an error is not answered with ODHT_OK
pub answered_refusal_refused : IsAnswered {V = ℕ} (Err Full) 9 0 9 → ⊥
answered_refusal_refused h = unequal 0 18 refl h.0

-- and writes no value
pub answered_written_refused : IsAnswered {V = ℕ} (Err Full) 9 18 7 → ⊥
answered_written_refused h = unequal 7 9 refl h.1

-- ---- IsAfterInsert
-- a new key is written
pub insert_unwritten_refused : IsAfterInsert direct_coding no_items 5 7 no_bytes 9 0 9 → ⊥
unfolding opened
insert_unwritten_refused h = unequal_lists no_bytes one_bytes refl h.0.bytes

-- and not answered as one that was there
pub insert_as_replaced_refused : IsAfterInsert direct_coding no_items 5 7 one_bytes 9 33 9 → ⊥
unfolding opened
insert_as_replaced_refused h = unequal 33 0 refl h.1.0

-- for a key that was there the former value is written, not the new one
pub insert_new_value_refused : IsAfterInsert direct_coding one_item 5 8 other_bytes 9 33 8 → ⊥
unfolding opened
insert_new_value_refused h = unequal 8 7 refl h.1.1

-- a full table is unchanged
pub insert_full_written_refused : IsAfterInsert direct_coding one_item 6 8 other_bytes 9 18 9 → ⊥
unfolding opened
insert_full_written_refused h = unequal_lists other_bytes one_bytes refl h.0.bytes

-- and is not answered with ODHT_OK
pub insert_full_status_refused : IsAfterInsert direct_coding one_item 6 8 one_bytes 9 0 9 → ⊥
unfolding opened
insert_full_status_refused h = unequal 0 18 refl h.1

-- and writes no value
pub insert_full_value_refused : IsAfterInsert direct_coding one_item 6 8 one_bytes 9 18 7 → ⊥
unfolding opened
insert_full_value_refused h = unequal 7 9 refl h.2

-- ---- InsertAnswers
-- an error is not answered with another status
pub insert_status_refused : InsertAnswers direct_coding [] 5 7 9 2 [] 9 → ⊥
unfolding opened
insert_status_refused h = unequal 2 1 refl (h.refused (TooShort 0) refl).0

-- and neither the bytes nor the value change
pub insert_written_refused : (InsertAnswers direct_coding [] 5 7 9 1 (7 ∷ []) 9 → ⊥) × (InsertAnswers direct_coding [] 5 7 9 1 [] 7 → ⊥)
unfolding opened
insert_written_refused =
    (λ h. unequal_lists (7 ∷ []) [] refl (h.refused (TooShort 0) refl).1, λ h. unequal 7 9 refl (h.refused (TooShort 0) refl).2)

-- a valid table that has room answers Full for no key
pub insert_roomy_refused : InsertAnswers direct_coding no_bytes 5 7 9 18 no_bytes 9 → ⊥
unfolding opened
insert_roomy_refused h = unequal 18 0 refl (h.on_valid no_items no_image).1.0

-- the error of an insert, and what it left
left : (B D : List ℕ) (p : Pair) (e : Error) → InsertFrame direct_config B p (Err e) D → (e ≡ Full) × (D ≡ B)
left B D p e (InsertFrame.full full absent) = (refl, refl)
left B D p e (InsertFrame.no_slot none absent) = (refl, refl)

-- of a key and a value
framed_left : (B D : List ℕ) (k v : ℕ) (e : Error) → IsFramed direct_coding B k v (Err e) D → (e ≡ Full) × (D ≡ B)
framed_left B D k v e (Ok o, same, frame) = absurd cc
framed_left B D k v e (Err x, same, frame) =
    let parts = left B D (record { key = le_bytes 4 k; value = le_bytes 4 v }) x frame in
    (let only = parts.0 in cc, parts.1)

-- bytes that are accepted and not valid are answered with no other status
pub insert_other_status_refused : InsertAnswers direct_coding miscounted 6 8 9 50 miscounted 9 → ⊥
insert_other_status_refused h = go (h.on_any accepted_bytes.2)
  where
    go : (r : Result (Option ℕ) Error) × IsAnswered r 9 50 9 × IsFramed direct_coding miscounted 6 8 r miscounted → ⊥
    go (Ok None, answer, frame) = unequal 50 0 refl answer.0
    go (Ok (Some v), answer, frame) = unequal 50 33 refl answer.0
    go (Err e, answer, frame) =
        unequal 50 18 refl (answer.0 ∙ ap status_of (framed_left miscounted miscounted 6 8 e frame).0)

-- and are unchanged where the insert is answered with an error
pub insert_other_bytes_refused : InsertAnswers direct_coding miscounted 6 8 9 18 no_bytes 9 → ⊥
unfolding opened
insert_other_bytes_refused h = go (h.on_any accepted_bytes.2)
  where
    go : (r : Result (Option ℕ) Error) × IsAnswered r 9 18 9 × IsFramed direct_coding miscounted 6 8 r no_bytes → ⊥
    go (Ok None, answer, frame) = unequal 18 0 refl answer.0
    go (Ok (Some v), answer, frame) = unequal 18 33 refl answer.0
    go (Err e, answer, frame) = unequal_lists no_bytes miscounted refl (framed_left miscounted no_bytes 6 8 e frame).1
