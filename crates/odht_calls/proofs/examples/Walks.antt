-- Worked examples: what a call for the item count answers, and what a walk does, here into arrays of up to three
-- elements.
use Rattle.std.proofs.Common.{refl, ap, length, true≢false, Some, None, [], ◌∷◌, lit<, lit≤}
use Rattle.odht_base.specs.Table.{Table}
use Rattle.odht_base.proofs.examples.Configs.{pair32}
use Rattle.odht_header.specs.declared.error.Error.TheVariants.{TooShort}
use Rattle.odht_header.proofs.examples.Opened.{opened}
use Rattle.odht_calls.specs.Reads.{LenAnswers}
use Rattle.odht_calls.specs.Walks.{IsWalked, WalkAnswers}
use Rattle.odht_header.proofs.examples.Apart.{unequal, unequal_lists}
use Rattle.odht_calls.proofs.examples.Tables.{direct_coding, one_item, one_bytes, miscounted, one_image, accepted_bytes}

-- ---- LenAnswers
-- an error is not answered with ODHT_OK
pub len_status_refused : LenAnswers direct_coding [] 9 0 9 → ⊥
unfolding opened
len_status_refused h = unequal 0 1 refl h.status

-- and writes no number
pub len_written_refused : LenAnswers direct_coding [] 9 1 0 → ⊥
unfolding opened
len_written_refused h = unequal 0 9 refl (h.refused (TooShort 0) refl)

-- of bytes that are accepted and not valid, the number is that in the header
pub len_recounted_refused : LenAnswers direct_coding miscounted 9 0 0 → ⊥
unfolding opened
len_recounted_refused h = unequal 0 5 refl (h.by_header accepted_bytes.2)

-- and of a valid table it is its count
pub len_uncounted_refused : LenAnswers direct_coding one_bytes 9 0 0 → ⊥
unfolding opened
len_uncounted_refused h = unequal 0 1 refl (h.on_valid one_item one_image)

-- ---- IsWalked
-- a table of four slots, of which slots 1 and 3 hold a pair
abbrev two : Table
two = record { factor = 65535; cells = None ∷ Some (pair32 1 2) ∷ None ∷ Some (pair32 3 4) ∷ [] }

-- the number of pairs is not less than the arrays take
pub walked_fewer_refused : IsWalked direct_coding two 0 (9 ∷ 9 ∷ 9 ∷ []) (8 ∷ 8 ∷ 8 ∷ []) 0 4 (1 ∷ 9 ∷ 9 ∷ []) (2 ∷ 8 ∷ 8 ∷ []) 1
    → ⊥
unfolding opened
walked_fewer_refused h = unequal 1 2 refl h.known

-- the keys are in their order
pub walked_keys_refused : IsWalked direct_coding two 0 (9 ∷ 9 ∷ 9 ∷ []) (8 ∷ 8 ∷ 8 ∷ []) 0 4 (3 ∷ 1 ∷ 9 ∷ []) (2 ∷ 4 ∷ 8 ∷ []) 2
    → ⊥
unfolding opened
walked_keys_refused h = unequal_lists (3 ∷ 1 ∷ 9 ∷ []) (1 ∷ 3 ∷ 9 ∷ []) refl h.keys

-- and no key after them changes
pub walked_keys_behind_refused : IsWalked direct_coding two 0 (9 ∷ 9 ∷ 9 ∷ []) (8 ∷ 8 ∷ 8 ∷ []) 0 4 (1 ∷ 3 ∷ 0 ∷ []) (2 ∷ 4 ∷ 8 ∷ []) 2
    → ⊥
unfolding opened
walked_keys_behind_refused h = unequal_lists (1 ∷ 3 ∷ 0 ∷ []) (1 ∷ 3 ∷ 9 ∷ []) refl h.keys

-- each value has the index of its key
pub walked_values_refused : IsWalked direct_coding two 0 (9 ∷ 9 ∷ 9 ∷ []) (8 ∷ 8 ∷ 8 ∷ []) 0 4 (1 ∷ 3 ∷ 9 ∷ []) (4 ∷ 2 ∷ 8 ∷ []) 2
    → ⊥
unfolding opened
walked_values_refused h = unequal_lists (4 ∷ 2 ∷ 8 ∷ []) (2 ∷ 4 ∷ 8 ∷ []) refl h.values

-- and no value after them changes
pub walked_values_behind_refused : IsWalked direct_coding two 0 (9 ∷ 9 ∷ 9 ∷ []) (8 ∷ 8 ∷ 8 ∷ []) 0 4 (1 ∷ 3 ∷ 9 ∷ []) (2 ∷ 4 ∷ 0 ∷ []) 2
    → ⊥
unfolding opened
walked_values_behind_refused h = unequal_lists (2 ∷ 4 ∷ 0 ∷ []) (2 ∷ 4 ∷ 8 ∷ []) refl h.values

-- arrays that take all pairs, and no more, are not too small
pub walked_all_status_refused : IsWalked direct_coding two 0 (9 ∷ 9 ∷ []) (8 ∷ 8 ∷ []) 36 4 (1 ∷ 3 ∷ []) (2 ∷ 4 ∷ []) 2 → ⊥
unfolding opened
walked_all_status_refused h = unequal 36 0 refl (h.all (lit≤ tt)).0

-- and the cursor is past all slots
pub walked_all_cursor_refused : IsWalked direct_coding two 0 (9 ∷ 9 ∷ []) (8 ∷ 8 ∷ []) 0 5 (1 ∷ 3 ∷ []) (2 ∷ 4 ∷ []) 2 → ⊥
unfolding opened
walked_all_cursor_refused h = unequal 5 4 refl (h.all (lit≤ tt)).1

-- others are too small
pub walked_more_status_refused : IsWalked direct_coding two 0 (9 ∷ []) (8 ∷ []) 0 3 (1 ∷ []) (2 ∷ []) 1 → ⊥
unfolding opened
walked_more_status_refused h = unequal 0 36 refl (h.more (lit< tt)).0

-- no pair is left out by the cursor
pub walked_cursor_skips_refused : IsWalked direct_coding two 0 (9 ∷ []) (8 ∷ []) 36 4 (1 ∷ []) (2 ∷ []) 1 → ⊥
unfolding opened
walked_cursor_skips_refused h = unequal 0 1 refl (ap length h.left)

-- and none comes again
pub walked_cursor_repeats_refused : IsWalked direct_coding two 0 (9 ∷ []) (8 ∷ []) 36 1 (1 ∷ []) (2 ∷ []) 1 → ⊥
unfolding opened
walked_cursor_repeats_refused h = unequal 2 1 refl (ap length h.left)

-- it is the slot of the next pair, and no free one before it
pub walked_cursor_early_refused : IsWalked direct_coding two 0 (9 ∷ []) (8 ∷ []) 36 2 (1 ∷ []) (2 ∷ []) 1 → ⊥
unfolding opened
walked_cursor_early_refused h = true≢false (h.more (lit< tt)).1

-- ---- WalkAnswers
-- arrays of two lengths are not answered with ODHT_OK
pub walk_lengths_status_refused : WalkAnswers direct_coding one_bytes 2 (9 ∷ []) [] 4 0 2 (9 ∷ []) [] 4 → ⊥
walk_lengths_status_refused h = unequal 0 35 refl (h.lengths (unequal 0 1 refl)).0

-- and neither the cursor, the keys, the values nor the number change
pub walk_lengths_written_refused : (WalkAnswers direct_coding one_bytes 2 (9 ∷ []) [] 4 35 16 (9 ∷ []) [] 4 → ⊥)
    × (WalkAnswers direct_coding one_bytes 2 (9 ∷ []) [] 4 35 2 (5 ∷ []) [] 4 → ⊥)
    × (WalkAnswers direct_coding one_bytes 2 [] (8 ∷ []) 4 35 2 [] (7 ∷ []) 4 → ⊥)
    × (WalkAnswers direct_coding one_bytes 2 (9 ∷ []) [] 4 35 2 (9 ∷ []) [] 0 → ⊥)
walk_lengths_written_refused = (
  λ h. unequal 16 2 refl (h.lengths (unequal 0 1 refl)).1,
  λ h. unequal_lists (5 ∷ []) (9 ∷ []) refl (h.lengths (unequal 0 1 refl)).2,
  λ h. unequal_lists (7 ∷ []) (8 ∷ []) refl (h.lengths (unequal 1 0 refl)).3,
  λ h. unequal 0 4 refl (h.lengths (unequal 0 1 refl)).4,
)

-- an error is not answered with another status
pub walk_status_refused : WalkAnswers direct_coding [] 2 (9 ∷ []) (8 ∷ []) 4 2 2 (9 ∷ []) (8 ∷ []) 4 → ⊥
unfolding opened
walk_status_refused h = unequal 2 1 refl (h.refused (TooShort 0) refl refl).0

-- and nothing is written
pub walk_written_refused : (WalkAnswers direct_coding [] 2 (9 ∷ []) (8 ∷ []) 4 1 0 (9 ∷ []) (8 ∷ []) 4 → ⊥)
    × (WalkAnswers direct_coding [] 2 (9 ∷ []) (8 ∷ []) 4 1 2 (5 ∷ []) (8 ∷ []) 4 → ⊥)
    × (WalkAnswers direct_coding [] 2 (9 ∷ []) (8 ∷ []) 4 1 2 (9 ∷ []) (7 ∷ []) 4 → ⊥)
    × (WalkAnswers direct_coding [] 2 (9 ∷ []) (8 ∷ []) 4 1 2 (9 ∷ []) (8 ∷ []) 0 → ⊥)
unfolding opened
walk_written_refused = (
  λ h. unequal 0 2 refl (h.refused (TooShort 0) refl refl).1,
  λ h. unequal_lists (5 ∷ []) (9 ∷ []) refl (h.refused (TooShort 0) refl refl).2,
  λ h. unequal_lists (7 ∷ []) (8 ∷ []) refl (h.refused (TooShort 0) refl refl).3,
  λ h. unequal 0 4 refl (h.refused (TooShort 0) refl refl).4,
)

-- no pair of a valid table is left out
pub walk_missed_refused : WalkAnswers direct_coding one_bytes 0 (9 ∷ []) (8 ∷ []) 4 0 16 (9 ∷ []) (8 ∷ []) 0 → ⊥
unfolding opened
walk_missed_refused h = unequal 0 1 refl (h.on_valid one_item refl one_image).known

-- for bytes that are accepted and not valid, a pair that no occupied slot has is not in the walk
pub walk_made_up_refused : WalkAnswers direct_coding miscounted 0 (9 ∷ []) (8 ∷ []) 4 0 16 (5 ∷ []) (7 ∷ []) 1 → ⊥
unfolding opened
walk_made_up_refused h = unequal 1 0 refl (h.on_any refl accepted_bytes.2).known
