-- Worked examples: what a call answers that inserts pairs in turn.
use Rattle.std.proofs.Common.{◌≡◌, ◌∙◌, ℕ, refl, sym, ap, arith, List, [], ◌∷◌, lit<, Option, option_map, Result, Ok, Err}
use Rattle.odht_base.specs.Bytes.{overwritten_at}
use Rattle.odht_base.specs.Image.{image}
use Rattle.odht_base.specs.Decoded.{controls_of}
use Rattle.odht_base.specs.Table.{Pair}
use Rattle.odht_base.proofs.examples.Configs.{direct_config}
use Rattle.odht_base.proofs.lemmas.Options.{some_same}
use Rattle.odht_header.specs.declared.error.Error.TheVariants.{TooShort, Full}
use Rattle.odht_header.specs.declared.error.Error.{Error}
use Rattle.odht_header.specs.Coding.{encoded}
use Rattle.odht_raw.specs.Frame.{InsertFrame}
use Rattle.odht_raw.proofs.examples.FrameRefusals.{free_slot_refused}
use Rattle.odht_header.proofs.examples.Opened.{opened}
use Rattle.std.specs.Result.{result_map_both}
use Rattle.odht_calls.specs.Writes.{InsertAllAnswers}
use Rattle.odht_calls.proofs.examples.Runs.{unchanged, misplaced}
use Rattle.odht_header.proofs.examples.Apart.{unequal, unequal_lists}
use Rattle.odht_calls.proofs.examples.Tables.{direct_coding, no_items, one_item, no_bytes, one_bytes, miscounted, no_image, accepted_bytes}

-- arrays of two lengths are not answered with ODHT_OK
pub all_lengths_status_refused : InsertAllAnswers direct_coding no_bytes (5 ∷ []) [] 9 0 no_bytes 9 → ⊥
all_lengths_status_refused h = unequal 0 35 refl (h.lengths (unequal 0 1 refl)).0

-- and neither the bytes nor the number change
pub all_lengths_written_refused : (InsertAllAnswers direct_coding [] (5 ∷ []) [] 9 35 (7 ∷ []) 9 → ⊥)
    × (InsertAllAnswers direct_coding [] (5 ∷ []) [] 9 35 [] 0 → ⊥)
all_lengths_written_refused =
    (λ h. unequal_lists (7 ∷ []) [] refl (h.lengths (unequal 0 1 refl)).1, λ h. unequal 0 9 refl (h.lengths (unequal 0 1 refl)).2)

-- an error is not answered with another status
pub all_status_refused : InsertAllAnswers direct_coding [] (5 ∷ []) (7 ∷ []) 9 2 [] 9 → ⊥
unfolding opened
all_status_refused h = unequal 2 1 refl (h.refused (TooShort 0) refl refl).0

-- and nothing is written
pub all_written_refused : (InsertAllAnswers direct_coding [] (5 ∷ []) (7 ∷ []) 9 1 (7 ∷ []) 9 → ⊥)
    × (InsertAllAnswers direct_coding [] (5 ∷ []) (7 ∷ []) 9 1 [] 0 → ⊥)
unfolding opened
all_written_refused =
    (λ h. unequal_lists (7 ∷ []) [] refl (h.refused (TooShort 0) refl refl).1, λ h. unequal 0 9 refl (h.refused (TooShort 0) refl refl).2)

-- the number of inserted pairs is not above that of the pairs
pub all_bound_refused : InsertAllAnswers direct_coding no_bytes (5 ∷ []) (7 ∷ []) 9 0 one_bytes 2 → ⊥
all_bound_refused h = omega (arith, h.bound refl accepted_bytes.0)

-- where all were inserted, the answer is ODHT_OK
pub all_done_refused : InsertAllAnswers direct_coding no_bytes (5 ∷ []) (7 ∷ []) 9 18 one_bytes 1 → ⊥
all_done_refused h = unequal 18 0 refl (h.all refl accepted_bytes.0 refl)

-- and where some were not, it is ODHT_FULL
pub some_full_refused : InsertAllAnswers direct_coding one_bytes (6 ∷ []) (8 ∷ []) 9 0 one_bytes 0 → ⊥
some_full_refused h = unequal 0 18 refl (h.some refl accepted_bytes.1 (lit< tt))

-- a pair is where the table's rules place it, and in no other slot
pub misplaced_refused : InsertAllAnswers direct_coding no_bytes (5 ∷ []) (7 ∷ []) 9 0 misplaced 1 → ⊥
unfolding opened
misplaced_refused h =
    let inserted = h.inserted no_items refl no_image in
    unequal_lists misplaced one_bytes refl
    (inserted.image.bytes ∙ ap (image direct_config) (sym (some_same one_item inserted.table inserted.runs)))

-- a count of six
abbrev otherwise_miscounted : List ℕ
otherwise_miscounted = overwritten_at no_bytes 8 (6 ∷ [])

-- bytes that are accepted and not valid are unchanged where no pair is inserted
pub unframed_refused : InsertAllAnswers direct_coding miscounted (5 ∷ []) (7 ∷ []) 9 18 otherwise_miscounted 0 → ⊥
unfolding opened
unframed_refused h =
    unequal_lists otherwise_miscounted miscounted refl (unchanged miscounted (h.framed refl accepted_bytes.2) refl)

-- and of two pairs the first is not left out of the number
pub unanswered_refused : InsertAllAnswers direct_coding no_bytes (5 ∷ 6 ∷ []) (7 ∷ 8 ∷ []) 9 18 one_bytes 0 → ⊥
unfolding opened
unanswered_refused h = unequal_lists one_bytes no_bytes refl (unchanged no_bytes (h.framed refl accepted_bytes.0) refl)

-- a valid table that has room answers Full for no pair
pub roomy_refused : InsertAllAnswers direct_coding no_bytes (5 ∷ []) (7 ∷ []) 9 18 no_bytes 0 → ⊥
unfolding opened
roomy_refused h = unequal 0 1 refl (h.at_maximum no_items refl accepted_bytes.0 no_image (lit< tt)).full.0

-- and neither do bytes with room by their header and control bytes
roomy : (a : Result (Option (List ℕ)) Error) (p : Pair) (D : List ℕ) → InsertFrame direct_config no_bytes p a D → (e : Error) → a ≡ Err e → ⊥
unfolding opened
roomy a p D (InsertFrame.full full absent) e is = omega (arith, full)
roomy a p D (InsertFrame.no_slot none absent) e is =
    free_slot_refused (controls_of direct_config no_bytes) 0 refl refl (none 0 (lit< tt))
roomy a p D (InsertFrame.overwrote i low same) e is = absurd cc
roomy a p D (InsertFrame.added i low free room) e is = absurd cc

pub stopped_with_room_refused : InsertAllAnswers direct_coding no_bytes (5 ∷ []) (7 ∷ []) 9 18 no_bytes 0 → ⊥
stopped_with_room_refused h =
    let stop = h.stopped refl accepted_bytes.0 (lit< tt) in
    go stop.item stop.framed.0 stop.framed.1 stop.framed.2
  where
    go : (item : ℕ × ℕ) (a : Result (Option (List ℕ)) Error) → Err Full ≡ result_map_both (option_map direct_coding.value_of) (λ e. e) a
        → InsertFrame direct_config no_bytes (encoded direct_coding item.0 item.1) a no_bytes → ⊥
    go item (Err e) same frame = roomy (Err e) _ _ frame e refl
    go item (Ok o) same frame = absurd cc
