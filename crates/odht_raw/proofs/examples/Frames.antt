-- Worked examples: inserts into bytes that a view accepts and that are not valid.
use Rattle.std.proofs.Common.{◌≡◌, ◌+◌, ℕ, refl, inl, List, [], ◌∷◌, Some, None, Ok, Err, option_map, lit<, lit≤}
use Rattle.odht_raw.specs.Words.{controls_of, Format, Full, header_count, header_slots, image, le_bytes, num, overwritten_at, Pair, with_count, with_pair}
use Rattle.odht_base.proofs.examples.Configs.{test_config, direct_config, pair32, view_of}
use Rattle.odht_header.proofs.examples.Opened.{opened}
use Rattle.odht_header.proofs.examples.Refused.{test_bytes}
use Rattle.odht_header.proofs.examples.Invalid.{count_of_five, all_occupied}
use Rattle.odht_raw.specs.Frame.{InsertFrame, IsBytesFramed, entries_in}
use Rattle.odht_raw.proofs.examples.Missing.{missing_everywhere}

-- at the maximum of thirteen by the header, key 99 may be answered with Full
pub refused : InsertFrame direct_config (all_occupied 13) (pair32 99 7) (Err Full) (all_occupied 13)
unfolding opened
refused = InsertFrame.full (lit≤ tt) (missing_everywhere direct_config (entries_in direct_config (all_occupied 13)) (controls_of direct_config (all_occupied 13)) (le_bytes 4 99) (lit< tt) refl refl)

-- and 3 overwritten by 7, which changes byte 60 alone
pub overwritten_value : InsertFrame direct_config (all_occupied 0) (pair32 3 7) (Ok (Some (le_bytes 4 3))) (overwritten_at (all_occupied 0) 60 (7 ∷ []))
unfolding opened
overwritten_value = InsertFrame.overwrote 3 (lit< tt) refl

-- the bytes B with the pair p added in slot i
abbrev added_bytes : Format → List ℕ → ℕ → Pair → List ℕ
added_bytes F B i p = with_count (with_pair F (header_slots B) B i p) (header_count B + 1)

-- a wrong count of 5 rises to 6
pub added_pair : InsertFrame test_config count_of_five (pair32 1 2) (Ok None) (added_bytes test_config count_of_five 5 (pair32 1 2))
unfolding opened
added_pair = InsertFrame.added 5 (lit< tt) (inl refl) (lit< tt)

pub added_count : header_count (added_bytes test_config count_of_five 5 (pair32 1 2)) ≡ 6
unfolding opened
added_count = refl

-- a free slot whose control byte is 128 takes 1 to 2, and then the bytes are those of the valid table
abbrev home_of_128 : List ℕ
home_of_128 = overwritten_at (overwritten_at test_bytes 165 (0x80 ∷ [])) 181 (0x80 ∷ [])

pub added_at_128 : InsertFrame test_config home_of_128 (pair32 1 2) (Ok None) (added_bytes test_config home_of_128 5 (pair32 1 2))
unfolding opened
added_at_128 = InsertFrame.added 5 (lit< tt) (inl refl) (lit< tt)

pub then_valid : Some (added_bytes test_config home_of_128 5 (pair32 1 2)) ≡ option_map (image test_config) (view_of test_config 0 87 (pair32 1 2 ∷ []))
unfolding opened
then_valid = refl

-- the former value is reported as it is decoded, here as a number
pub decoded_value : IsBytesFramed direct_config num (all_occupied 0) (pair32 3 7) (Ok (Some 3)) (overwritten_at (all_occupied 0) 60 (7 ∷ []))
unfolding opened
decoded_value = (Ok (Some (le_bytes 4 3)), refl, overwritten_value)

-- and not as another
pub other_decoding_refused : (B : List ℕ) (p : Pair) (B' : List ℕ) → IsBytesFramed {V = ℕ} direct_config (λ b. 0) B p (Ok (Some 1)) B' → ⊥
other_decoding_refused B p B' (Ok None, is, frame) = absurd cc
other_decoding_refused B p B' (Ok (Some v), is, frame) = absurd cc
other_decoding_refused B p B' (Err e, is, frame) = absurd cc
