-- Worked examples: what an insert into bytes that need not be valid returns and leaves.
use Rattle.std.proofs.Common.{◌≡◌, ℕ, refl, sym, Option, List, [], ◌∷◌, None, Result, Ok, Err, lit<, lit≤, arith}
use Rattle.std.specs.Prelude.{option_map}
use Rattle.std.specs.Result.{result_map_both}
use Rattle.std.proofs.lemmas.Option.{none-some}
use Rattle.odht_raw.specs.Words.{Coding, controls_of, encoded, Error, Full, le_bytes, overwritten_at, TooShort}
use Rattle.odht_base.proofs.examples.Configs.{my_config}
use Rattle.odht_header.proofs.examples.Opened.{opened}
use Rattle.odht_raw.specs.Frame.{InsertFrame, entries_in}
use Rattle.odht_raw.proofs.examples.FrameRefusals.{free_slot_refused}
use Rattle.odht_raw.proofs.examples.Missing.{missing_at_home}
use Rattle.odht.specs.Inserts.{IsInsertIntoAny}
use Rattle.odht.proofs.examples.SmallTables.{number_coding, no_pairs, bytes_of}

-- the bytes of the empty table, whose header has a count of thirteen, the maximum
abbrev pub miscounted : List ℕ
miscounted = overwritten_at (bytes_of no_pairs) 8 (13 ∷ [])

-- an insert may fail there
pub full : IsInsertIntoAny number_coding miscounted 1 2 (Err Full) miscounted
unfolding opened
full = record {
  frame = (Err Full, refl, InsertFrame.full (lit≤ tt) (missing_at_home my_config (entries_in my_config miscounted) (controls_of my_config miscounted) (le_bytes 8 1) refl));
  only_full = refl;
  accepted = refl;
}

-- ---- `frame`: with room it does not fail
pub full_with_room : IsInsertIntoAny number_coding (bytes_of no_pairs) 1 2 (Err Full) (bytes_of no_pairs) → ⊥
unfolding opened
full_with_room h = go h.frame.0 h.frame.1 (bytes_of no_pairs) h.frame.2
  where
    go : (a : Result (Option (List ℕ)) Error) → Err Full ≡ result_map_both (option_map number_coding.value_of) (λ e. e) a → (B : List ℕ)
        → InsertFrame my_config (bytes_of no_pairs) (encoded number_coding 1 2) a B → ⊥
    go (Err e) is B (InsertFrame.full most absent) = omega (arith, most)
    go (Err e) is B (InsertFrame.no_slot none absent) = free_slot_refused (controls_of my_config (bytes_of no_pairs)) 0 refl refl (none 0 (lit< tt))
    go (Ok o) is B frame = absurd cc

-- ---- `only_full`: there is no other error
pub other_error : {K V : Type 0} (c : Coding K V) (B B' : List ℕ) (k : K) (v : V) → IsInsertIntoAny c B k v (Err (TooShort 1)) B' → ⊥
other_error c B B' k v h = let full = h.only_full in cc

-- ---- `accepted`: no bytes are too few for a header
pub no_bytes : (B : List ℕ) → IsInsertIntoAny number_coding B 1 2 (Ok None) [] → ⊥
unfolding opened
no_bytes B h = none-some (TooShort 0) (sym h.accepted)
