-- Worked examples: where a pair is placed in tables of sixteen slots, and what an insert into their parts may answer.
use Rattle.std.proofs.Common.{◌≡◌, ◌<◌, ◌∙◌, ap, true, ℕ, refl, sym, false, true≢false, not, bytes_eq, set, List, [], ◌∷◌, Option, Some, None, Result, Ok, Err, map, lit<, lit≤}
use Rattle.std.specs.List.{range_with_len}
use Rattle.std.specs.Option.{option_map_or}
use Rattle.odht_raw.proofs.lemmas.Below.{IsPlaced-tests, none-some, some_same}
use Rattle.odht_raw.specs.Words.{cell_at, controls, entries, Error, factor_of, Full, has_key, is_free, IsFullWithout, IsPartsOf, le_bytes, Pair, slot_count, Table, TooShort}
use Rattle.odht_base.proofs.examples.Configs.{direct_config, pair32}
use Rattle.odht_raw.specs.SearchResults.{answer, IsWherePlaced}
use Rattle.odht_raw.specs.Frame.{PartsFrame, IsPartsFramed}
use Rattle.odht_raw.specs.PartsInserts.{ArePartsPlaced, IsPartsInsert, IsInsertChange}
use Rattle.odht_raw.specs.declared.raw_table.search_result.Search.TheVariants.{Found, Free, Neither}
use Rattle.odht_header.proofs.lemmas.FirstErrors.{not-true}
use Rattle.odht_header.proofs.examples.Apart.{are_distinct, unequal_lists, tested}
use Rattle.odht_raw.proofs.examples.Missing.{missing_everywhere}
use Rattle.odht_raw.proofs.examples.FrameRefusals.{occupied_controls, no_entries, no_free_slots, parts_entry_in_occupied_slot_refused}
use Rattle.odht_header.proofs.examples.Invalid.{fives_at}
use Rattle.odht_header.proofs.examples.Opened.{opened}

-- each slot i has the pair (i, i)
abbrev full : Table
full = record { factor = factor_of 87; cells = map (λ i. Some (pair32 i i)) (range_with_len 0 16) }

abbrev five : List ℕ
five = le_bytes 4 5

-- ---- where a pair is placed
-- a pair goes where its key is, else into the free slot that the search meets first; where there is neither, nowhere
pub where_placed : IsWherePlaced direct_config (fives_at (5 ∷ [])) five (Found 5)
    × IsWherePlaced direct_config (fives_at []) five (Free 5)
    × IsWherePlaced direct_config full (le_bytes 4 99) Neither
unfolding opened
where_placed = ((refl, λ v. refl), (refl, λ v. refl), λ v. refl)

-- these are the answers of the search
pub answers : (answer direct_config (fives_at (5 ∷ [])).cells five ≡ Found 5)
    × (answer direct_config (fives_at []).cells five ≡ Free 5)
    × (answer direct_config full.cells (le_bytes 4 99) ≡ Neither)
unfolding opened answer
answers = (refl, refl, refl)

-- a slot without the key is not where it is found
pub found_without_key_refused : IsWherePlaced direct_config (fives_at (5 ∷ [])) five (Found 6) → ⊥
found_without_key_refused (has, goes) = true≢false (sym has)

-- nor is a slot with a second copy of it
pub found_second_copy_refused : IsWherePlaced direct_config (fives_at (5 ∷ 6 ∷ [])) five (Found 6) → ⊥
unfolding opened
found_second_copy_refused (has, goes) =
    are_distinct (λ o. option_map_or (λ (P : Table). option_map_or (λ (p : Pair). bytes_eq p.value []) (cell_at P.cells 6) false) o false) _ _ refl refl (sym (goes []))

-- an occupied slot is not answered as free
pub occupied_as_free_refused : IsWherePlaced direct_config (fives_at (5 ∷ [])) five (Free 5) → ⊥
occupied_as_free_refused (free, goes) = true≢false (sym free)

-- nor is another free slot
pub other_free_refused : IsWherePlaced direct_config (fives_at []) five (Free 6) → ⊥
unfolding opened
other_free_refused (free, goes) =
    are_distinct (λ o. option_map_or (λ (P : Table). is_free P.cells 6) o false) _ _ refl refl (goes [])

-- and a pair that has a place does not miss it
pub no_place_refused : IsWherePlaced direct_config (fives_at []) five Neither → ⊥
unfolding opened
no_place_refused none = none-some _ (sym (none []))

-- ---- an insert into the parts of a table
-- of the pair (5, 5), which answers r and leaves the parts of Q
abbrev inserts_five : Table → Result (Option (List ℕ)) Error → Table → Type 0
inserts_five P r Q = IsPartsInsert direct_config (λ b. b) P (pair32 5 5) r (entries direct_config Q.cells) (controls direct_config Q.cells)

abbrev are_parts : Table → Type 0
are_parts P = IsPartsOf direct_config P (entries direct_config P.cells) (controls direct_config P.cells)

-- the tables without a pair and with (5, 5) are placed
parts_of_five : are_parts (fives_at (5 ∷ []))
unfolding opened
parts_of_five = record {
  placed = IsPlaced-tests direct_config (fives_at (5 ∷ [])) (record { power = refl; least = lit≤ tt }) refl refl;
  entries_are = refl;
  controls_are = refl;
}

-- a table with a free slot is not full
not_full : (P : Table) (k : List ℕ) → is_free P.cells 0 ≡ true → 0 < slot_count P → IsFullWithout P k → ⊥
not_full P k free low h = true≢false (sym free ∙ (h 0 low).0)

-- a new key has no former value and goes into its home
pub inserted : inserts_five (fives_at []) (Ok None) (fives_at (5 ∷ []))
unfolding opened
inserted = record {
  ok = (refl, (fives_at (5 ∷ []), refl, parts_of_five));
  full = (λ e. absurd cc, λ e. absurd (none-some _ (sym e)));
  no_room = (λ e. absurd cc, λ h. absurd (not_full (fives_at []) five refl (lit< tt) h));
}

-- a key that is there has its former value
pub inserted_again : inserts_five (fives_at (5 ∷ [])) (Ok (Some five)) (fives_at (5 ∷ []))
unfolding opened
inserted_again = record {
  ok = (refl, (fives_at (5 ∷ []), refl, parts_of_five));
  full = (λ e. absurd cc, λ e. absurd (none-some _ (sym e)));
  no_room = (λ e. absurd cc, λ h. absurd (not_full (fives_at (5 ∷ [])) five refl (lit< tt) h));
}

-- no other answer
pub other_former_refused : (inserts_five (fives_at []) (Ok (Some five)) (fives_at (5 ∷ [])) → ⊥)
    × (inserts_five (fives_at (5 ∷ [])) (Ok None) (fives_at (5 ∷ [])) → ⊥)
unfolding opened
other_former_refused = (λ h. absurd (none-some five (sym h.ok.0)), λ h. absurd (none-some five h.ok.0))

-- no other parts
pub other_parts_refused : inserts_five (fives_at []) (Ok None) (fives_at (6 ∷ [])) → ⊥
unfolding opened
other_parts_refused h = refuted h.ok.1
  where
    refuted : ArePartsPlaced direct_config (fives_at []) (pair32 5 5) (entries direct_config (fives_at (6 ∷ [])).cells) (controls direct_config (fives_at (6 ∷ [])).cells) → ⊥
    refuted (Q, is, parts) =
        unequal_lists (controls direct_config (fives_at (6 ∷ [])).cells) (controls direct_config (fives_at (5 ∷ [])).cells) refl
        (parts.controls_are ∙ ap (λ (P : Table). controls direct_config P.cells) (some_same Q (fives_at (5 ∷ [])) (sym is)))

-- and no error, neither by the pair's place nor by the slots
pub full_with_room_refused : (inserts_five (fives_at []) (Err Full) (fives_at []) → ⊥) × (inserts_five (fives_at []) (Err Full) (fives_at []) → ⊥)
unfolding opened
full_with_room_refused =
    (λ h. none-some _ (sym (h.full.0 refl)), λ h. not_full (fives_at []) five refl (lit< tt) (h.no_room.0 refl))

-- where every slot has another key, the insert answers Full, and nothing else
pub full_answered : IsPartsInsert direct_config (λ b. b) full (pair32 99 5) (Err Full) [] []
unfolding opened
full_answered = record {
  ok = tt;
  full = (λ e. refl, λ e. refl);
  no_room = (λ e. all_others, λ h. refl);
}
  where
    all_others : IsFullWithout full (le_bytes 4 99)
    all_others i low = (
      not-true _ (tested (λ j. not (is_free full.cells j)) 16 i refl low),
      not-true _ (tested (λ j. not (has_key (le_bytes 4 99) (cell_at full.cells j))) 16 i refl low),
    )

pub other_answer_refused : (IsPartsInsert direct_config (λ b. b) full (pair32 99 5) (Err (TooShort 0)) [] [] → ⊥)
    × (IsPartsInsert direct_config (λ b. b) full (pair32 99 5) (Ok None) [] [] → ⊥)
unfolding opened
other_answer_refused = (λ h. let is = h.full.1 refl in absurd cc, λ h. let is = h.full.1 refl in absurd cc)

-- ---- an insert into any parts
-- sixteen control bytes of 0 with their mirror, over entries of zeros: each slot is occupied, and has the key 0
abbrev changes : Result (Option (List ℕ)) Error → List ℕ → List ℕ → Type 0
changes r es' ctrl' = IsInsertChange direct_config (λ b. b) no_entries occupied_controls (pair32 5 7) r es' ctrl'

-- an insert of another key answers Full and leaves them
pub unchanged : changes (Err Full) no_entries occupied_controls
unchanged = record {
  frame = (Err Full, refl, PartsFrame.no_slot no_free_slots (missing_everywhere direct_config (record { slots = 16; bytes = no_entries }) occupied_controls five (lit< tt) refl refl));
  errors = record { only_full = refl; refused_control = refl; refused_entries = refl };
}

-- it answers no other error, and changes neither entries nor control bytes
pub changed_refused : (changes (Err (TooShort 0)) no_entries occupied_controls → ⊥)
    × (changes (Err Full) (set no_entries 3 1) occupied_controls → ⊥)
    × (changes (Err Full) no_entries (set occupied_controls 3 1) → ⊥)
changed_refused = (
  λ h. let is = h.errors.only_full in absurd cc,
  λ h. unequal_lists (set no_entries 3 1) no_entries refl h.errors.refused_entries,
  λ h. unequal_lists (set occupied_controls 3 1) occupied_controls refl h.errors.refused_control,
)

-- nor is a new entry added there
pub added_frame_refused : (es' ctrl' : List ℕ) → IsPartsFramed direct_config (λ b. b) no_entries occupied_controls (pair32 5 7) (Ok None) es' ctrl' → ⊥
added_frame_refused es' ctrl' (Ok None, is, frame) = parts_entry_in_occupied_slot_refused direct_config no_entries (pair32 5 7) es' ctrl' frame
added_frame_refused es' ctrl' (Ok (Some v), is, frame) = absurd cc
added_frame_refused es' ctrl' (Err e, is, frame) = absurd cc

pub added_refused : changes (Ok None) no_entries occupied_controls → ⊥
added_refused h = added_frame_refused no_entries occupied_controls h.frame
