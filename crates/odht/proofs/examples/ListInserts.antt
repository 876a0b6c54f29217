-- Worked examples: lists of items that are inserted in turn.
use Rattle.std.proofs.Common.{◌≡◌, ◌∙◌, ℕ, Bool, true, false, refl, sym, ap, arith, List, ◌∷◌, Option, Some, None, Result, Ok, Err, option_map, lit<, if◌then◌else◌, bytes_eq, lit≤, replicate, ◌++◌, []}
use Rattle.std.specs.Option.{option_or}
use Rattle.std.proofs.lemmas.Option.{none-some}
use Rattle.odht_base.specs.Insert.{insert_owned, run}
use Rattle.odht_raw.specs.Words.{controls_of, empty, encoded, Error, factor_of, Full, image, le_bytes, map_of, Pair, slot_count, Table}
use Rattle.odht_base.proofs.lemmas.Options.{some_same}
use Rattle.odht_base.proofs.examples.Configs.{my_config, direct_config, pair64, pair32}
use Rattle.odht_raw.proofs.examples.FrameRefusals.{free_slot_refused}
use Rattle.odht_header.proofs.examples.Opened.{opened}
use Rattle.odht_raw.proofs.examples.Missing.{missing_at_home}
use Rattle.odht_raw.specs.Frame.{InsertFrame, entries_in}
use Rattle.std.specs.Result.{result_map_both}
use Rattle.odht.specs.Rebuilds.{IsBuilt}
use Rattle.odht.specs.Lists.{encoded_all, HasSizeOf, IsAfterInserts, IsRefusedAt, IsStoppedAt, IsFreshAfterInserts}
use Rattle.odht_header.proofs.examples.Apart.{unequal_lists, some_unequal_lists}
use Rattle.odht.proofs.examples.SmallTables.{number_coding, no_pairs, one_pair, one_of_32, bytes_of, one_pair_image}

-- ---- items as pairs, in their order
pub encoded_items : encoded_all number_coding ((1, 2) ∷ (3, 4) ∷ []) ≡ pair64 1 2 ∷ pair64 3 4 ∷ []
encoded_items = refl

-- ---- sizes
-- the pairs do not matter, but the slot count and the load factor do
pub same_size : HasSizeOf no_pairs (one_pair 2)
same_size = (refl, refl)

pub other_sizes : (HasSizeOf no_pairs (empty 32 (factor_of 87)) → ⊥)
    × (HasSizeOf no_pairs (empty 16 (factor_of 86)) → ⊥)
other_sizes = (λ h. omega (arith, h.0), λ h. omega (arith, h.1))

-- ---- inserted lists
-- the values of the pair 1 to 2, over none
abbrev value : Bool → Option (List ℕ)
value b = option_map (λ (p : Pair). p.value) (if b then Some (pair64 1 2) else None)

over_none : (b : Bool) → value b ≡ option_or (value b) None
over_none true = refl
over_none false = refl

-- of a table with room, whose size stays
pub a_list : IsAfterInserts my_config (insert_owned my_config) no_pairs (pair64 1 2 ∷ []) (bytes_of (one_pair 2))
unfolding opened
a_list = record {
  table = one_pair 2;
  runs = refl;
  image = one_pair_image.0;
  maps = λ k. over_none (bytes_eq k (le_bytes 8 1));
  stays = λ room. ((refl, refl), lit≤ tt);
}

-- inserts in another order: both keys have home 15, so the first one is there
abbrev two_in_turn : ℕ → ℕ → Table
two_in_turn k l = record {
  factor = factor_of 87;
  cells = Some (pair32 l l) ∷ replicate 14 None ++ Some (pair32 k k) ∷ [];
}

pub other_order : IsAfterInserts direct_config (insert_owned direct_config) no_pairs (pair32 15 15 ∷ pair32 31 31 ∷ []) (image direct_config (two_in_turn 31 15))
    → ⊥
unfolding opened
other_order h =
    unequal_lists _ _ refl (h.image.bytes ∙ ap (image direct_config) (sym (some_same (two_in_turn 15 31) h.table h.runs)))

-- an insert that fails
pub refused : IsAfterInserts my_config (λ P p. None) no_pairs (pair64 1 2 ∷ []) (bytes_of (one_pair 2)) → ⊥
refused h = none-some h.table h.runs

-- inserts of another value
pub other_value : IsAfterInserts my_config (λ P p. Some (one_pair 3)) no_pairs (pair64 1 2 ∷ []) (bytes_of (one_pair 3)) → ⊥
other_value h =
    some_unequal_lists _ _ refl (ap (λ T. map_of T (le_bytes 8 1)) (some_same (one_pair 3) h.table h.runs) ∙ h.maps (le_bytes 8 1))

-- inserts that change the slot count of a table with room
pub grown_with_room : IsAfterInserts my_config (λ P p. Some (one_of_32 87 2)) no_pairs (pair64 1 2 ∷ []) (bytes_of (one_of_32 87 2))
    → ⊥
grown_with_room h = omega (arith, (h.stays (lit≤ tt)).0.0, ap slot_count (some_same (one_of_32 87 2) h.table h.runs))

-- ---- errors
-- 1 is present and 3 is absent
pub refused_item : IsRefusedAt number_coding (one_of_32 6 2) ((1, 5) ∷ (3, 4) ∷ []) 1
unfolding opened
refused_item = record { item = (3, 4); at = refl; full = (refl, refl) }

-- a present key, though the insert of the next item fails
pub present_key : IsRefusedAt number_coding (one_of_32 6 2) ((1, 5) ∷ (3, 4) ∷ []) 0 → ⊥
present_key h =
    none-some _ (sym h.full.1 ∙ ap (λ (x : ℕ × ℕ). map_of (one_of_32 6 2) (le_bytes 8 x.0)) (sym (some_same (1, 5) h.item h.at)))

-- no such item
pub no_item : IsRefusedAt number_coding (one_of_32 6 2) ((1, 5) ∷ (3, 4) ∷ []) 2 → ⊥
no_item h = none-some _ h.at

-- a table with room
pub with_room : IsRefusedAt number_coding (one_pair 2) ((1, 5) ∷ (3, 4) ∷ []) 1 → ⊥
with_room h = omega (arith, h.full.0)

-- ---- errors on any bytes
-- at the maximum by the header an insert may fail
pub stopped_item : IsStoppedAt number_coding ((1, 5) ∷ (3, 4) ∷ []) 1 (bytes_of (one_of_32 6 2))
unfolding opened
stopped_item = record { item = (3, 4); at = refl; framed = (Err Full, refl, InsertFrame.full (lit≤ tt) (missing_at_home my_config (entries_in my_config (bytes_of (one_of_32 6 2))) (controls_of my_config (bytes_of (one_of_32 6 2))) (le_bytes 8 3) refl)) }

-- no such item
pub stopped_behind : IsStoppedAt number_coding ((1, 5) ∷ []) 1 (bytes_of (one_of_32 6 2)) → ⊥
stopped_behind h = none-some _ h.at

-- below the maximum, with a free slot
roomy : (p : Pair) (a : Result (Option (List ℕ)) Error) (D : List ℕ) → InsertFrame my_config (bytes_of no_pairs) p a D → (e : Error) → a ≡ Err e → ⊥
unfolding opened
roomy p a D (InsertFrame.full full absent) e is = omega (arith, full)
roomy p a D (InsertFrame.no_slot none absent) e is =
    free_slot_refused (controls_of my_config (bytes_of no_pairs)) 0 refl refl (none 0 (lit< tt))
roomy p a D (InsertFrame.overwrote i low same) e is = absurd cc
roomy p a D (InsertFrame.added i low free room) e is = absurd cc

pub stopped_with_room : IsStoppedAt number_coding ((1, 5) ∷ []) 0 (bytes_of no_pairs) → ⊥
stopped_with_room h = go h.framed.0 h.framed.1 h.framed.2
  where
    go : (a : Result (Option (List ℕ)) Error) → Err Full ≡ result_map_both (option_map number_coding.value_of) (λ e. e) a
        → InsertFrame my_config (bytes_of no_pairs) (encoded number_coding h.item.0 h.item.1) a (bytes_of no_pairs) → ⊥
    go (Err e) same frame = roomy _ (Err e) _ frame e refl
    go (Ok o) same frame = absurd cc

-- ---- lists inserted into a fresh table
-- one item in sixteen slots
pub a_fresh_list : IsFreshAfterInserts number_coding 87 ((1, 2) ∷ []) (bytes_of (one_pair 2))
unfolding opened a_list
a_fresh_list = record { start = no_pairs; new = refl; inserted = a_list; never_grown = (refl, refl) }

-- the table for the one item and its bytes
the_list : (B : List ℕ) → IsFreshAfterInserts number_coding 87 ((1, 2) ∷ []) B → B ≡ bytes_of (one_pair 2)
unfolding opened
the_list B h =
    let start : no_pairs ≡ h.start = some_same no_pairs h.start h.new in
    let runs : run (insert_owned my_config) no_pairs (pair64 1 2 ∷ []) ≡ Some h.inserted.table =
    ap (λ T. run (insert_owned my_config) T (pair64 1 2 ∷ [])) start ∙ h.inserted.runs in
    h.inserted.image.bytes ∙ ap bytes_of (sym (some_same (one_pair 2) h.inserted.table runs))

-- a larger table from the start
pub larger_start : IsFreshAfterInserts number_coding 87 ((1, 2) ∷ []) (bytes_of (one_of_32 87 2)) → ⊥
unfolding opened
larger_start h = unequal_lists _ _ refl (the_list _ h)

-- ---- what is built from scratch
-- a table for up to 13 items has sixteen slots
pub built : IsBuilt number_coding ((1, 2) ∷ []) 13 87 (bytes_of (one_pair 2))
unfolding opened a_list
built = record { start = no_pairs; new = refl; inserted = a_list }

-- without the item it is not built
pub built_empty : IsBuilt number_coding ((1, 2) ∷ []) 13 87 (bytes_of no_pairs) → ⊥
unfolding opened
built_empty h =
    let start : no_pairs ≡ h.start = some_same no_pairs h.start h.new in
    let runs : run (insert_owned my_config) no_pairs (pair64 1 2 ∷ []) ≡ Some h.inserted.table =
    ap (λ T. run (insert_owned my_config) T (pair64 1 2 ∷ [])) start ∙ h.inserted.runs in
    unequal_lists _ _ refl (h.inserted.image.bytes ∙ ap bytes_of (sym (some_same (one_pair 2) h.inserted.table runs)))
