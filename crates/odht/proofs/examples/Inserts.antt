-- Worked examples: what a new table is, and what an insert leaves.
use Rattle.std.proofs.Common.{◌≡◌, ◌∙◌, Bool, true, false, refl, sym, ap, arith, Some, None, Ok, Err, option_map, if◌then◌else◌, bytes_eq, []}
use Rattle.std.proofs.lemmas.Option.{none-some}
use Rattle.odht_base.specs.Insert.{insert_owned}
use Rattle.odht_raw.specs.Words.{empty, factor_of, Full, le_bytes, map_of, Pair, Table, value_for}
use Rattle.odht_base.proofs.lemmas.Options.{some_same}
use Rattle.odht_base.proofs.examples.Configs.{my_config, pair64}
use Rattle.odht_header.proofs.examples.Opened.{opened}
use Rattle.odht.specs.Inserts.{IsFresh, IsInserted, IsInsertInto}
use Rattle.odht_header.proofs.examples.Apart.{unequal_lists, some_unequal_lists}
use Rattle.odht.proofs.examples.SmallTables.{number_coding, no_pairs, one_pair, full_of_none, one_of_32, bytes_of, no_pairs_image, one_pair_image}

-- ---- new tables
-- sixteen slots at 87 percent
pub a_fresh_table : IsFresh my_config 0 87 (bytes_of no_pairs)
unfolding opened
a_fresh_table = record { table = no_pairs; new = refl; image = no_pairs_image }

-- the bytes of a larger table
pub larger : IsFresh my_config 0 87 (bytes_of (empty 32 (factor_of 87))) → ⊥
unfolding opened
larger h = unequal_lists _ _ refl (h.image.bytes ∙ ap bytes_of (sym (some_same no_pairs h.table h.new)))

-- the table at no percent, which is not valid
pub no_percent : IsFresh my_config 0 0 (bytes_of (empty 16 0)) → ⊥
unfolding opened
no_percent h =
    omega (arith, h.image.valid.factor_low, ap (λ (T : Table). T.factor) (some_same (empty 16 0) h.table h.new))

-- ---- inserts
-- a new key
pub a_new_key : IsInserted my_config (insert_owned my_config) no_pairs (pair64 1 2) (bytes_of (one_pair 2))
unfolding opened
a_new_key = record {
  table = one_pair 2;
  inserted = refl;
  image = one_pair_image.0;
  maps = λ q. go (bytes_eq q (le_bytes 8 1));
}
  where
    go : (b : Bool)
        → option_map (λ (p : Pair). p.value) (if b then Some (pair64 1 2) else None) ≡ (if b then Some (le_bytes 4 2) else None)
    go true = refl
    go false = refl

-- no former value
pub no_former : None ≡ value_for number_coding (one_pair 2) 1 → ⊥
no_former h = none-some 2 h

-- the bytes of another table with the same map
pub not_inserted : IsInserted my_config (insert_owned my_config) no_pairs (pair64 1 2) (bytes_of (one_of_32 87 2)) → ⊥
unfolding opened
not_inserted h = unequal_lists _ _ refl (h.image.bytes ∙ ap bytes_of (sym (some_same (one_pair 2) h.table h.inserted)))

-- an insert that fails
pub refused : IsInserted my_config (λ P p. None) no_pairs (pair64 1 2) (bytes_of (one_pair 2)) → ⊥
refused h = none-some h.table h.inserted

-- an insert of another value
pub other_value : IsInserted my_config (λ P p. Some (one_pair 3)) no_pairs (pair64 1 2) (bytes_of (one_pair 3)) → ⊥
other_value h =
    some_unequal_lists _ _ refl (ap (λ T. map_of T (le_bytes 8 1)) (some_same (one_pair 3) h.table h.inserted) ∙ h.maps (le_bytes 8 1))

-- ---- inserts into bytes that cannot grow
-- a new key
pub into_none : IsInsertInto number_coding no_pairs 1 2 (Ok None) (bytes_of (one_pair 2))
unfolding opened a_new_key
into_none = record {
  former = refl;
  inserted = record { table = one_pair 2; inserted = refl; image = one_pair_image.0; maps = a_new_key.maps };
  full = (λ e. absurd cc, λ full. absurd (omega (arith, full.0)));
}

-- a table at its maximum
pub into_full : IsInsertInto number_coding full_of_none 1 2 (Err Full) (bytes_of full_of_none)
unfolding opened
into_full = record { former = tt; inserted = tt; full = (λ e. (refl, refl), λ full. refl) }

-- another former value
pub into_other_former : IsInsertInto number_coding (one_pair 2) 1 3 (Ok None) (bytes_of (one_pair 3)) → ⊥
into_other_former h = no_former h.former

-- no bytes of a table
pub into_no_image : IsInsertInto number_coding no_pairs 1 2 (Ok None) [] → ⊥
unfolding opened
into_no_image h =
    unequal_lists _ _ refl (h.inserted.image.bytes ∙ ap bytes_of (sym (some_same (one_pair 2) h.inserted.table h.inserted.inserted)))

-- full below the maximum
pub into_full_early : IsInsertInto number_coding no_pairs 1 2 (Err Full) (bytes_of no_pairs) → ⊥
unfolding opened
into_full_early h =
    let full = h.full.0 refl in
    omega (arith, full.0)

-- one more than the maximum
pub into_full_late : IsInsertInto number_coding full_of_none 1 2 (Ok None) (bytes_of (one_pair 2)) → ⊥
unfolding opened
into_full_late h =
    let full = h.full.1 (refl, refl) in
    absurd cc
