-- Worked examples: the table of a list of items, and lists that no table is large enough for.
use Rattle.std.proofs.Common.{◌≡◌, ◌∙◌, ◌^◌, ℕ, Bool, true, false, refl, sym, ap, arith, length, List, [], ◌∷◌, Some, None, option_map, if◌then◌else◌, bytes_eq, lit≤}
use Rattle.std.proofs.lemmas.Option.{none-some}
use Rattle.odht_base.specs.Insert.{insert_owned, run}
use Rattle.odht_raw.specs.Words.{factor_of, le_bytes, map_of, Pair, slot_count, Table}
use Rattle.odht_base.specs.Load.{slots_for}
use Rattle.odht_base.proofs.lemmas.Options.{some_same}
use Rattle.odht_base.proofs.examples.Configs.{my_config, pair64}
use Rattle.odht_header.proofs.examples.Apart.{some_unequal_lists}
use Rattle.odht_header.proofs.examples.Opened.{opened}
use Rattle.odht.specs.Plain.{AreTooMany, IsCollectedIn}
use Rattle.odht.proofs.examples.SmallTables.{number_coding, no_pairs, one_pair, one_of_32}

-- ---- the table of the items
-- a key that occurs twice has its later value
pub collected : IsCollectedIn number_coding 87 ((1, 2) ∷ (1, 3) ∷ []) (one_pair 3)
unfolding opened
collected = record {
  start = no_pairs;
  new = refl;
  inserted = refl;
  never_grown = (refl, refl);
  few = lit≤ tt;
  last_values = λ k. go (bytes_eq k (le_bytes 8 1));
}
  where
    go : (b : Bool) → option_map (λ (p : Pair). p.value) (if b then Some (pair64 1 3) else None)
        ≡ option_map (λ (p : Pair). p.value) (if b then Some (pair64 1 3) else (if b then Some (pair64 1 2) else None))
    go true = refl
    go false = refl

-- `new`: at no percent there is no table for an item
pub no_percent : (Q : Table) → IsCollectedIn number_coding 0 ((1, 2) ∷ []) Q → ⊥
unfolding opened
no_percent Q h = none-some h.start h.new

-- `inserted`: a table of another value is left by no such inserts
pub not_inserted : IsCollectedIn number_coding 87 ((1, 2) ∷ []) (one_pair 3) → ⊥
unfolding opened
not_inserted h =
    let start : no_pairs ≡ h.start = some_same no_pairs h.start h.new in
    let left : Some (one_pair 2) ≡ Some (one_pair 3) = ap (λ P. run (insert_owned my_config) P (pair64 1 2 ∷ [])) start ∙ h.inserted in
    some_unequal_lists _ _ refl (ap (λ (T : Table). map_of T (le_bytes 8 1)) (some_same (one_pair 2) (one_pair 3) left))

-- `never_grown`: the table has not grown to 32 slots
pub grown : IsCollectedIn number_coding 87 ((1, 2) ∷ []) (one_of_32 87 2) → ⊥
unfolding opened
grown h = omega (arith, h.never_grown.0, ap slot_count (some_same no_pairs h.start h.new))

-- `few`: no items leave no pair
pub too_many_pairs : IsCollectedIn number_coding 87 [] (one_pair 2) → ⊥
unfolding opened
too_many_pairs h = omega (arith, h.few)

-- `last_values`: the value is the later one
pub earlier_value : IsCollectedIn number_coding 87 ((1, 2) ∷ (1, 3) ∷ []) (one_pair 2) → ⊥
unfolding opened
earlier_value h = some_unequal_lists _ _ refl (h.last_values (le_bytes 8 1))

-- ---- lists that are too long
-- 2^63 items are too many for any table, and one is not
pub too_many : (items : List (ℕ × ℕ)) → length items ≡ 2 ^ 63 → AreTooMany number_coding 87 items
unfolding opened slots_for
too_many items long s enough = absurd (none-some s (ap (λ n. slots_for n (factor_of 87)) (sym long) ∙ enough))

pub one_is_few : AreTooMany number_coding 87 ((1, 2) ∷ []) → ⊥
unfolding opened slots_for
one_is_few large = let long = large 16 refl in omega (arith, long)
