-- Worked examples: what lookups in the table of 1 to 2 return, in slot 5 of sixteen.
use Rattle.std.proofs.Common.{◌≡◌, ◌↔◌, zero, suc, refl, ap, subst, arith, lit≤, lit<, true, false, [], ◌∷◌, Some, None}
use Rattle.std.proofs.lemmas.Bool.{false≢true}
use Rattle.std.proofs.lemmas.Option.{none-some}
use Rattle.std.specs.Prelude.{IsSome, map}
use Rattle.odht_raw.specs.Words.{groups_read, le_bytes, map_of, Table, value_for}
use Rattle.odht_base.proofs.examples.Configs.{my_config}
use Rattle.odht_base.proofs.lemmas.Options.{some_same}
use Rattle.odht_header.specs.Coding.{HasStored}
use Rattle.odht_header.proofs.examples.Opened.{opened}
use Rattle.odht.specs.Gets.{IsGet, IsCountedGet, IsKnown, AreGot}
use Rattle.odht.specs.Lookups.{HaveStored}
use Rattle.odht.proofs.examples.SmallTables.{number_coding, one_pair, bytes_of, one_pair_image, only_one_pair}

-- the entry of slot 5
stored : HasStored number_coding (bytes_of (one_pair 2)) 1 2
unfolding opened
stored = (le_bytes 4 2, refl, (5, lit< tt, refl, refl))

-- the value of a key, and none of another
pub got : IsGet number_coding (bytes_of (one_pair 2)) 1 (Some 2) × IsGet number_coding (bytes_of (one_pair 2)) 3 None
unfolding opened
got = (
  record { on_valid = λ P is. ap (λ T. value_for number_coding T 1) (only_one_pair P is); on_any = stored },
  record { on_valid = λ P is. ap (λ T. value_for number_coding T 3) (only_one_pair P is); on_any = tt },
)

-- another value
pub other_value : IsGet number_coding (bytes_of (one_pair 2)) 1 (Some 3) → ⊥
unfolding opened
other_value h = omega (arith, some_same 3 2 (h.on_valid (one_pair 2) one_pair_image.0))

-- one group is read, and not two
pub counted : IsCountedGet number_coding (bytes_of (one_pair 2)) 1 (Some 2, 1)
unfolding opened
counted = record {
  on_valid = λ P is. ap (λ T. value_for number_coding T 1) (only_one_pair P is);
  groups = λ P is. ap (λ (T : Table). groups_read my_config T.cells (le_bytes 8 1)) (only_one_pair P is);
  on_any = stored;
  few = lit≤ tt;
}

pub two_groups : IsCountedGet number_coding (bytes_of (one_pair 2)) 1 (Some 2, 2) → ⊥
unfolding opened
two_groups h = let one : 2 ≡ 1 = h.groups (one_pair 2) one_pair_image.0 in omega (arith, one)

-- a key is known, and another is not
pub known : IsKnown number_coding (bytes_of (one_pair 2)) 1 true × IsKnown number_coding (bytes_of (one_pair 2)) 3 false
unfolding opened
known = (
  record {
    on_valid = λ P is. subst (λ T. (true ≡ true) ↔ IsSome (map_of T (le_bytes 8 1))) (only_one_pair P is) (λ t. refl, λ t. refl);
    on_any = λ t. (5, lit< tt, refl);
  },
  record {
    on_valid = λ P is. subst (λ T. (false ≡ true) ↔ IsSome (map_of T (le_bytes 8 3))) (only_one_pair P is) (λ t. absurd (false≢true t), λ e. absurd (false≢true e));
    on_any = λ t. absurd (false≢true t);
  },
)

pub not_known : IsKnown number_coding (bytes_of (one_pair 2)) 1 false → ⊥
unfolding opened
not_known h = false≢true ((h.on_valid (one_pair 2) one_pair_image.0).1 refl)

-- the values of two keys, in their order
pub all_got : AreGot number_coding (bytes_of (one_pair 2)) (1 ∷ 3 ∷ []) (Some 2 ∷ None ∷ [])
unfolding opened
all_got = record {
  on_valid = λ P is. ap (λ T. map (value_for number_coding T) (1 ∷ 3 ∷ [])) (only_one_pair P is);
  on_any = first;
}
  where
    first : HaveStored number_coding (bytes_of (one_pair 2)) (1 ∷ 3 ∷ []) (Some 2 ∷ None ∷ [])
    first zero k v key value =
        let same_key = some_same 1 k key in
        let same_value = some_same 2 v (some_same (Some 2) (Some v) value) in
        subst (λ n. HasStored number_coding (bytes_of (one_pair 2)) n v) same_key
        (subst (λ n. HasStored number_coding (bytes_of (one_pair 2)) 1 n) same_value stored)
    first (suc zero) k v key value = absurd (none-some v (some_same None (Some v) value))
    first (suc (suc i)) k v key value = absurd (none-some k key)

-- in another order
pub swapped : AreGot number_coding (bytes_of (one_pair 2)) (1 ∷ 3 ∷ []) (None ∷ Some 2 ∷ []) → ⊥
unfolding opened
swapped h = let first = h.on_valid (one_pair 2) one_pair_image.0 in cc
