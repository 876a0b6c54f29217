-- Worked examples: tables that are the same map, whatever their slots.
use Rattle.std.proofs.Common.{◌≡◌, Bool, refl, Some, None, option_map, if◌then◌else◌, bytes_eq}
use Rattle.std.proofs.lemmas.Option.{none-some}
use Rattle.odht_raw.specs.Words.{le_bytes, Pair}
use Rattle.odht_base.proofs.examples.Configs.{pair64}
use Rattle.odht_header.proofs.examples.Apart.{some_unequal_lists}
use Rattle.odht_header.proofs.examples.Opened.{opened}
use Rattle.odht.specs.Equality.{IsSameMap}
use Rattle.odht.proofs.examples.SmallTables.{no_pairs, one_pair, one_of_32}

-- 1 to 2 in sixteen slots, and in 32
pub wide : IsSameMap (one_pair 2) (one_of_32 87 2)
unfolding opened
wide k = go (bytes_eq k (le_bytes 8 1))
  where
    go : (b : Bool)
        → option_map (λ (p : Pair). p.value) (if b then Some (pair64 1 2) else None) ≡ option_map (λ (p : Pair). p.value) (if b then Some (pair64 1 2) else None)
    go b = refl

-- another value of the key
pub other_value : IsSameMap (one_pair 2) (one_pair 3) → ⊥
unfolding opened
other_value h = some_unequal_lists _ _ refl (h (le_bytes 8 1))

-- a key more
pub key_more : IsSameMap no_pairs (one_pair 2) → ⊥
unfolding opened
key_more h = none-some _ (h (le_bytes 8 1))
