-- Tables that are the same map.
--     IsSameMap P Q        P and Q have the same keys, with the same values
--     HasAll Q ps          Q has the key of each pair of ps, with the pair's value
use Rattle.std.specs.Prelude.{◌≡◌, ℕ, List, Some, All}
use Rattle.odht_raw.specs.Words.{map_of, Pair, Table}

abbrev pub IsSameMap : Table → Table → Type 0
IsSameMap P Q = (k : List ℕ) → map_of P k ≡ map_of Q k

abbrev pub HasAll : Table → List Pair → Type 0
HasAll Q ps = All (λ (p : Pair). map_of Q p.key ≡ Some p.value) ps
