-- Tests of a table for the examples, and the program's coding.
--     has_pairs n P        P has n pairs
--     has_value k v P      P has the value v for the key k
use Rattle.std.proofs.Common.{◌≡◌, ◌==◌, ℕ, Bool, refl, false}
use Rattle.std.specs.Option.{option_map_or}
use Rattle.odht_base.specs.Table.{Table, count}
use Rattle.odht_base.proofs.examples.Configs.{pair64}
use Rattle.odht_header.specs.Coding.{encoded, value_for}
use Rattle.odht_table.proofs.Puts.{my_coding}

abbrev pub has_pairs : ℕ → Table → Bool
has_pairs n P = count P == n

abbrev pub has_value : ℕ → ℕ → Table → Bool
has_value k v P = option_map_or (λ w. w == v) (value_for my_coding P k) false

-- the coding encodes this pair so
pub coded_pair : encoded my_coding 1 2 ≡ pair64 1 2
coded_pair = refl
