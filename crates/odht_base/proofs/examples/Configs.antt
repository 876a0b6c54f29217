-- The configurations of the examples, and short forms for their tables.
--     my_config                u64 to u32 with `FxHashFn`; pair64 k v is a pair of it
--     test_config              u32 to u32 with `FxHashFn`; pair32 k v is a pair of it
--     direct_config            u32 to u32 with `UnHashFn`, so that the hash of a key is the key
--     view_of F n p ps         a fresh table for n items at p percent, after inserts of the pairs into a view
--     owned_of F n p ps        the same of the owned table
--     squares n                the pairs (0, 0) to (n - 1, n - 1)
use Rattle.std.specs.Prelude.{ℕ, List, map, Option, option_and_then}
use Rattle.std.specs.List.{range_with_len}
use Rattle.odht_base.specs.Format.{Format}
use Rattle.odht_base.specs.Hashes.{fx, un}
use Rattle.odht_base.specs.Insert.{run, insert_owned, insert_view}
use Rattle.odht_base.specs.Numbers.{le_bytes}
use Rattle.odht_base.specs.Table.{Pair, Table, fresh}

abbrev pub my_config : Format
my_config = record { key_len = 8; value_len = 4; hash = fx }

abbrev pub test_config : Format
test_config = record { key_len = 4; value_len = 4; hash = fx }

abbrev pub direct_config : Format
direct_config = record { key_len = 4; value_len = 4; hash = un }

abbrev pub pair64 : ℕ → ℕ → Pair
pair64 k v = record { key = le_bytes 8 k; value = le_bytes 4 v }

abbrev pub pair32 : ℕ → ℕ → Pair
pair32 k v = record { key = le_bytes 4 k; value = le_bytes 4 v }

abbrev pub view_of : Format → ℕ → ℕ → List Pair → Option Table
view_of F n p ps = option_and_then (λ T. run (insert_view F) T ps) (fresh n p)

abbrev pub owned_of : Format → ℕ → ℕ → List Pair → Option Table
owned_of F n p ps = option_and_then (λ T. run (insert_owned F) T ps) (fresh n p)

abbrev pub squares : ℕ → List Pair
squares n = map (λ i. pair32 i i) (range_with_len 0 n)
