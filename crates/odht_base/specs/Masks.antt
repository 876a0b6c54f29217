-- A mask of 64 bits, as the list of the indices of its set bits, rising.
--     bits_from k i n      the set bits among the k lowest of n, the lowest of which has the index i
--     set_bits n           the indices of the set bits of n
--     set_bytes n          for each set bit the index of its byte
use Rattle.std.specs.Prelude.{ℕ, zero, suc, ◌+◌, ◌/◌, ◌%◌, ◌==◌, List, [], ◌∷◌, map, if◌then◌else◌}

unfoldable pub bits_from : ℕ → ℕ → ℕ → List ℕ
bits_from zero i n = []
bits_from (suc k) i n = if n % 2 == 1 then i ∷ bits_from k (i + 1) (n / 2) else bits_from k (i + 1) (n / 2)

abbrev pub set_bits : ℕ → List ℕ
set_bits n = bits_from 64 0 n

abbrev pub set_bytes : ℕ → List ℕ
set_bytes n = map (λ j. j / 8) (set_bits n)
