-- A list of bytes B: a range of it, and a write to it.
--     bytes_at B at n          the n bytes from `at` on
--     overwritten_at B at d    B with the bytes d from `at` on
use Rattle.std.specs.Prelude.{ℕ, ◌+◌, List, ◌++◌, length, take, drop, slice_range}

abbrev pub bytes_at : List ℕ → ℕ → ℕ → List ℕ
bytes_at B at n = slice_range B at (at + n)

abbrev pub overwritten_at : List ℕ → ℕ → List ℕ → List ℕ
overwritten_at B at d = take at B ++ d ++ drop (at + length d) B
