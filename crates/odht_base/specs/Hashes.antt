-- The two hash functions, on lists of bytes.
--     piece_lengths n      n as 8s, then at most one 4, one 2 and one 1
--     cut ws b             b cut from the front into pieces of these lengths
--     pieces b             b in pieces of 8, then at most one each of 4, of 2 and of 1
--     fx_step x w          the state x after a piece with the number w
--     fx b                 what `FxHashFn` answers
--     un b                 what `UnHashFn` answers: the number of the last four bytes
use Rattle.std.specs.Prelude.{ℕ, ◌-◌, ◌*◌, ◌/◌, ◌%◌, ◌^◌, List, [], ◌∷◌, ◌++◌, length, take, drop, replicate, map, fold, bit_xor}
use Rattle.std.specs.Int.{rotate_left, w64}
use Rattle.odht_base.specs.Numbers.{num}

abbrev pub piece_lengths : ℕ → List ℕ
piece_lengths n = replicate (n / 8) 8 ++ replicate (n / 4 % 2) 4 ++ replicate (n / 2 % 2) 2 ++ replicate (n % 2) 1

abbrev pub cut : List ℕ → List ℕ → List (List ℕ)
cut [] b = []
cut (w ∷ ws) b = take w b ∷ cut ws (drop w b)

unfoldable pub pieces : List ℕ → List (List ℕ)
pieces b = cut (piece_lengths (length b)) b

unfoldable pub fx_step : ℕ → ℕ → ℕ
fx_step x w = bit_xor (rotate_left w64 x 5) w * 0x517cc1b727220a95 % 2 ^ 64

unfoldable pub fx : List ℕ → ℕ
fx b = fold fx_step 0 (map num (pieces b)) % 2 ^ 32

unfoldable pub un : List ℕ → ℕ
un b = num (drop (length b - 4) b)
