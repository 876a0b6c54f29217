-- The hash function XXH64 with seed 0, on lists of bytes, in the steps of its published description.
--     prime_1, prime_2      two of its five constants, prime_1 to prime_5
--     plus x y              x + y in 64 bits
--     times x y             x * y in 64 bits
--     whole w b             b in pieces of w bytes, as many as it has
--     rest w b              the bytes that follow these pieces
--     round a x             the accumulator a after the number x of eight bytes
--     accumulated k a b     the accumulator a after the k-th eight bytes of each stripe of 32 bytes
--     merged x a            the state x after the accumulator a is merged into it
--     converged a b c d     the state of four accumulators
--     opening b             the state after the stripes of b
--     add_eight x y         the state x after the number y of eight bytes that follow the stripes
--     add_four x y          the state x after the number y of four bytes
--     add_byte x y          the state x after the byte y
--     remainder x b         the state x after the bytes b that follow the stripes
--     avalanche x           the state x with its bits mixed
--     xxh64 b               XXH64 of b with seed 0, 64 bits
--     xxh64_low b           its low 32 bits, what `Xxh64HashFn` returns
use Rattle.std.specs.Prelude.{ℕ, ◌+◌, ◌-◌, ◌*◌, ◌/◌, ◌%◌, ◌^◌, List, length, drop, replicate, map, fold, bit_xor, nat_lt, if◌then◌else◌}
use Rattle.std.specs.Int.{rotate_left, w64}
use Rattle.odht_base.specs.Bytes.{bytes_at}
use Rattle.odht_base.specs.Hashes.{cut}
use Rattle.odht_base.specs.Numbers.{num}

abbrev pub prime_1 : ℕ
prime_1 = 0x9e3779b185ebca87

abbrev pub prime_2 : ℕ
prime_2 = 0xc2b2ae3d27d4eb4f

abbrev pub prime_3 : ℕ
prime_3 = 0x165667b19e3779f9

abbrev pub prime_4 : ℕ
prime_4 = 0x85ebca77c2b2ae63

abbrev pub prime_5 : ℕ
prime_5 = 0x27d4eb2f165667c5

abbrev pub plus : ℕ → ℕ → ℕ
plus x y = (x + y) % 2 ^ 64

abbrev pub times : ℕ → ℕ → ℕ
times x y = x * y % 2 ^ 64

unfoldable pub whole : ℕ → List ℕ → List (List ℕ)
whole w b = cut (replicate (length b / w) w) b

unfoldable pub rest : ℕ → List ℕ → List ℕ
rest w b = drop (length b / w * w) b

-- ---- stripes of 32 bytes: each has four lanes of eight bytes, one for each accumulator
unfoldable pub round : ℕ → ℕ → ℕ
round a x = times (rotate_left w64 (plus a (times x prime_2)) 31) prime_1

unfoldable pub accumulated : ℕ → ℕ → List ℕ → ℕ
accumulated k a b = fold round a (map (λ stripe. num (bytes_at stripe (8 * k) 8)) (whole 32 b))

unfoldable pub merged : ℕ → ℕ → ℕ
merged x a = plus (times (bit_xor x (round 0 a)) prime_1) prime_4

unfoldable pub converged : ℕ → ℕ → ℕ → ℕ → ℕ
converged a b c d =
    let sum : ℕ = plus (plus (plus (rotate_left w64 a 1) (rotate_left w64 b 7)) (rotate_left w64 c 12)) (rotate_left w64 d 18) in
    merged (merged (merged (merged sum a) b) c) d

-- with fewer than 32 bytes there are no accumulators; the seed is 0 in each of these beginnings
unfoldable pub opening : List ℕ → ℕ
opening b = if nat_lt (length b) 32 then prime_5 else converged (accumulated 0 (plus prime_1 prime_2) b) (accumulated 1 prime_2 b) (accumulated 2 0 b) (accumulated 3 (2 ^ 64 - prime_1) b)

-- ---- the bytes that follow the stripes, up to 31: pieces of eight, then of four, then of one
unfoldable pub add_eight : ℕ → ℕ → ℕ
add_eight x y = plus (times (rotate_left w64 (bit_xor x (round 0 y)) 27) prime_1) prime_4

unfoldable pub add_four : ℕ → ℕ → ℕ
add_four x y = plus (times (rotate_left w64 (bit_xor x (times y prime_1)) 23) prime_2) prime_3

unfoldable pub add_byte : ℕ → ℕ → ℕ
add_byte x y = times (rotate_left w64 (bit_xor x (times y prime_5)) 11) prime_1

unfoldable pub remainder : ℕ → List ℕ → ℕ
remainder x b =
    let after_eights : ℕ = fold add_eight x (map num (whole 8 b)) in
    let after_fours : ℕ = fold add_four after_eights (map num (whole 4 (rest 8 b))) in
    fold add_byte after_fours (rest 4 (rest 8 b))

-- ---- the whole
unfoldable pub avalanche : ℕ → ℕ
avalanche x =
    let y : ℕ = times (bit_xor x (x / 2 ^ 33)) prime_2 in
    let z : ℕ = times (bit_xor y (y / 2 ^ 29)) prime_3 in
    bit_xor z (z / 2 ^ 32)

unfoldable pub xxh64 : List ℕ → ℕ
xxh64 b = avalanche (remainder (plus (opening b) (length b)) (rest 32 b))

unfoldable pub xxh64_low : List ℕ → ℕ
xxh64_low b = xxh64 b % 2 ^ 32
