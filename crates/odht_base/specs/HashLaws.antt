-- A hash has 32 bits: the law that `HashFn` asks for, of each hash function.
use Rattle.std.proofs.Common.{◌≡◌, ℕ, zero, suc, ◌-◌, ◌^◌, ◌<◌, ◌≤◌, List, [], ◌∷◌, length, drop, All, arith, length-drop, pow-suc, sym, subst}
use Rattle.std.proofs.lemmas.List.Elements.{All-head, All-tail, All-drop}
use Rattle.odht_base.specs.Hashes.{fx, un}
use Rattle.odht_base.specs.Numbers.{num, IsBytes}
use Rattle.odht_base.specs.Xxh64.{xxh64_low}

-- the number of w bytes is below 256 ^ w
pub num-lt : (w : ℕ) (b : List ℕ) → IsBytes w b → num b < 256 ^ w
num-lt w [] h = let e : w ≡ 0 = sym h.len in subst (λ n. 0 < 256 ^ n) (sym e) (omega arith)
num-lt zero (x ∷ b) h = cc
num-lt (suc w) (x ∷ b) h =
    let power = pow-suc 256 w in
    let rest = num-lt w b (record { len = omega (arith, h.len); each = All-tail (λ y. y < 256) x b h.each }) in
    let low : x < 256 = All-head (λ y. y < 256) x b h.each in
    omega (arith, power, rest, low)

-- `FxHashFn` keeps the low 32 bits of its state
pub fx-lt : (b : List ℕ) → fx b < 2 ^ 32
unfolding fx
fx-lt b = omega arith

-- `Xxh64HashFn` keeps the low 32 bits of XXH64
pub xxh64_low-lt : (b : List ℕ) → xxh64_low b < 2 ^ 32
unfolding xxh64_low
xxh64_low-lt b = omega arith

-- `UnHashFn` reads four bytes
pub un-lt : (b : List ℕ) → 4 ≤ length b → All (λ x. x < 256) b → un b < 2 ^ 32
unfolding un
un-lt b long small =
    let len : length (drop (length b - 4) b) ≡ 4 = omega (arith, length-drop (length b - 4) b) in
    num-lt 4 (drop (length b - 4) b) (record { len = len; each = All-drop (λ x. x < 256) (length b - 4) b small })
