-- Numbers and their bytes.
use Rattle.std.proofs.Common.{◌≡◌, ◌<◌, ◌∙◌, ◌/◌, ◌%◌, ◌^◌, ℕ, zero, suc, sym, ap, refl, List, [], ◌∷◌, arith, pow-suc, length, All}
use Rattle.odht_base.specs.Numbers.{num, le_bytes}

-- the bytes of a number have that number
pub num-le_bytes : (w n : ℕ) → n < 256 ^ w → num (le_bytes w n) ≡ n
num-le_bytes zero n h = omega arith
num-le_bytes (suc w) n h =
    let power = pow-suc 256 w in
    let rest = num-le_bytes w (n / 256) (omega (arith, power)) in
    omega (arith, rest)

-- the number of a list of bytes has these bytes
pub le_bytes-num : (b : List ℕ) → All (λ x. x < 256) b → le_bytes (length b) (num b) ≡ b
le_bytes-num [] h = refl
le_bytes-num (x ∷ b) h =
    let low : x < 256 = h 0 x (omega arith) in
    let head : num (x ∷ b) % 256 ≡ x = omega (arith, low) in
    let tail : num (x ∷ b) / 256 ≡ num b = omega (arith, low) in
    λ i. head i ∷ (ap (le_bytes (length b)) tail ∙ le_bytes-num b (λ k d g. h (suc k) d (omega arith))) i

-- the same of w bytes
pub le_bytes-num_at : (w : ℕ) (b : List ℕ) → length b ≡ w → All (λ x. x < 256) b → le_bytes w (num b) ≡ b
le_bytes-num_at w b e h = ap (λ n. le_bytes n (num b)) (sym e) ∙ le_bytes-num b h
