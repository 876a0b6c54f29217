-- Laws of a header that is written field by field.
use Rattle.std.proofs.Common.{◌≡◌, ◌≤◌, ◌∙◌, ◌+◌, ◌*◌, ◌/◌, ◌%◌, ◌^◌, ℕ, zero, suc, sym, ap, refl, List, [], ◌∷◌, ◌++◌, take, length, arith, pow-suc, w16, w64}
use Rattle.std.proofs.Math.Nat.{div-div-eq-div-mul}
use Rattle.std.specs.Int.{to_le_bytes, bytes_low_first}
use Rattle.odht_base.specs.Numbers.{le_bytes}
use Rattle.odht_base.specs.Bytes.{overwritten_at}
use Rattle.odht_base.specs.Format.{Format}
use Rattle.odht_base.specs.Image.{header_bytes}
use Rattle.odht_base.proofs.lemmas.ByteRanges.{take-overwritten_at_end}

-- one more field behind the first ones
pub field-step : (A B front field : List ℕ) (at to : ℕ) → take at A ≡ front → at ≤ length A → at + length field ≡ to → B ≡ overwritten_at A at field → take to B ≡ front ++ field
field-step A B front field at to before fits end written =
    sym (ap (λ n. take n B) end) ∙ ap (take (at + length field)) written ∙ take-overwritten_at_end A at field fits ∙ ap (λ h. h ++ field) before

-- the bytes from byte i upward are those of the quotient
low_first-le_bytes : (i w n : ℕ) → bytes_low_first (suc i) w n ≡ le_bytes w (n / 256 ^ suc i)
low_first-le_bytes i zero n = refl
low_first-le_bytes i (suc w) n =
    let power = pow-suc 256 (suc i) in
    let next : 256 ^ suc (suc i) ≡ 256 ^ suc i * 256 = omega (arith, power) in
    ap (λ t. n / 256 ^ suc i % 256 ∷ t) (low_first-le_bytes (suc i) w n ∙ ap (le_bytes w) (ap (λ m. n / m) next ∙ sym (div-div-eq-div-mul n (256 ^ suc i) 256)))

-- a number's bytes, lowest first
pub le_bytes-w64 : (n : ℕ) → to_le_bytes w64 n ≡ le_bytes 8 n
le_bytes-w64 n = ap (λ t. n % 256 ∷ t) (low_first-le_bytes 0 7 n)

-- likewise at two bytes
pub le_bytes-w16 : (n : ℕ) → to_le_bytes w16 n ≡ le_bytes 2 n
le_bytes-w16 n = ap (λ t. n % 256 ∷ t) (low_first-le_bytes 0 1 n)

-- the fields in turn are the header
pub fields-header_bytes : (F : Format) (s c f : ℕ) → (((((79 ∷ 68 ∷ 72 ∷ 84 ∷ 1 ∷ F.key_len ∷ F.value_len ∷ 32 ∷ []) ++ to_le_bytes w64 c) ++ to_le_bytes w64 s) ++ (0 ∷ 0 ∷ 0 ∷ 2 ∷ [])) ++ to_le_bytes w16 f) ++ (0 ∷ 0 ∷ []) ≡ header_bytes F s c f
fields-header_bytes F s c f =
    λ i. (((((79 ∷ 68 ∷ 72 ∷ 84 ∷ 1 ∷ F.key_len ∷ F.value_len ∷ 32 ∷ []) ++ le_bytes-w64 c i) ++ le_bytes-w64 s i) ++ (0 ∷ 0 ∷ 0 ∷ 2 ∷ [])) ++ le_bytes-w16 f i) ++ (0 ∷ 0 ∷ [])
