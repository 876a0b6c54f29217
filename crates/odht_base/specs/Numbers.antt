-- Numbers as bytes, the lowest byte first.
--     num b            the number of the bytes b
--     le_bytes w n     the w bytes whose number is n, for n below 256 ^ w
--     IsBytes w b      b is w bytes, each below 256
use Rattle.std.specs.Prelude.{◌≡◌, ℕ, zero, suc, ◌+◌, ◌*◌, ◌/◌, ◌%◌, ◌<◌, List, [], ◌∷◌, length, All}

abbrev pub num : List ℕ → ℕ
num [] = 0
num (b ∷ bs) = b + 256 * num bs

abbrev pub le_bytes : ℕ → ℕ → List ℕ
le_bytes zero n = []
le_bytes (suc w) n = n % 256 ∷ le_bytes w (n / 256)

pub record IsBytes (w : ℕ) (b : List ℕ) : Type 0 where
  pub len : length b ≡ w
  pub each : All (λ x. x < 256) b
