-- Where bytes are cut: at the first place of a byte b.
--     IsCutAt b bytes front back   the bytes are the front, which has no b, a b and the back
use Rattle.std.specs.Prelude.{◌≡◌, ◌≢◌, ℕ, List, ◌∷◌, ◌++◌, All}

abbrev pub IsCutAt : ℕ → List ℕ → List ℕ → List ℕ → Type 0
IsCutAt b bytes front back = (bytes ≡ front ++ (b ∷ back)) × All (λ x. x ≢ b) front
