-- The tables of digits, looked through.
use Rattle.std.proofs.Common.{◌≡◌, ℕ, ◌+◌, ◌*◌, ◌/◌, ◌%◌, ◌<◌, ◌==◌, Bool, true, ◌&&◌, get_or, refl}
use Rattle.std.proofs.lemmas.Bool.{agree_below_at, and_parts, eqb-true}
use Rattle.odht_tool_core.specs.declared.digits.TheConstants.{PAIRS}

-- the pair of p is its two digits
is_pair : ℕ → Bool
is_pair p = (get_or PAIRS (2 * p) 0 == 48 + p / 10) && (get_or PAIRS (2 * p + 1) 0 == 48 + p % 10)

pub pair_at : (p : ℕ) → p < 100 → (get_or PAIRS (2 * p) 0 ≡ 48 + p / 10) × (get_or PAIRS (2 * p + 1) 0 ≡ 48 + p % 10)
unfolding is_pair
pair_at p l =
    let both = and_parts (get_or PAIRS (2 * p) 0 == 48 + p / 10) (get_or PAIRS (2 * p + 1) 0 == 48 + p % 10) (agree_below_at is_pair (λ k. true) 100 p refl l) in
    (eqb-true _ _ both.0, eqb-true _ _ both.1)
