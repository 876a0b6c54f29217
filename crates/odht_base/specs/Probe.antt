-- The order in which a search from the home slot b goes through the s slots of a table.
--     probe_slot b s p     the slot at position p of the order
--     order b s            the slots at positions 0 to s - 1
-- Group j is the sixteen positions from 16 * j on. Its slots are adjacent modulo s, and its first slot is 16 * j slots
-- after the first slot of group j - 1.
use Rattle.std.specs.Prelude.{ℕ, ◌+◌, ◌*◌, ◌/◌, ◌%◌, List, map}
use Rattle.std.specs.List.{range_with_len}

abbrev pub probe_slot : ℕ → ℕ → ℕ → ℕ
probe_slot b s p =
    let j = p / 16 in
    let i = p % 16 in
    (b + 8 * j * (j + 1) + i) % s

unfoldable pub order : ℕ → ℕ → List ℕ
order b s = map (λ p. probe_slot b s p) (range_with_len 0 s)
