use Rattle.std.proofs.Common.{◌≡◌, ◌<◌, ◌≤◌, ◌-◌, ℕ, length, slice_index}
use Rattle.odht_base.proofs.bytes.arrays.is_zeros.Given as goal

-- each byte before `at` is zero
abbrev pub invariant-words : goal.invariant-words
invariant-words l = (l.at ≤ length l.bytes) × ((k : ℕ) → k < l.at → slice_index l.bytes k ≡ 0)

abbrev pub decreases-words : goal.decreases-words
decreases-words l = length l.bytes - l.at
