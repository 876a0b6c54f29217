use Rattle.std.proofs.Common.{◌≡◌, ◌<◌, ◌-◌, ℕ, true, length}
use Rattle.odht_base.specs.Bounds.{ends_within}
use Rattle.odht_raw.proofs.raw_table.bound.first_longer.Given as goal

-- searches from the homes so far end in time
abbrev pub invariant-homes : goal.invariant-homes
invariant-homes l = (b : ℕ) → b < l.home → b < length l.control - 16 → ends_within l.control l.groups b ≡ true

abbrev pub decreases-homes : goal.decreases-homes
decreases-homes l = length l.control - 16 - l.home
