-- Worked examples: how many groups a search reads.
use Rattle.std.proofs.Common.{◌≡◌, ◌++◌, refl, replicate, Some, None}
use Rattle.odht_header.proofs.examples.Opened.{opened}
use Rattle.odht_tool_core.specs.GroupNumbers.{groups_to, groups_to_free, capped}

-- among 64 slots, of a key whose home is slot 0: the groups begin at the slots 0, 16, 48 and 32
pub groups : (groups_to 0 64 15 ≡ 1) × (groups_to 64 64 16 ≡ 2) × (groups_to 0 64 63 ≡ 3) × (groups_to 0 64 32 ≡ 4)
unfolding opened groups_to
groups = (refl, refl, refl, refl)

-- among 64 slots, of which those from 32 on are free: from slot 0 the groups at 0 and 16 are passed, and the one at 48 is
-- not; the last slots wrap to the first in the mirror; with no free slot all four are read
pub misses : (groups_to_free (replicate 32 5 ++ replicate 32 255 ++ replicate 16 5) 0 ≡ 3)
    × (groups_to_free (replicate 32 5 ++ replicate 32 255 ++ replicate 16 5) 32 ≡ 1)
    × (groups_to_free (replicate 63 5 ++ replicate 1 128 ++ replicate 16 5) 63 ≡ 1)
    × (groups_to_free (replicate 80 5) 7 ≡ 4)
unfolding opened groups_to_free
misses = (refl, refl, refl, refl)

-- one more than the bound stands for all that is above it
pub bounds : (capped (Some 128) 128 ≡ 128) × (capped (Some 128) 129 ≡ 129) × (capped (Some 128) 70000 ≡ 129) × (capped None 70000 ≡ 70000)
bounds = (refl, refl, refl, refl)
