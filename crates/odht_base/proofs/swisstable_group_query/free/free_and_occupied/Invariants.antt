use Rattle.std.proofs.Common.{◌≡◌, ◌≤◌, ◌%◌, ◌-◌, length, map, take}
use Rattle.std.specs.Simd.Lanes.{mask_l}
use Rattle.odht_base.specs.Decoded.{counts_as_free}
use Rattle.odht_base.proofs.swisstable_group_query.free.free_and_occupied.Given as goal

-- the bits are those of the first bytes
abbrev pub invariant-groups : goal.invariant-groups
invariant-groups l = record {
  within : l.at ≤ length l.control;
  groups : l.at % 16 ≡ 0;
  free : l.free ≡ mask_l (map counts_as_free (take l.at l.control));
}

abbrev pub decreases-groups : goal.decreases-groups
decreases-groups l = length l.control - l.at
