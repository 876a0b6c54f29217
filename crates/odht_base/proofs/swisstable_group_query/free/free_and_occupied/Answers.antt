use Rattle.std.proofs.Common.{◌≡◌, ◌∙◌, ◌+◌, ◌≤◌, ◌*◌, ◌^◌, ◌%◌, ap, arith, length, length-take, map, take}
use Rattle.std.proofs.Math.Seq.{take-length}
use lib.Lanes.{mask_l}
use Rattle.odht_base.specs.Decoded.{counts_as_free}
use Rattle.odht_base.specs.Masks.{set_bits}
use Rattle.odht_base.proofs.lemmas.ByteRanges.{length-bytes_at}
use Rattle.odht_base.proofs.lemmas.LaneBits.{in_lanes, free_set, free_fits, free_more, occupied_rest}
use Rattle.odht_base.proofs.swisstable_group_query.free.free_and_occupied.Goals.{After-free_bits, After-groups}
use Rattle.odht_base.proofs.swisstable_group_query.free.free_and_occupied.Goals as goal

-- sixteen bytes more
module _ (c : After-free_bits) where
  inside : c.groups.at + 16 ≤ length c.args.control.now
  inside = omega (arith, c.groups-test.true, c.requires.groups, c.groups.invariant.groups)

  more : c.groups.free + c.free_bits.result * 2 ^ c.groups.at % 18446744073709551616 ≡ mask_l (map counts_as_free (take (c.groups.at + 16) c.args.control.now))
  more =
      let long = length-bytes_at c.args.control.now c.groups.at 16 inside in
      free_more c.args.control.now c.groups.at c.groups.free c.free_bits.result c.requires.few inside c.groups.invariant.free
      (c.free_bits.ensures.bits ∙ ap (λ g. mask_l (map counts_as_free g)) (in_lanes _ long))

pub overflow_add-free : goal.overflow_add-free
overflow_add-free c =
    let front = free_fits (take (c.groups.at + 16) c.args.control.now) (omega (arith, length-take (c.groups.at + 16) c.args.control.now, c.requires.few)) in
    omega (arith, more c, front)

pub groups-preserved : goal.groups-preserved
groups-preserved c = record { within = inside c; groups = omega (arith, c.groups.invariant.groups); free = more c }

-- at the end
module _ (c : After-groups) where
  whole : c.groups.free ≡ mask_l (map counts_as_free c.args.control.now)
  whole =
      let end : c.groups.at ≡ length c.args.control.now = omega (arith, c.groups-test.false, c.groups.invariant.within) in
      c.groups.invariant.free ∙ ap (λ n. mask_l (map counts_as_free (take n c.args.control.now))) end ∙ ap (λ g. mask_l (map counts_as_free g)) (take-length c.args.control.now)

pub returns-clause-free : goal.returns-clause-free
returns-clause-free c = c.of_bits.ensures ∙ ap set_bits (whole (goal.at.returns-clause-free c).After-groups) ∙ free_set c.args.control.now c.requires.few

pub returns-clause-occupied : goal.returns-clause-occupied
returns-clause-occupied c =
    let n = length c.args.control.now in
    c.of_bits-2.ensures ∙ occupied_rest c.args.control.now n c.groups.free (λ i. n) c.requires.some c.requires.few c.requires.groups (whole (goal.at.returns-clause-occupied c).After-groups)
