use Rattle.std.proofs.Common.{◌∙◌, ◌-◌, ◌*◌, ◌^◌, ◌%◌, ap, map, bit_and}
use lib.Lanes.{mask_l}
use Rattle.odht_base.specs.Decoded.{counts_as_free}
use Rattle.odht_base.specs.Masks.{set_bits}
use Rattle.odht_base.proofs.lemmas.LaneBits.{in_lanes, occupied_first}
use Rattle.odht_base.proofs.swisstable_group_query.free.occupied.Goals as goal

pub returns : goal.returns
returns c =
    let n = c.args.count in
    c.of_bits.ensures ∙ ap (λ m. set_bits (1 * 2 ^ n % 2 ^ 64 - 1 - bit_and m (1 * 2 ^ n % 2 ^ 64 - 1))) (c.free_bits.ensures.bits ∙ ap (λ g. mask_l (map counts_as_free g)) (in_lanes c.args.control.now c.requires.len))
    ∙ occupied_first c.args.control.now n c.requires.len c.requires.count
