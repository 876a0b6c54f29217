use Rattle.std.proofs.Common.{◌≡◌, ◌∙◌, ◌^◌, map, length, ap, arith}
use Rattle.std.proofs.lemmas.List.{length-map}
use Rattle.std.proofs.lemmas.Simd.{mask_l-lt}
use Rattle.odht_base.specs.Decoded.{counts_as_free}
use Rattle.odht_base.proofs.lemmas.LaneBits.{free_mask}
use Rattle.odht_base.proofs.swisstable_group_query.free.free_bits.Goals as goal

pub returns-clause-bits : goal.returns-clause-bits
returns-clause-bits c = free_mask c.args.control c.requires

pub returns-clause-few : goal.returns-clause-few
returns-clause-few c =
    let power : 2 ^ length (map counts_as_free c.args.control) ≡ 65536 = ap (λ n. 2 ^ n) (length-map c.args.control counts_as_free ∙ c.requires) in
    omega (arith, free_mask c.args.control c.requires, mask_l-lt (map counts_as_free c.args.control), power)
