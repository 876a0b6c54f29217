use Rattle.std.proofs.Common.{◌%◌, ◌^◌, ◌∙◌, ap, ap₂, length}
use Rattle.std.proofs.lemmas.Nat.{and_mask}
use Rattle.odht_base.specs.Xxh64.{plus, remainder, avalanche, xxh64, xxh64_low}
use Rattle.odht_base.proofs.hash.xxh64.Xxh64HashFnHashFn.hash.Goals as goal

pub returns : goal.returns
unfolding xxh64 xxh64_low
returns c =
    let opened = ap (λ x. plus x (length c.args.bytes.now)) c.add_stripes-opened.ensures.state in
    let left = ap₂ remainder opened c.add_stripes-opened.ensures.rest in
    and_mask c.mix_bits.result 32 ∙ ap (λ x. x % 2 ^ 32) (c.mix_bits.ensures ∙ ap avalanche (c.add_remainder.ensures ∙ left))
