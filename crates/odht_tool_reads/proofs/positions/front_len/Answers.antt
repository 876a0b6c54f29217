use Rattle.std.proofs.Common.{◌≡◌, ◌∙◌, ◌+◌, ◌*◌, ap, slice_index}
use Rattle.odht_base.specs.Decoded.{header_slots}
use Rattle.odht_tool_reads.proofs.positions.front_len.Goals as goal

pub returns-then-len-found-clause-stated : goal.returns-then-len-found-clause-stated
returns-then-len-found-clause-stated c =
    let key : c.layout-layout.result.key_len ≡ slice_index c.args.header.now 5 = c.layout-layout.ensures.key ∙ ap (λ b. slice_index b 5) c.of-header.ensures in
    let value : c.layout-layout.result.value_len ≡ slice_index c.args.header.now 6 = c.layout-layout.ensures.value ∙ ap (λ b. slice_index b 6) c.of-header.ensures in
    c.in-Ok.ensures.len (λ b. 0)
    ∙ (λ i. 32 + header_slots (c.of-header.ensures i) * (key i + value i) + header_slots (c.of-header.ensures i) + 16)
