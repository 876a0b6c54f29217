use Rattle.std.proofs.Common.{◌∙◌}
use Rattle.odht_base.specs.Format.{format_of}
use Rattle.odht_base.specs.Image.{header_bytes}
use Rattle.odht_header.proofs.header.write_header.Goals as goal

pub returns : goal.returns
returns g c =
    let hash = g.C.H.HashFn.hash in
    c.write_header.ensures hash
    ∙ (λ i. header_bytes (format_of (c.of.ensures.key i) (c.of.ensures.value i) hash) c.args.slot_count c.args.item_count c.args.max_load_factor.0)
