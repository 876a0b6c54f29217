use Rattle.std.proofs.Common.{◌∙◌, ap, sym}
use Rattle.odht_base.specs.Format.{format_of}
use Rattle.odht_base.specs.Decoded.{header_slots, header_factor}
use Rattle.odht_calls.proofs.lemmas.Refused.{refused_sizes}
use Rattle.odht_calls.proofs.lemmas.Sizes.{read_sizes}
use Rattle.odht_calls.proofs.read.sizes.Goals as goal

pub returns-in-Err : goal.returns-in-Err
returns-in-Err g c = refused_sizes _ _ c.in-Err.refused _ c.in-Err.ensures.err c.status_of.ensures _ _ _

pub returns : goal.returns
returns g c =
    let F = format_of (g.L.Lengths.key_len c.args.lengths) (g.L.Lengths.value_len c.args.lengths) g.H.HashFn.hash in
    let header = c.in-Ok.ensures.ok in
    read_sizes F c.args.bytes.now _ _ _ _ _ _ _ (sym c.in-Ok.ensures.err)
    (c.slot_count-slots.ensures ∙ ap header_slots header) (c.max_load_factor-factor.ensures ∙ ap header_factor header)
    c.max_item_count_for.ensures.value c.to_percent.ensures
