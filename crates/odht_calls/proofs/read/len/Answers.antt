use Rattle.std.proofs.Common.{◌∙◌, sym, ap}
use Rattle.odht_base.specs.Format.{format_of}
use Rattle.odht_base.specs.Decoded.{header_count}
use Rattle.odht_calls.proofs.lemmas.Refused.{refused_len}
use Rattle.odht_calls.proofs.lemmas.Sizes.{read_len}
use Rattle.odht_calls.proofs.read.len.Goals as goal

pub returns-in-Ok : goal.returns-in-Ok
returns-in-Ok g c =
    let F = format_of (g.L.Lengths.key_len c.args.lengths) (g.L.Lengths.value_len c.args.lengths) g.H.HashFn.hash in
    read_len F c.args.bytes.now c.args.item_count.now _ (sym c.in-Ok.ensures.err) (c.item_count.ensures ∙ ap header_count c.in-Ok.ensures.ok)

pub returns-in-Err : goal.returns-in-Err
returns-in-Err g c = refused_len _ _ c.in-Err.refused _ c.in-Err.ensures.err c.status_of.ensures _
