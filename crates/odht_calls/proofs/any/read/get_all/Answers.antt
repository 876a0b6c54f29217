use Rattle.std.proofs.Common.{◌∙◌, sym}
use Rattle.odht_calls.proofs.lemmas.Layouts.{of_long}
use Rattle.odht_calls.proofs.lemmas.Pieces.{length-pieces}
use Rattle.odht_calls.proofs.lemmas.Refused.{accepted_get_all, refused_get_all}
use Rattle.odht_calls.proofs.any.read.get_all.Goals as goal

pub returns-in-Err : goal.returns-in-Err
returns-in-Err g c =
    let keys = length-pieces c.args.layout.key_len c.args.count c.args.keys.now in
    of_long (c.are_pieces.ensures.0 c.if-not-are_pieces.false, c.if-found-count.false)
    (refused_get_all _ _ c.in-Err.refused _ c.in-Err.ensures.err c.status_of.ensures _ _ _
    (length-pieces c.args.layout.value_len c.args.count c.args.values.now ∙ sym keys, c.if-found-count.false ∙ sym keys))

pub returns : goal.returns
returns g c =
    of_long (c.are_pieces.ensures.0 c.if-not-are_pieces.false, c.if-found-count.false)
    (accepted_get_all _ _ c.in_default.ensures.err _ _ _ _ _ _ (c.get_all.ensures.answers (c.are_pieces.ensures.0 c.if-not-are_pieces.false, c.if-found-count.false)))
