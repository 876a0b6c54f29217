use Rattle.std.proofs.Common.{◌∙◌, ap, sym, length}
use Rattle.odht_calls.specs.Pieces.{PieceItems}
use Rattle.odht_calls.proofs.lemmas.Pieces.{length-pairs}
use Rattle.odht_calls.proofs.any.pieces.PiecesEncodedItems.count.Goals as goal

pub returns : goal.returns
returns c =
    let p = c.self.inside in
    sym (length-pairs p.layout.key_len p.layout.value_len p.count p.keys.now p.values.now) ∙ ap (λ (x : PieceItems). length x.items) c.self.view_is
