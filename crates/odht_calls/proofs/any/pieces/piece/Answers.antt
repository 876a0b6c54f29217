use Rattle.std.proofs.Common.{◌≡◌, ◌∙◌, ◌+◌, ◌-◌, ◌*◌, sym, ap, arith, take, drop, Some}
use Rattle.odht_calls.proofs.lemmas.Pieces.{piece_at}
use Rattle.odht_calls.proofs.any.pieces.piece.Goals as goal

pub returns-clause-value : goal.returns-clause-value
returns-clause-value c n low =
    let whole : c.args.index * c.args.len + c.args.len - c.args.index * c.args.len ≡ c.args.len = omega arith in
    piece_at c.args.len n c.args.index c.args.bytes.now low ∙ ap (λ k. Some (take k (drop (c.args.index * c.args.len) c.args.bytes.now))) (sym whole)
