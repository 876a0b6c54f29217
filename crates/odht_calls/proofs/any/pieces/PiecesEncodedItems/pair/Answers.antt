use Rattle.std.proofs.Common.{◌∙◌, ◌<◌, ◌≤◌, ◌+◌, ◌*◌, ap, sym, length, slice_get, arith}
use Rattle.odht_calls.specs.Pieces.{pieces, PieceItems}
use Rattle.odht_calls.proofs.lemmas.Pieces.{length-pairs, pair_within, zip_at}
use Rattle.odht_calls.proofs.any.pieces.PiecesEncodedItems.pair.Goals.{After-self}
use Rattle.odht_calls.proofs.any.pieces.PiecesEncodedItems.pair.Goals as goal

-- the index is one of a pair
low : (c : After-self) → c.args.index < c.self.inside.count
low c =
    let p = c.self.inside in
    let long = length-pairs p.layout.key_len p.layout.value_len p.count p.keys.now p.values.now in
    omega (arith, c.requires.within, long, ap (λ (x : PieceItems). length x.items) c.self.view_is)

-- whose bytes are there
within : (c : After-self) → (c.args.index * c.self.inside.layout.key_len + c.self.inside.layout.key_len ≤ length c.self.inside.keys.now) × (c.args.index * c.self.inside.layout.value_len + c.self.inside.layout.value_len ≤ length c.self.inside.values.now)
within c = let p = c.self.inside in pair_within p.layout.key_len p.layout.value_len p.count c.args.index p.keys.now p.values.now c.self.invariant (low c)

pub piece-key-requires : goal.piece-key-requires
piece-key-requires c = (within (goal.at.piece-key-requires c).After-self).0

pub piece-requires : goal.piece-requires
piece-requires c = (within (goal.at.piece-requires c).After-self).1

pub returns-clause-pair : goal.returns-clause-pair
returns-clause-pair c =
    let p = c.self.inside in
    let low = low (goal.at.returns-clause-pair c).After-self in
    ap (λ (x : PieceItems). slice_get x.items c.args.index) (sym c.self.view_is)
    ∙ zip_at (pieces p.layout.key_len p.count p.keys.now) (pieces p.layout.value_len p.count p.values.now) c.args.index _ _ (c.piece-key.ensures.value p.count low) (c.piece.ensures.value p.count low)
