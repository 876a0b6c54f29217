use Rattle.std.proofs.Common.{◌≡◌, ◌∙◌, ◌+◌, ◌-◌, ◌*◌, ◌++◌, ap, refl, arith, take, drop}
use Rattle.std.proofs.lemmas.List.{drop-drop}
use Rattle.odht_calls.specs.Pieces.{pieces}
use Rattle.odht_calls.proofs.lemmas.Pieces.{piece_put}
use Rattle.odht_calls.proofs.any.pieces.put_piece.Goals as goal

pub returns : goal.returns
returns c n low room =
    let len = c.args.len in
    let B = c.args.bytes.now in
    let at = c.args.index * len in
    let k = at + len - at in
    let past : drop k (drop at B) ≡ drop (at + len) B = drop-drop k at B ∙ ap (λ m. drop m B) (omega arith) in
    (λ j. pieces len n (take at B ++ (c.copy_from_slice.ensures.after j ++ past j))) ∙ piece_put len n c.args.index at B c.args.piece.now refl low room c.requires.len
