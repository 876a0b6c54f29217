use Rattle.std.proofs.Common.{◌<◌}
use Rattle.std.proofs.lemmas.List.Elements.{All-from_get_or}
use Rattle.odht_base.proofs.lemmas.Words.{number_decides}
use Rattle.odht_base.proofs.bytes.arrays.is_same_quarter.Goals as goal

pub returns : goal.returns
returns c = number_decides c.args.left.now c.args.right.now c.args.at 2 c.read_u16.result c.read_u16-2.result c.requires.left c.requires.right
    (All-from_get_or (λ x. x < 256) _ 0 (λ i l. (c.type_inv.left i).fits)) (All-from_get_or (λ x. x < 256) _ 0 (λ i l. (c.type_inv.right i).fits)) c.read_u16.ensures c.read_u16-2.ensures
