use Rattle.std.proofs.Common.{◌<◌}
use Rattle.std.proofs.lemmas.List.Elements.{All-from_get_or}
use Rattle.odht_raw.proofs.memory_layout.allocation.prove_bytes.Goals as goal

pub returns : goal.returns
returns c = All-from_get_or (λ x. x < 256) _ 0 (λ i l. (c.type_inv.bytes i).fits)
