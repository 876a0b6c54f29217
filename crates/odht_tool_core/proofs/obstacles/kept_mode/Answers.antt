use Rattle.std.proofs.Common.{bit_and, ◌∙◌, sym, ap}
use Rattle.std.proofs.lemmas.Nat.{and_comm, and_assoc}
use Rattle.odht_tool_core.proofs.obstacles.kept_mode.Goals as goal
use lib.Bits.{and_self}

pub returns-clause-narrow : goal.returns-clause-narrow
returns-clause-narrow c =
    let m = c.args.mode in
    let mask = bit_and c.if-keeps_owner.of_owner c.if-keeps_group.of_group in
    and_comm (bit_and m mask) m ∙ sym (and_assoc mask m m) ∙ ap (λ x. bit_and x mask) (and_self m)
