use Rattle.std.proofs.Common.{take, ◌*◌}
use Rattle.odht_table.specs.Commands.{IsHexText}
use Rattle.odht_table.proofs.script.check.bytes_of.Given as goal

-- the bytes so far are those of twice as many digits
abbrev pub invariant-loop-at : goal.invariant-loop-at
invariant-loop-at l = IsHexText (take (2 * l.at) l.digits) l.bytes.items
