use Rattle.std.proofs.Common.{◌≡◌, take, length, ◌*◌}
use Rattle.odht_tool_core.specs.Texts.{WritesBytes}
use Rattle.odht_tool_core.proofs.text.parse_in_vectors.Given as goal

-- the bytes so far are those of twice as many digits
abbrev pub invariant-loop-at : goal.invariant-loop-at
invariant-loop-at g l = WritesBytes (take (2 * l.at) l.word) (take l.at l.bytes) × (length l.bytes ≡ g.row.N)
