use Rattle.std.proofs.Common.{◌≡◌, take, length, ◌*◌}
use Rattle.odht_tool_core.specs.Texts.{hex_text}
use Rattle.odht_tool_core.proofs.text.put_bytes.Given as goal

-- the digits of the bytes so far are there
abbrev pub invariant-loop-at : goal.invariant-loop-at
invariant-loop-at l = (take (2 * l.at) l.text ≡ hex_text (take l.at l.bytes)) × (length l.text ≡ length l.fn.text)
