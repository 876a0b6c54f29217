use Rattle.std.proofs.Common.{take, flat_map}
use Rattle.std.specs.Io.KnownBytes.{Appends}
use Rattle.odht_tool_core.specs.Json.{json_byte}
use Rattle.odht_tool_core.proofs.json.write_escaped.Given as goal

-- the bytes so far are written
abbrev pub invariant-loop-byte : goal.invariant-loop-byte
invariant-loop-byte g l = Appends (g.O.Write.contents l.initial.output) (g.O.Write.contents l.output) (flat_map json_byte (take l.byte-index l.text))
