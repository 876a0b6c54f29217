use Rattle.std.proofs.Common.{take, flat_map}
use Rattle.std.specs.Fmt.{HasWritten, IsPlainFormatter}
use Rattle.odht_tool_core.specs.Refusals.{spaced_digits}
use Rattle.odht_tool_core.proofs.refusal.write_all_spaced.Given as goal

-- those of the bytes so far are written
abbrev pub invariant-loop-byte : goal.invariant-loop-byte
invariant-loop-byte g l =
    IsPlainFormatter l.initial.f → HasWritten g.W.Write.write_str_gives l.initial.f (flat_map spaced_digits (take l.byte-index l.bytes)) l.f
