use Rattle.std.proofs.Common.{◌<◌, ◌^◌}
use Rattle.odht_tool_core.proofs.Numerals.{IsReadTo}
use Rattle.odht_tool_core.proofs.digits.parse_rest.Given as goal

-- the number is that of the digits so far, and fits
abbrev pub invariant-loop-digit : goal.invariant-loop-digit
invariant-loop-digit l = IsReadTo l.fn.front l.digits l.digit-index l.number × (l.number < 2 ^ 64)
