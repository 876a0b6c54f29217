use Rattle.odht_tool_core.proofs.Numerals.{IsReadTo}
use Rattle.odht_tool_core.proofs.digits.parse_few.Given as goal

-- the number is that of the digits so far
abbrev pub invariant-loop-digit : goal.invariant-loop-digit
invariant-loop-digit l = IsReadTo l.fn.front l.digits l.digit-index l.number
