use Rattle.std.proofs.Common.{◌≡◌, List, ℕ, ◌++◌, length}
use Rattle.std.specs.Str.Parse.{AllDigits, digits_value}
use Rattle.odht_tool_core.proofs.digits.parse_short.Given as goal

-- the number is that of the digits in front of the rest
abbrev pub invariant-loop-eight : goal.invariant-loop-eight
invariant-loop-eight l = (front : List ℕ) × (front ++ l.rest ≡ l.digits) × AllDigits 10 front × (l.number ≡ digits_value 10 front)

abbrev pub decreases-loop-eight : goal.decreases-loop-eight
decreases-loop-eight l = length l.rest
