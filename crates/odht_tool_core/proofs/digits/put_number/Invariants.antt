use Rattle.std.proofs.Common.{◌≡◌, ◌^◌, ◌-◌, ◌≤◌, ◌<◌, ◌++◌, length, drop}
use Rattle.std.specs.Fmt.{decimal}
use Rattle.odht_tool_core.proofs.digits.put_number.Given as goal

-- the digits behind those of the rest are there, and the others have room, also with three zeros in front
abbrev pub invariant-loop-rest : goal.invariant-loop-rest
invariant-loop-rest l = (5 ≤ l.end) × (l.end ≤ 24) × (l.rest < 10 ^ (l.end - 4)) × (length l.text ≡ 24) × (decimal l.rest ++ drop l.end l.text ≡ decimal l.fn.number)

abbrev pub decreases-loop-rest : goal.decreases-loop-rest
decreases-loop-rest l = l.rest
