use Rattle.std.proofs.Common.{◌∙◌, ◌++◌, ◌/◌, ◌-◌, ap, arith}
use Rattle.std.specs.Fmt.{decimal}
use Rattle.odht_tool_core.proofs.Decimals.{last_four, four_fewer}
use Rattle.odht_tool_core.proofs.digits.put_number.Goals as goal

pub loop-rest-preserved : goal.loop-rest-preserved
loop-rest-preserved c =
    let l = c.loop-rest in
    let room = four_fewer l.rest (l.end - 4) c.loop-rest-test.true l.invariant.2 in (
      omega (arith, room.0),
      omega arith,
      room.1,
      c.put_four.array_long,
      ap (λ ds. decimal (l.rest / 10000) ++ ds) c.put_four.ensures ∙ last_four l.rest _ c.loop-rest-test.true l.auto.rest-fits.fits ∙ l.invariant.4,
    )

pub returns-clause-digits : goal.returns-clause-digits
returns-clause-digits c = c.put_front.ensures.digits ∙ c.loop-rest.invariant.4
