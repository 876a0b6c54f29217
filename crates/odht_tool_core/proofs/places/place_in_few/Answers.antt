use Rattle.std.proofs.Common.{◌==◌, sym, arith, eq-eqb}
use Rattle.std.proofs.lemmas.List.Sums.{position_or_len_is}
use Rattle.odht_tool_core.proofs.places.place_in_few.Goals as goal

pub returns-else-bytes-at-clause-place : goal.returns-else-bytes-at-clause-place
returns-else-bytes-at-clause-place c =
    sym (position_or_len_is (λ x. x == c.args.byte) c.args.bytes.now c.loop-at.at 0 c.loop-at.invariant.0 c.loop-at.invariant.1 (λ l. eq-eqb _ _ c.if-bytes-at.false))

pub returns-after-loop-at-clause-place : goal.returns-after-loop-at-clause-place
returns-after-loop-at-clause-place c =
    sym (position_or_len_is (λ x. x == c.args.byte) c.args.bytes.now c.loop-at.at 0 c.loop-at.invariant.0 c.loop-at.invariant.1 (λ l. absurd (omega (arith, c.loop-at-test.false))))
