use Rattle.std.proofs.Common.{◌≡◌, ◌*◌, ◌+◌, [], take, take_all, sym, subst, arith}
use Rattle.odht_table.specs.Commands.{IsHexText}
use Rattle.odht_table.proofs.HexTexts.{no_bytes, one_more}
use Rattle.odht_table.proofs.script.check.bytes_of.Goals as goal

pub loop-at-init : goal.loop-at-init
loop-at-init c = subst (IsHexText []) (sym c.in_ok-bytes.ensures.items) no_bytes

pub loop-at-preserved : goal.loop-at-preserved
loop-at-preserved c =
    subst (IsHexText (take (2 * (c.loop-at.at + 1)) c.args.digits.now)) (sym c.in_ok-push.ensures.items)
    (one_more c.args.digits.now c.loop-at.bytes.items c.loop-at.at c.digit_value-high.result c.digit_value-low.result c.loop-at.invariant
    (omega (arith, c.loop-at-test.true))
    c.digit_value-high.ensures.small c.digit_value-low.ensures.small c.digit_value-high.ensures.digit c.digit_value-low.ensures.digit)

-- all digits were read
pub returns : goal.returns
returns c =
    let all : take (2 * c.loop-at.at) c.args.digits.now ≡ c.args.digits.now = take_all (2 * c.loop-at.at) c.args.digits.now (omega (arith, c.requires.even, c.loop-at-test.false)) in
    subst (λ ds. IsHexText ds c.loop-at.bytes.items) all c.loop-at.invariant
