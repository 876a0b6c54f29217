use Rattle.std.proofs.Common.{rules, ◌≡◌, true, Err, map, sym, subst}
use Rattle.std.specs.Prelude.{IfErr}
use Rattle.odht_tool_writes.specs.DeleteLines.{TellsLine}
use Rattle.odht_tool_core.specs.DynTexts.{IsDynamicOf, dynamic_wanted}
use Rattle.odht_tool_writes.proofs.KeyLines.{next_failed, one_read}
use Rattle.odht_tool_writes.proofs.commands.delete_lines.read_lines.Goals as goal

pub returns-in_err-take_line-clause-err : goal.returns-in_err-take_line-clause-err
returns-in_err-take_line-clause-err g c =
    let R = IsDynamicOf c.args.form in
    let p = dynamic_wanted c.args.form in
    let input = g.I.Read.remaining c.args.input.now in
    let now = g.I.Read.remaining c.loop-number.input in
    let lines = map (λ line. line.items) c.loop-number.lines.items in
    let x = c.in_err-take_line.field-0.0 in
    let failed : c.from_residual.result ≡ Err x = search rules in
    subst (λ r. IfErr r (TellsLine R p input)) (sym failed)
    (next_failed R input now c.loop-number.number lines c.loop-number.keys c.loop-number.invariant p x c.in_err-take_line.ensures.err)

pub loop-number-preserved : goal.loop-number-preserved
loop-number-preserved g c =
    let R = IsDynamicOf c.args.form in
    let input = g.I.Read.remaining c.args.input.now in
    let now = g.I.Read.remaining c.loop-number.input in
    let then = g.I.Read.remaining c.take_line.new.input in
    let lines = map (λ line. line.items) c.loop-number.lines.items in
    let more = map (λ line. line.items) c.take_line.new.lines.items in
    let taken : c.in_ok-take_line.field-0 ≡ true = search rules in
    one_read R input now c.loop-number.number lines c.loop-number.keys c.loop-number.invariant then more c.take_line.new.keys (c.in_ok-take_line.ensures.more taken)
