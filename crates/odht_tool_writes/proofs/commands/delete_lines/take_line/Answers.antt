use Rattle.std.proofs.Common.{subst}
use Rattle.odht_tool_writes.specs.DeleteLines.{TellsNumbered}
use Rattle.odht_tool_core.specs.DynTexts.{IsDynamicOf, dynamic_wanted}
use Rattle.odht_tool_core.specs.Keys.{IsNextKey, IsNoKeyLine}
use Rattle.odht_tool_writes.proofs.KeyLines.{no_key}
use Rattle.odht_tool_writes.proofs.commands.delete_lines.take_line.Goals as goal

-- the line that was read is no key, and the failure tells it
pub returns-in-NoKey-clause-err : goal.returns-in-NoKey-clause-err
returns-in-NoKey-clause-err g c =
    let R = IsDynamicOf c.args.form in
    let p = dynamic_wanted c.args.form in
    let old = g.I.Read.remaining c.args.input.now in
    let new = g.I.Read.remaining c.take_key.new.input in
    let line = c.take_key.new.line.items in
    let none : IsNoKeyLine R old new line =
    (subst (IsNextKey R old new line c.args.keys.now c.take_key.new.keys) c.in-NoKey.is c.in_ok-take_key.ensures.next).1 in
    let told = subst (λ t. TellsNumbered p c.args.number t c.wrong_line.result) c.as_slice.ensures.value c.wrong_line.ensures in
    no_key R p c.args.number old new line c.wrong_line.result none told
