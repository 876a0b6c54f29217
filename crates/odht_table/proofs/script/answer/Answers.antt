use Rattle.std.proofs.Common.{sym, subst, Some, None}
use Rattle.std.specs.Prelude.{codes}
use Rattle.std.proofs.lemmas.Option.{none-some}
use Rattle.odht_table.specs.Answers.{line_of}
use Rattle.odht_table.specs.Commands.{IsCommandText}
use Rattle.odht_table.specs.Scripts.{IsLineAnswered}
use Rattle.odht_table.specs.declared.script.command.Command.{Command}
use Rattle.odht_table.specs.Scripts.IsLineAnswered.{other, renewed, no_table, answered}
use Rattle.odht_table.proofs.Puts.{my_coding}
use Rattle.odht_table.proofs.script.answer.Goals as goal

-- a line that is no command
pub returns-in_default : goal.returns-in_default
returns-in_default g c =
    let told = c.answer_check.ensures in
    let none = λ (command : Command) (is : IsCommandText c.args.line.now command). absurd (none-some command (c.in_default.ensures.misses_none command is)) in
    (line_of told.0, other c.args.table.now told.0 none told.1, told.2)

-- a fresh table
pub returns-in-New : goal.returns-in-New
returns-in-New g c =
    let told = c.renew.ensures in
    let line = subst (IsCommandText c.args.line.now) c.in-New.is c.in-Some.ensures.reads in
    (line_of told.0, renewed _ _ c.args.table.now c.renew.new.table told.0 line told.1, told.2)

-- a request before the first table
pub returns-in-None : goal.returns-in-None
returns-in-None g c =
    let line = subst (IsCommandText c.args.line.now) c.in-OnTable.is c.in-Some.ensures.reads in
    let text = line_of (codes "no table") in
    let before : IsLineAnswered my_coding c.args.line.now None text None = no_table _ line in
    (text, subst (λ o. IsLineAnswered my_coding c.args.line.now o text o) (sym c.in-None.is) before, c.writeln.ensures.bytes)

-- a request to the table
pub returns-in-Some-table : goal.returns-in-Some-table
returns-in-Some-table g c =
    let line = subst (IsCommandText c.args.line.now) c.in-OnTable.is c.in-Some.ensures.reads in
    let told = c.serve.ensures.answered in
    let after : IsLineAnswered my_coding c.args.line.now (Some c.in-Some-table.table) told.0 (Some c.serve.new.table) =
    answered c.in-OnTable.request c.in-Some-table.table c.serve.new.table told.0 line told.1 in
    (told.0, subst (λ o. IsLineAnswered my_coding c.args.line.now o told.0 (Some c.serve.new.table)) (sym c.in-Some-table.is) after, told.2)
