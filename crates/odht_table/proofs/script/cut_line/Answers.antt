use Rattle.odht_table.proofs.ScriptTexts.{first_line, last_line}
use Rattle.odht_table.proofs.script.cut_line.Goals as goal

pub returns-in-Some-clause-line : goal.returns-in-Some-clause-line
returns-in-Some-clause-line c = first_line c.args.script.now _ _ c.in-Some.ensures

pub returns-in-None-clause-line : goal.returns-in-None-clause-line
returns-in-None-clause-line c = last_line c.args.script.now c.in-None.ensures c.requires
