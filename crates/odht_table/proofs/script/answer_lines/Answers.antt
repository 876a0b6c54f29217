use Rattle.std.proofs.Common.{length, sym, eqb-true}
use Rattle.odht_table.proofs.NewTexts.{OnOk-always}
use Rattle.odht_table.proofs.Puts.{my_coding}
use Rattle.odht_table.proofs.ScriptTexts.{up_to_start, up_to_next, up_to_end}
use Rattle.odht_table.proofs.script.answer_lines.Goals as goal

pub loop-rest-init : goal.loop-rest-init
loop-rest-init g c = up_to_start my_coding c.args.script.now (g.W.Write.contents c.args.output.now)

pub loop-rest-preserved : goal.loop-rest-preserved
loop-rest-preserved g c =
    let told = c.in_ok-answer.ensures in
    up_to_next my_coding c.args.script.now c.loop-rest.rest.now c.cut_line.result.0.now c.cut_line.result.1.now c.loop-rest.table c.answer.new.table
    (g.W.Write.contents c.args.output.now) (g.W.Write.contents c.loop-rest.output) (g.W.Write.contents c.answer.new.output) told.0
    c.loop-rest.invariant c.cut_line.ensures.line told.1 told.2

pub returns : goal.returns
returns g c =
    OnOk-always c.flush.result
    (up_to_end my_coding c.args.script.now c.loop-rest.rest.now c.loop-rest.table (g.W.Write.contents c.args.output.now) (g.W.Write.contents c.loop-rest.output) (g.W.Write.contents c.flush.new.self)
    c.loop-rest.invariant (eqb-true (length c.loop-rest.rest.now) 0 (sym c.loop-rest-test.ensures)) c.flush.ensures.bytes)
