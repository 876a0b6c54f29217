use Rattle.std.proofs.Common.{take}
use Rattle.odht.specs.Dynamic.{dyn_coding}
use Rattle.odht_tool_core.specs.DynTexts.{dynamic_text}
use Rattle.odht_tool_core.specs.JsonAnswers.{answer_in}
use Rattle.odht_tool_reads.specs.GetParts.{AreKeysAnswered}
use Rattle.odht_tool_reads.proofs.lookups.tables.answer_each.Given as goal

-- the keys so far are answered
abbrev pub invariant-loop-at : goal.invariant-loop-at
invariant-loop-at g l =
    let f = g.F.Forms.pair l.style.forms in
    AreKeysAnswered (dyn_coding l.table g.H.HashFn.hash) (answer_in l.style.printed (dynamic_text f.0) (dynamic_text f.1)) l.table.store.0.now (take l.at l.keys)
    (g.O.Write.contents l.initial.output) (g.O.Write.contents l.output) l.is_all_found
