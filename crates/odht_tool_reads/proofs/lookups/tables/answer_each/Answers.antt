use Rattle.std.proofs.Common.{rules, ◌≡◌, ◌∙◌, ◌+◌, ◌∷◌, [], ◌&&◌, Err, true, ap, length, subst, sym, take, arith, take_all}
use Rattle.std.specs.Prelude.{IfErr}
use Rattle.odht.specs.Dynamic.{dyn_coding}
use Rattle.odht_tool_core.specs.DynTexts.{dynamic_text}
use Rattle.odht_tool_core.specs.JsonAnswers.{answer_in}
use Rattle.odht_tool_reads.specs.GetParts.{AreKeysAnswered}
use Rattle.odht_tool_tables.proofs.Lines.{taken_more}
use Rattle.odht_tool_reads.proofs.KeyAnswers.{both_answered, none_answered}
use Rattle.odht_tool_reads.proofs.lookups.tables.answer_each.Goals as goal
use Rattle.odht_tool_reads.proofs.lookups.tables.answer_each.Goals.{then-is_found, else-is_found}

pub loop-at-init : goal.loop-at-init
loop-at-init g c =
    let f = g.F.Forms.pair c.args.style.forms in
    none_answered (dyn_coding c.args.table.now g.H.HashFn.hash) (answer_in c.args.style.printed (dynamic_text f.0) (dynamic_text f.1)) c.args.table.now.store.0.now (g.O.Write.contents c.args.output.now)

pub loop-at-preserved : goal.loop-at-preserved
loop-at-preserved g c =
    let coding = dyn_coding c.args.table.now g.H.HashFn.hash in
    let B = c.args.table.now.store.0.now in
    let f = g.F.Forms.pair c.args.style.forms in
    let line = answer_in c.args.style.printed (dynamic_text f.0) (dynamic_text f.1) in
    let keys = c.args.keys.now in
    let at = c.loop-at.at in
    let key = c.at.result.now in
    let old = g.O.Write.contents c.args.output.now in
    let mid = g.O.Write.contents c.loop-at.output in
    let new = g.O.Write.contents c.answer_one.new.output in
    let all = c.loop-at.is_all_found in
    let found = c.in_ok-is_found.is_found in
    let both : c.if-is_found.is_all_found ≡ (found && all) = elim c.if-is_found.branch [
      | then-is_found w ↦ w.is_all_found-is ∙ sym (ap (λ b. b && all) w.if-is_found.true)
      | else-is_found w ↦ w.is_all_found-is ∙ w.if-is_found.false ∙ sym (ap (λ b. b && all) w.if-is_found.false)
    ] in
    subst (λ ks. AreKeysAnswered coding line B ks old new c.if-is_found.is_all_found) (sym (taken_more keys at key c.at.ensures))
    (both_answered coding line B (take at keys) (key ∷ []) old mid new all found c.if-is_found.is_all_found c.loop-at.invariant c.in_ok-is_found.ensures.ok both)
