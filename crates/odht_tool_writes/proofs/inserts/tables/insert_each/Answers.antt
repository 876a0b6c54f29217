use Rattle.std.proofs.Common.{◌≡◌, ◌<◌, ◌∙◌, ◌+◌, List, [], ◌∷◌, ◌++◌, ℕ, take, take_all, length, sym, ap, subst, arith}
use Rattle.std.proofs.lemmas.List.{take_more}
use Rattle.std.proofs.lemmas.Option.{get_or_from_slice_get}
use Rattle.odht_tool_writes.proofs.OwnedRuns.{AreRun, more_run, run_inserted}
use Rattle.odht_tool_writes.proofs.inserts.tables.insert_each.Goals as goal

pub loop-index-preserved : goal.loop-index-preserved
loop-index-preserved g c =
    let h = g.H.HashFn.hash in
    let t = c.loop-index.table in
    let pairs = c.args.pairs.now in
    let i = c.loop-index.index in
    let k = c.at.result.0.now in
    let v = c.at.result.1.now in
    let low : i < length pairs = omega (arith, c.loop-index-test.true, c.count-index-end.ensures) in
    let more : take (i + 1) pairs ≡ take i pairs ++ ((k, v) ∷ []) =
    take_more pairs i (k, v) low ∙ ap (λ x. take i pairs ++ (x ∷ [])) (get_or_from_slice_get pairs i (k, v) (k, v) c.at.ensures) in
    subst (AreRun h c.args.table.now c.insert.new.self) (sym more)
    (more_run h c.args.table.now t c.insert.new.self (take i pairs) k v c.loop-index.invariant c.in_default.ensures.inserted c.in_default.ensures.maps c.in_default.ensures.stays c.insert.ensures.layout)

pub returns-clause-inserted : goal.returns-clause-inserted
returns-clause-inserted g c =
    let pairs = c.args.pairs.now in
    let last : take c.loop-index.index pairs ≡ pairs = take_all c.loop-index.index pairs (omega (arith, c.loop-index-test.false, c.loop-index.auto.index-end, c.count-index-end.ensures)) in
    run_inserted g.H.HashFn.hash c.args.table.now c.loop-index.table pairs (subst (AreRun g.H.HashFn.hash c.args.table.now c.loop-index.table) last c.loop-index.invariant)
