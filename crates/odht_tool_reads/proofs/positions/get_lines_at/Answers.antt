use Rattle.std.proofs.Common.{rules, ◌≡◌, ◌+◌, ◌^◌, ◌<◌, Err, IfSome, subst, sym, arith}
use Rattle.odht_tool_reads.specs.PositionLines.{AreFileLinesRead, AreLinesReadBy}
use Rattle.odht_tool_reads.specs.Positions.{ByPosition, IsFoundIn, table_read}
use Rattle.odht_tool_reads.proofs.FileAnswers.{found_lines, front_given, unfit_lines, valid_lines}
use Rattle.odht_tool_reads.proofs.positions.get_lines_at.Goals as goal

-- what is remembered is what the source gives
pub returns-clause-named : goal.returns-clause-named
returns-clause-named g c B h all =
    let a = c.args.asked.now in
    let front = front_given B c.read_front.new.room c.in-Some.few _ _ (omega (arith, c.in-Some.ensures.few, c.read_front.array_long)) (c.in-Some.ensures.given B h) c.unwrap_or.ensures in
    let found = subst (λ o. IfSome o (IsFoundIn B a.at a.hash a.kinds)) c.in-Some-2.is (c.in_ok-found.ensures.given B (h, front) all) in
    let fits = subst (λ o. IfSome o (λ f. f.at + f.len < 2 ^ 64)) c.in-Some-2.is c.in_ok-found.ensures.fits in
    found_lines B a.at a.hash a.kinds c.in-Some-2.found found a.printed (g.I.Read.remaining c.args.input.now) (g.I.Read.remaining c.lines_of.new.input) (g.O.Write.contents c.args.output.now) (g.O.Write.contents c.lines_of.new.output) c.lines_of.result
    (c.lines_of.ensures.given B (h, front) found.held fits)

pub returns-clause-valid : goal.returns-clause-valid
returns-clause-valid g c B h all s table =
    let a = c.args.asked.now in
    let input = g.I.Read.remaining c.args.input.now in
    let now = g.I.Read.remaining c.lines_of.new.input in
    let old = g.O.Write.contents c.args.output.now in
    let new = g.O.Write.contents c.lines_of.new.output in
    let front = front_given B c.read_front.new.room c.in-Some.few _ _ (omega (arith, c.in-Some.ensures.few, c.read_front.array_long)) (c.in-Some.ensures.given B h) c.unwrap_or.ensures in
    let found = subst (λ o. IfSome o (IsFoundIn B a.at a.hash a.kinds)) c.in-Some-2.is (c.in_ok-found.ensures.given B (h, front) all) in
    let fits = subst (λ o. IfSome o (λ f. f.at + f.len < 2 ^ 64)) c.in-Some-2.is c.in_ok-found.ensures.fits in
    valid_lines (table_read B a.at) s table a.hash a.kinds a.printed input now old new c.lines_of.result
    (found_lines B a.at a.hash a.kinds c.in-Some-2.found found a.printed input now old new c.lines_of.result (c.lines_of.ensures.given B (h, front) found.held fits))

-- where slots fit no hash function the table has no shape
pub returns-in_err-found-clause-named : goal.returns-in_err-found-clause-named
returns-in_err-found-clause-named g c B h all =
    let a = c.args.asked.now in
    let x = c.in_err-found.field-0.0 in
    let now = g.I.Read.remaining c.args.input.now in
    let old = g.O.Write.contents c.args.output.now in
    let failed : c.from_residual.result ≡ Err x = search rules in
    let front = front_given B c.read_front.new.room c.in-Some.few _ _ (omega (arith, c.in-Some.ensures.few, c.read_front.array_long)) (c.in-Some.ensures.given B h) c.unwrap_or.ensures in
    subst (ByPosition old old (AreLinesReadBy (table_read B a.at) a.hash a.kinds a.printed now now old old)) (sym failed)
    (unfit_lines (table_read B a.at) a.hash a.kinds a.printed now now old x (c.in_err-found.ensures.unfit B (h, front) all))

pub returns-in_err-found-clause-valid : goal.returns-in_err-found-clause-valid
returns-in_err-found-clause-valid g c B h all s table =
    let a = c.args.asked.now in
    let x = c.in_err-found.field-0.0 in
    let now = g.I.Read.remaining c.args.input.now in
    let old = g.O.Write.contents c.args.output.now in
    let failed : c.from_residual.result ≡ Err x = search rules in
    let front = front_given B c.read_front.new.room c.in-Some.few _ _ (omega (arith, c.in-Some.ensures.few, c.read_front.array_long)) (c.in-Some.ensures.given B h) c.unwrap_or.ensures in
    subst (ByPosition old old (AreFileLinesRead (table_read B a.at) a.hash a.kinds a.printed now now old old)) (sym failed)
    (valid_lines (table_read B a.at) s table a.hash a.kinds a.printed now now old old (Err x)
    (unfit_lines (table_read B a.at) a.hash a.kinds a.printed now now old x (c.in_err-found.ensures.unfit B (h, front) all)))
