use Rattle.std.proofs.Common.{rules, ◌≡◌, ◌+◌, ◌^◌, ◌<◌, Err, IfSome, map, subst, sym, arith}
use Rattle.std.specs.Prelude.{string_bytes}
use Rattle.odht_tool_reads.specs.Gets.{AreFileWordsGot}
use Rattle.odht_tool_reads.specs.Positions.{ByPosition, IsAnsweredBy, IsFoundIn, table_read}
use Rattle.odht_tool_reads.proofs.FileAnswers.{found_words, front_given, short_words, unfit_words, valid_words}
use Rattle.odht_tool_reads.proofs.positions.get_words_at.Goals as goal

-- what is remembered is what the source gives
pub returns-clause-named : goal.returns-clause-named
returns-clause-named g c B h all =
    let a = c.args.asked.now in
    let front = front_given B c.read_front.new.room c.in-Some.few _ _ (omega (arith, c.in-Some.ensures.few, c.read_front.array_long)) (c.in-Some.ensures.given B h) c.unwrap_or.ensures in
    let found = subst (λ o. IfSome o (IsFoundIn B a.at a.hash a.kinds)) c.in-Some-2.is (c.in_ok-found.ensures.given B (h, front) all) in
    let fits = subst (λ o. IfSome o (λ f. f.at + f.len < 2 ^ 64)) c.in-Some-2.is c.in_ok-found.ensures.fits in
    found_words B a.at a.hash a.kinds c.in-Some-2.found found a.printed (map string_bytes c.args.words.now) (g.O.Write.contents c.args.output.now) (g.O.Write.contents c.words_of.new.output) c.words_of.result
    (c.words_of.ensures.given B (h, front) found.held fits)

pub returns-clause-valid : goal.returns-clause-valid
returns-clause-valid g c B h all s table =
    let a = c.args.asked.now in
    let old = g.O.Write.contents c.args.output.now in
    let new = g.O.Write.contents c.words_of.new.output in
    let ws = map string_bytes c.args.words.now in
    let front = front_given B c.read_front.new.room c.in-Some.few _ _ (omega (arith, c.in-Some.ensures.few, c.read_front.array_long)) (c.in-Some.ensures.given B h) c.unwrap_or.ensures in
    let found = subst (λ o. IfSome o (IsFoundIn B a.at a.hash a.kinds)) c.in-Some-2.is (c.in_ok-found.ensures.given B (h, front) all) in
    let fits = subst (λ o. IfSome o (λ f. f.at + f.len < 2 ^ 64)) c.in-Some-2.is c.in_ok-found.ensures.fits in
    valid_words (table_read B a.at) s table a.hash a.kinds a.printed ws old new c.words_of.result
    (found_words B a.at a.hash a.kinds c.in-Some-2.found found a.printed ws old new c.words_of.result (c.words_of.ensures.given B (h, front) found.held fits))

-- where slots fit no hash function the table has no shape
pub returns-in_err-found-clause-named : goal.returns-in_err-found-clause-named
returns-in_err-found-clause-named g c B h all =
    let a = c.args.asked.now in
    let x = c.in_err-found.field-0.0 in
    let ws = map string_bytes c.args.words.now in
    let old = g.O.Write.contents c.args.output.now in
    let failed : c.from_residual.result ≡ Err x = search rules in
    let front = front_given B c.read_front.new.room c.in-Some.few _ _ (omega (arith, c.in-Some.ensures.few, c.read_front.array_long)) (c.in-Some.ensures.given B h) c.unwrap_or.ensures in
    subst (ByPosition old old (IsAnsweredBy (table_read B a.at) a.hash a.kinds a.printed ws old old)) (sym failed)
    (unfit_words (table_read B a.at) a.hash a.kinds a.printed ws old x (c.in_err-found.ensures.unfit B (h, front) all))

pub returns-in_err-found-clause-valid : goal.returns-in_err-found-clause-valid
returns-in_err-found-clause-valid g c B h all s table =
    let a = c.args.asked.now in
    let x = c.in_err-found.field-0.0 in
    let ws = map string_bytes c.args.words.now in
    let old = g.O.Write.contents c.args.output.now in
    let failed : c.from_residual.result ≡ Err x = search rules in
    let front = front_given B c.read_front.new.room c.in-Some.few _ _ (omega (arith, c.in-Some.ensures.few, c.read_front.array_long)) (c.in-Some.ensures.given B h) c.unwrap_or.ensures in
    subst (ByPosition old old (AreFileWordsGot (table_read B a.at) a.hash a.kinds a.printed ws old old)) (sym failed)
    (valid_words (table_read B a.at) s table a.hash a.kinds a.printed ws old old (Err x)
    (unfit_words (table_read B a.at) a.hash a.kinds a.printed ws old x (c.in_err-found.ensures.unfit B (h, front) all)))

pub returns-clause-short : goal.returns-clause-short
returns-clause-short g c B h all s table =
    let a = c.args.asked.now in
    let ws = map string_bytes c.args.words.now in
    let front = front_given B c.read_front.new.room c.in-Some.few _ _ (omega (arith, c.in-Some.ensures.few, c.read_front.array_long)) (c.in-Some.ensures.given B h) c.unwrap_or.ensures in
    let found = subst (λ o. IfSome o (IsFoundIn B a.at a.hash a.kinds)) c.in-Some-2.is (c.in_ok-found.ensures.given B (h, front) all) in
    let fits = subst (λ o. IfSome o (λ f. f.at + f.len < 2 ^ 64)) c.in-Some-2.is c.in_ok-found.ensures.fits in
    short_words B a.at a.hash a.kinds c.in-Some-2.found found s table ws c.words_of.result (c.words_of.ensures.short B (h, front) found.held fits)
