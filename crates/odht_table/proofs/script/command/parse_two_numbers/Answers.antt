use Rattle.std.proofs.Common.{refl, Some, None}
use Rattle.std.proofs.lemmas.Option.{none-some, same_Some}
use Rattle.odht_table.proofs.CommandTexts.{number_found, pair_cut}
use Rattle.odht_table.proofs.script.command.parse_two_numbers.Goals as goal

pub returns-in_err-first-clause-misses_none : goal.returns-in_err-first-clause-misses_none
returns-in_err-first-clause-misses_none c m n h =
    let cut = pair_cut c.args.words.now m n c.cut_at.result c.cut_at.ensures h in
    absurd (rw c.in_err-first.was at cut)

pub returns-in_err-first-2-clause-misses_none : goal.returns-in_err-first-2-clause-misses_none
returns-in_err-first-2-clause-misses_none c m n h =
    let cut = pair_cut c.args.words.now m n c.cut_at.result c.cut_at.ensures h in
    let texts = rw c.in_ok-first.was at cut in
    absurd (none-some m (number_found c.in_ok-first.first.now m None c.in_err-first-2.ensures texts.0))

pub returns-in_err-second-clause-misses_none : goal.returns-in_err-second-clause-misses_none
returns-in_err-second-clause-misses_none c m n h =
    let cut = pair_cut c.args.words.now m n c.cut_at.result c.cut_at.ensures h in
    let texts = rw c.in_ok-first.was at cut in
    absurd (none-some n (number_found c.in_ok-first.second.now n None c.in_err-second.ensures texts.1))

pub returns-clause-misses_none : goal.returns-clause-misses_none
returns-clause-misses_none c m n h =
    let cut = pair_cut c.args.words.now m n c.cut_at.result c.cut_at.ensures h in
    let texts = rw c.in_ok-first.was at cut in
    let first = same_Some _ m (number_found c.in_ok-first.first.now m (Some c.in_ok-first-2.first) c.in_ok-first-2.ensures texts.0) in
    let second = same_Some _ n (number_found c.in_ok-first.second.now n (Some c.in_ok-second.second) c.in_ok-second.ensures texts.1) in
    rw (first, second) refl
