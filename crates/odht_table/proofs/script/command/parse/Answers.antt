use Rattle.std.proofs.Common.{◌∙◌, sym, ap, subst, ◌<◌, ◌^◌, Some, None}
use Rattle.std.proofs.lemmas.Option.{none-some, same_Some}
use Rattle.odht_table.specs.declared.script.command.Command.TheVariants.{New, OnTable}
use Rattle.odht_table.specs.declared.script.command.Request.TheVariants.{Put}
use Rattle.odht_table.specs.Verbs.{IsVerbText}
use Rattle.odht_table.proofs.CommandTexts.{command_cut, uncut_command, narrow_kept, at_new, at_put, no_verb}
use Rattle.odht_table.proofs.script.command.parse.Goals as goal

pub returns-in_err-parse_verb-clause-misses_none : goal.returns-in_err-parse_verb-clause-misses_none
returns-in_err-parse_verb-clause-misses_none c command h =
    absurd (no_verb c.in-Some.name.now c.in-Some.numbers.now (λ verb e. none-some verb (c.in_err-parse_verb.ensures.misses_none verb e))
    command (command_cut c.args.line.now c.in-Some.name c.in-Some.numbers command c.in-Some.ensures h))

pub returns-in_err-max_item_count-in-Make-clause-misses_none : goal.returns-in_err-max_item_count-in-Make-clause-misses_none
returns-in_err-max_item_count-in-Make-clause-misses_none c command h =
    at_new c.in-Some.name.now c.in-Some.numbers.now _ (subst (IsVerbText c.in-Some.name.now) c.in-Make.is c.in_ok-parse_verb.ensures.reads)
    (λ m n p. absurd (none-some (m, n) (c.in_err-max_item_count-in-Make.ensures.misses_none m n p)))
    command (command_cut c.args.line.now c.in-Some.name c.in-Some.numbers command c.in-Some.ensures h)

pub returns-in_err-key-in-Insert-clause-misses_none : goal.returns-in_err-key-in-Insert-clause-misses_none
returns-in_err-key-in-Insert-clause-misses_none c command h =
    at_put c.in-Some.name.now c.in-Some.numbers.now _ (subst (IsVerbText c.in-Some.name.now) c.in-Insert.is c.in_ok-parse_verb.ensures.reads)
    (λ m n p l. absurd (none-some (m, n) (c.in_err-key-in-Insert.ensures.misses_none m n p)))
    command (command_cut c.args.line.now c.in-Some.name c.in-Some.numbers command c.in-Some.ensures h)

pub returns-in_err-value-in-Insert-clause-misses_none : goal.returns-in_err-value-in-Insert-clause-misses_none
returns-in_err-value-in-Insert-clause-misses_none c command h =
    at_put c.in-Some.name.now c.in-Some.numbers.now _ (subst (IsVerbText c.in-Some.name.now) c.in-Insert.is c.in_ok-parse_verb.ensures.reads)
    (λ m n p l.
    let same = same_Some (c.in_ok-key-in-Insert.key, c.in_ok-key-in-Insert.value) (m, n) (c.in_ok-key-in-Insert.ensures.misses_none m n p) in
    let low : c.in_ok-key-in-Insert.value < 2 ^ 32 = subst (λ v. v < 2 ^ 32) (sym (ap (λ pair. pair.1) same)) l in
    absurd (none-some c.in_ok-key-in-Insert.value (c.in_err-value-in-Insert.ensures.value ∙ sym (narrow_kept c.in_ok-key-in-Insert.value c.try_from.result c.try_from.ensures low))))
    command (command_cut c.args.line.now c.in-Some.name c.in-Some.numbers command c.in-Some.ensures h)

pub returns-in_ok-max_item_count-in-Make-clause-misses_none : goal.returns-in_ok-max_item_count-in-Make-clause-misses_none
returns-in_ok-max_item_count-in-Make-clause-misses_none c command h =
    at_new c.in-Some.name.now c.in-Some.numbers.now _ (subst (IsVerbText c.in-Some.name.now) c.in-Make.is c.in_ok-parse_verb.ensures.reads)
    (λ m n p.
    let same = same_Some (c.in_ok-max_item_count-in-Make.max_item_count, c.in_ok-max_item_count-in-Make.percent) (m, n) (c.in_ok-max_item_count-in-Make.ensures.misses_none m n p) in
    ap (λ pair. Some (New pair.0 pair.1)) same)
    command (command_cut c.args.line.now c.in-Some.name c.in-Some.numbers command c.in-Some.ensures h)

pub returns-in_ok-value-in-Insert-clause-misses_none : goal.returns-in_ok-value-in-Insert-clause-misses_none
returns-in_ok-value-in-Insert-clause-misses_none c command h =
    at_put c.in-Some.name.now c.in-Some.numbers.now _ (subst (IsVerbText c.in-Some.name.now) c.in-Insert.is c.in_ok-parse_verb.ensures.reads)
    (λ m n p l.
    let same = same_Some (c.in_ok-key-in-Insert.key, c.in_ok-key-in-Insert.value) (m, n) (c.in_ok-key-in-Insert.ensures.misses_none m n p) in
    let low : c.in_ok-key-in-Insert.value < 2 ^ 32 = subst (λ v. v < 2 ^ 32) (sym (ap (λ pair. pair.1) same)) l in
    let value = same_Some c.in_ok-value-in-Insert.value c.in_ok-key-in-Insert.value (c.in_ok-value-in-Insert.ensures.value ∙ sym (narrow_kept c.in_ok-key-in-Insert.value c.try_from.result c.try_from.ensures low)) in
    ap (λ v. Some (OnTable (Put c.in_ok-key-in-Insert.key v))) value ∙ ap (λ pair. Some (OnTable (Put pair.0 pair.1))) same)
    command (command_cut c.args.line.now c.in-Some.name c.in-Some.numbers command c.in-Some.ensures h)

pub returns-in_err-request-clause-misses_none : goal.returns-in_err-request-clause-misses_none
returns-in_err-request-clause-misses_none c command h =
    absurd (none-some command (uncut_command c.args.line.now c.in_default.ensures None c.in_err-request.ensures.misses_none command h))
