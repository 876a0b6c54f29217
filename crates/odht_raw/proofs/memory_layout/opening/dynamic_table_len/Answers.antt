use Rattle.std.proofs.Common.{◌≡◌, ◌∙◌, ◌≤◌, sym, ap, subst, arith, length}
use Rattle.std.specs.Prelude.{IfOk}
use Rattle.odht_raw.specs.Words.{Format, format_of, front_header_refusal, header_slots, image_len}
use Rattle.odht_raw.proofs.lemmas.Prefixes.{IsFront-long, answered_front, answered_only, prefix_refusal-short, prefix_refusal-header}
use Rattle.odht_raw.proofs.memory_layout.opening.dynamic_table_len.Goals as goal

pub returns-then-found-lt-HEADER_SIZE-clause-only : goal.returns-then-found-lt-HEADER_SIZE-clause-only
returns-then-found-lt-HEADER_SIZE-clause-only c hash n is =
    let F : Format = format_of c.args.layout.key_len c.args.layout.value_len hash in
    absurd (omega (arith, IsFront-long F c.args.bytes.now n is, c.if-found-lt-HEADER_SIZE.true))

pub returns-then-found-lt-HEADER_SIZE-clause-err : goal.returns-then-found-lt-HEADER_SIZE-clause-err
returns-then-found-lt-HEADER_SIZE-clause-err c hash =
    let F : Format = format_of c.args.layout.key_len c.args.layout.value_len hash in
    sym (prefix_refusal-short F c.args.bytes.now c.if-found-lt-HEADER_SIZE.true)

pub returns-clause-ok : goal.returns-clause-ok
returns-clause-ok c hash =
    let F : Format = format_of c.args.layout.key_len c.args.layout.value_len hash in
    let B = c.args.bytes.now in
    let len = subst (λ b. IfOk c.layout_len.result (λ n. n ≡ image_len F (header_slots b))) c.of.ensures (c.layout_len.ensures.len hash) in
    let err = c.layout_len.ensures.err hash ∙ ap (front_header_refusal F (length B)) c.of.ensures in
    answered_front F B c.layout_len.result len err

pub returns-clause-only : goal.returns-clause-only
returns-clause-only c hash =
    let F : Format = format_of c.args.layout.key_len c.args.layout.value_len hash in
    let B = c.args.bytes.now in
    let len = subst (λ b. IfOk c.layout_len.result (λ n. n ≡ image_len F (header_slots b))) c.of.ensures (c.layout_len.ensures.len hash) in
    let err = c.layout_len.ensures.err hash ∙ ap (front_header_refusal F (length B)) c.of.ensures in
    answered_only F B c.layout_len.result len err

pub returns-clause-err : goal.returns-clause-err
returns-clause-err c hash =
    let F : Format = format_of c.args.layout.key_len c.args.layout.value_len hash in
    let B = c.args.bytes.now in
    let long : 32 ≤ length B = omega (arith, c.if-found-lt-HEADER_SIZE.false) in
    c.layout_len.ensures.err hash ∙ ap (front_header_refusal F (length B)) c.of.ensures ∙ sym (prefix_refusal-header F B long)
