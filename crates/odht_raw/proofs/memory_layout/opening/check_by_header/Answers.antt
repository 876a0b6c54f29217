use Rattle.std.proofs.Common.{◌∙◌, ◌≤◌, sym, ap, arith, length}
use Rattle.odht_raw.specs.Words.{checked, Format, format_of, header_refusal}
use Rattle.odht_raw.proofs.lemmas.Openings.{opening_refusal-short, opening_refusal-header}
use Rattle.odht_raw.proofs.memory_layout.opening.check_by_header.Goals as goal

pub returns-then-found-lt-HEADER_SIZE : goal.returns-then-found-lt-HEADER_SIZE
returns-then-found-lt-HEADER_SIZE c hash =
    sym (ap checked (opening_refusal-short (format_of c.args.layout.key_len c.args.layout.value_len hash) c.args.bytes.now c.if-found-lt-HEADER_SIZE.true))

pub returns : goal.returns
returns c hash =
    let F : Format = format_of c.args.layout.key_len c.args.layout.value_len hash in
    let B = c.args.bytes.now in
    let long : 32 ≤ length B = omega (arith, c.if-found-lt-HEADER_SIZE.false) in
    c.check_layout.ensures hash ∙ ap (λ b. checked (header_refusal F (length B) b)) c.of.ensures ∙ sym (ap checked (opening_refusal-header F B long))
