use Rattle.std.proofs.Common.{◌≡◌, ◌+◌, ◌-◌, ◌<◌, ◌≢◌, length, set, arith, refl, ◌/◌, ◌%◌}
use Rattle.std.proofs.lemmas.List.{set_comm, drop-set, length-set}
use Rattle.odht_tool_core.proofs.Tables.{pair_at}
use Rattle.odht_tool_core.proofs.digits.put_pair.Goals as goal

pub returns : goal.returns
returns c =
    let text = c.args.text.now in
    let end = c.args.end in
    let digits = pair_at c.args.pair c.requires.pair in
    let apart : end - 2 ≢ end - 1 = omega arith in
    let next : end - 2 + 1 ≡ end - 1 = omega arith in
    let last : end - 1 + 1 ≡ end = omega arith in
    let ones = 48 + c.args.pair % 10 in
    let inside : end - 2 < length (set text (end - 1) ones) = omega (arith, length-set text (end - 1) ones) in
    let end_inside : end - 1 < length text = omega arith in
    rw (digits.0, digits.1, set_comm text (end - 2) (end - 1) (48 + c.args.pair / 10) ones apart, drop-set (set text (end - 1) ones) (end - 2) (48 + c.args.pair / 10) inside, next, drop-set text (end - 1) ones end_inside, last) refl
