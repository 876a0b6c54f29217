use Rattle.std.proofs.Common.{rules, ◌≡◌, ◌∙◌, Err, sym, ap}
use Rattle.std.specs.Result.{result_err}
use Rattle.odht_raw.specs.Words.{Format, format_of}
use Rattle.odht.specs.Dynamic.{dyn_refusal}
use Rattle.odht.proofs.lemmas.DynPrefixes.{front_as_view}
use Rattle.odht.proofs.prefix.DynTable+H+Borrowed.open_front.Goals as goal

pub returns-in_err-table-clause-err : goal.returns-in_err-table-clause-err
returns-in_err-table-clause-err g c =
    let F : Format = format_of c.args.layout.key_len c.args.layout.value_len g.H.HashFn.hash in
    let refusal : c.from_residual.result ≡ Err c.in_err-table.field-0.0 = search rules in
    ap result_err refusal ∙ c.in_err-table.ensures.err
    ∙ ap (dyn_refusal g.H.HashFn.MIN_LEN F) (c.new.ensures ∙ c.split_at.ensures.front)
    ∙ sym (front_as_view g.H.HashFn.MIN_LEN F c.args.bytes.now c.args.end c.requires)

pub returns-clause-err : goal.returns-clause-err
returns-clause-err g c =
    let F : Format = format_of c.args.layout.key_len c.args.layout.value_len g.H.HashFn.hash in
    c.in_ok-table.ensures.err
    ∙ ap (dyn_refusal g.H.HashFn.MIN_LEN F) (c.new.ensures ∙ c.split_at.ensures.front)
    ∙ sym (front_as_view g.H.HashFn.MIN_LEN F c.args.bytes.now c.args.end c.requires)
