use Rattle.std.proofs.Common.{rules, ◌≡◌, ◌∙◌, sym, ap, Err, Some, None}
use Rattle.std.specs.Result.{result_err}
use Rattle.odht_raw.specs.Words.{checked, Format, format_of, late_refusal_by, view_refusal}
use Rattle.odht_raw.proofs.lemmas.Openings.{check_refusal-view, check_refusal-late}
use Rattle.odht_raw.proofs.memory_layout.check.check_all_within.Goals as goal

pub returns-in_err-allocation-clause-first : goal.returns-in_err-allocation-clause-first
returns-in_err-allocation-clause-first g c =
    let F : Format = format_of g.C.EncodedKey.ByteArray.LEN g.C.EncodedValue.ByteArray.LEN g.C.H.HashFn.hash in
    let refusal : c.from_residual.result ≡ Err c.in_err-allocation.field-0.0 = search rules in
    let view : view_refusal F c.args.bytes.now ≡ Some c.in_err-allocation.field-0.0 =
    ap (view_refusal F) (sym c.new.ensures) ∙ sym c.from_raw_bytes.ensures.err ∙ ap result_err c.in_err-allocation.was in
    refusal ∙ sym (ap checked (check_refusal-view F c.args.bytes.now (Some c.args.groups) c.in_err-allocation.field-0.0 view))

pub returns-clause-first : goal.returns-clause-first
returns-clause-first g c =
    let F : Format = format_of g.C.EncodedKey.ByteArray.LEN g.C.EncodedValue.ByteArray.LEN g.C.H.HashFn.hash in
    let view : view_refusal F c.args.bytes.now ≡ None =
    ap (view_refusal F) (sym c.new.ensures) ∙ sym c.from_raw_bytes.ensures.err ∙ ap result_err c.in_ok-allocation.was in
    c.check_rest_within.ensures.first ∙ (λ i. checked (late_refusal_by F (Some c.args.groups) (c.in_ok-allocation.ensures.ok i).0.now)) ∙ ap (λ b. checked (late_refusal_by F (Some c.args.groups) b)) c.new.ensures ∙ sym (ap checked (check_refusal-late F c.args.bytes.now (Some c.args.groups) view))
