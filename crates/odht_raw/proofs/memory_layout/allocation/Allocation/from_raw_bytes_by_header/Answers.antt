use Rattle.std.proofs.Common.{rules, ◌≡◌, ◌∙◌, ◌<◌, ◌^◌, sym, ap, subst, length, Err}
use Rattle.std.specs.Result.{result_err}
use Rattle.odht_raw.specs.Words.{checked, Format, format_of, opening_refusal}
use Rattle.odht_header.proofs.lemmas.FirstErrors.{Ok-checked, Err-checked}
use Rattle.odht_raw.proofs.memory_layout.allocation.Allocation.from_raw_bytes_by_header.Given.{Over}
use Rattle.odht_raw.proofs.memory_layout.allocation.Allocation.from_raw_bytes_by_header.Goals.{After-check_by_header}
use Rattle.odht_raw.proofs.memory_layout.allocation.Allocation.from_raw_bytes_by_header.Goals as goal

abbrev format : Over → Format
format g = format_of g.C.EncodedKey.ByteArray.LEN g.C.EncodedValue.ByteArray.LEN g.C.H.HashFn.hash

-- the answer of the check, of the bytes of the store
opened : (g : Over) (c : After-check_by_header g) → c.check_by_header.result ≡ checked (opening_refusal (format g) (g.M.ByteStore.bytes c.args.data))
opened g c =
    c.check_by_header.ensures g.C.H.HashFn.hash
    ∙ (λ i. checked (opening_refusal (format_of (c.of.ensures.key i) (c.of.ensures.value i) g.C.H.HashFn.hash) (c.bytes.ensures i)))

pub returns-in_err-check_by_header-clause-err : goal.returns-in_err-check_by_header-clause-err
returns-in_err-check_by_header-clause-err g c =
    let x = c.in_err-check_by_header.field-0.0 in
    let refusal : c.from_residual.result ≡ Err x = search rules in
    ap result_err refusal ∙ sym (Err-checked _ x (sym c.in_err-check_by_header.was ∙ opened g (goal.at.returns-in_err-check_by_header-clause-err g c).After-check_by_header))

pub invariant_of-result : goal.invariant_of-result
invariant_of-result g c =
    let at = (goal.at.invariant_of-result g c).After-check_by_header in
    (Ok-checked _ (sym c.in_ok-check_by_header.was ∙ opened g at), subst (λ b. length b < 2 ^ 64) c.bytes.ensures c.bytes.type_inv.0)

pub returns-clause-err : goal.returns-clause-err
returns-clause-err g c =
    let at = (goal.at.returns-clause-err g c).After-check_by_header in
    sym (Ok-checked _ (sym c.in_ok-check_by_header.was ∙ opened g at))
