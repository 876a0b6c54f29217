use Rattle.std.proofs.Common.{rules, ◌≡◌, ◌∙◌, ◌<◌, ◌^◌, sym, ap, subst, length, Err}
use Rattle.std.specs.Result.{result_err}
use Rattle.odht_raw.specs.Words.{checked, Format, format_of, view_refusal}
use Rattle.odht_raw.proofs.lemmas.Below.{Err-checked, IsFormat-format_of, Ok-checked}
use Rattle.odht_raw.proofs.lemmas.ImagesOpen.{image_is_accepted}
use Rattle.odht_raw.proofs.lemmas.Openings.{view_refusal-accepted}
use Rattle.odht_raw.proofs.memory_layout.allocation.Allocation.from_raw_bytes.Given.{Over}
use Rattle.odht_raw.proofs.memory_layout.allocation.Allocation.from_raw_bytes.Goals.{After-check_opening_in}
use Rattle.odht_raw.proofs.memory_layout.allocation.Allocation.from_raw_bytes.Goals as goal

abbrev format : Over → Format
format g = format_of g.C.EncodedKey.ByteArray.LEN g.C.EncodedValue.ByteArray.LEN g.C.H.HashFn.hash

-- the answer of the check, of the bytes of the store
opened : (g : Over) (c : After-check_opening_in g) → c.check_opening_in.result ≡ checked (view_refusal (format g) (g.M.ByteStore.bytes c.args.data))
opened g c = c.check_opening_in.ensures ∙ ap (λ b. checked (view_refusal (format g) b)) c.bytes.ensures

pub returns-in_err-check_opening_in-clause-err : goal.returns-in_err-check_opening_in-clause-err
returns-in_err-check_opening_in-clause-err g c =
    let x = c.in_err-check_opening_in.field-0.0 in
    let refusal : c.from_residual.result ≡ Err x = search rules in
    ap result_err refusal ∙ sym (Err-checked _ x (sym c.in_err-check_opening_in.was ∙ opened g (goal.at.returns-in_err-check_opening_in-clause-err g c).After-check_opening_in))

pub returns-in_err-check_opening_in-clause-valid : goal.returns-in_err-check_opening_in-clause-valid
returns-in_err-check_opening_in-clause-valid g c P is =
    let f = IsFormat-format_of _ _ _ _ g.met.C.Config.key_fits g.met.C.Config.value_fits g.met.C.Config.key_hashes g.met.C.H.HashFn.fits in
    image_is_accepted _ f P (g.M.ByteStore.bytes c.args.data) is c.from_residual.result (returns-in_err-check_opening_in-clause-err g c)

pub invariant_of-result : goal.invariant_of-result
invariant_of-result g c =
    let at = (goal.at.invariant_of-result g c).After-check_opening_in in
    (view_refusal-accepted (format g) _ (Ok-checked _ (sym c.in_ok-check_opening_in.was ∙ opened g at)), subst (λ b. length b < 2 ^ 64) c.bytes.ensures c.bytes.type_inv.0)

pub returns-clause-err : goal.returns-clause-err
returns-clause-err g c =
    let at = (goal.at.returns-clause-err g c).After-check_opening_in in
    sym (Ok-checked _ (sym c.in_ok-check_opening_in.was ∙ opened g at))
