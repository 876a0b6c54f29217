use Rattle.std.proofs.Common.{rules, ◌≡◌, ◌≤◌, ◌∙◌, sym, ap, subst, refl, None, Ok, Err}
use Rattle.odht_raw.specs.Words.{check_refusal, format_of, IsFormat, IsImage, IsValidBytes, view_refusal}
use Rattle.odht_header.specs.declared.error.Error.TheVariants.{Memory}
use Rattle.odht_header.proofs.lemmas.FirstErrors.{Err-checked}
use Rattle.odht_header.proofs.lemmas.Formats.{IsFormat-format_of}
use Rattle.odht_raw.specs.Frame.{IsAccepted}
use Rattle.odht_raw.proofs.lemmas.Accepted.{IsAccepted-IsValidBytes}
use Rattle.odht_raw.proofs.lemmas.Openings.{check_refusal-view, check_refusal-late, view_refusal-accepted}
use Rattle.odht.specs.Dynamic.{dyn_plain, dyn_store}
use Rattle.odht.proofs.lemmas.DynOwned.{no_error, fails_by, fails_by_memory, fails_by_never}
use Rattle.odht.proofs.lemmas.DynPlain.{held, with_table}
use Rattle.odht.proofs.dynamic.owned.DynTableOwned.from_raw_bytes.Given.{Over}
use Rattle.odht.proofs.dynamic.owned.DynTableOwned.from_raw_bytes.Goals.{In_default, In_default-check_dynamic, After-open_unchecked-table}
use Rattle.odht.proofs.dynamic.owned.DynTableOwned.from_raw_bytes.Goals as goal

pub returns-in-Err-clause-err : goal.returns-in-Err-clause-err
returns-in-Err-clause-err g c hashes =
    let F = format_of c.args.layout.key_len c.args.layout.value_len g.H.HashFn.hash in
    let late = check_refusal-view F c.args.raw_bytes.now None c.in-Err.refused (Err-checked _ c.in-Err.refused (sym c.in-Err.is ∙ c.check_opening.ensures)) in
    record { answer = Err c.in-Err.refused; is = refl; holds = fails_by _ c.in-Err.refused late }

-- the opening accepts the bytes
opened : (g : Over) (c : In_default g) → view_refusal (format_of c.args.layout.key_len c.args.layout.value_len g.H.HashFn.hash) c.args.raw_bytes.now ≡ None
opened g c = no_error c.check_opening.result _ c.check_opening.ensures c.in_default.not-Err

pub check_dynamic-requires-clause-accepted : goal.check_dynamic-requires-clause-accepted
check_dynamic-requires-clause-accepted g c =
    let F = format_of c.args.layout.key_len c.args.layout.value_len g.H.HashFn.hash in
    view_refusal-accepted F c.args.raw_bytes.now (opened g (goal.at.check_dynamic-requires-clause-accepted g c).In_default)

pub returns-in-Err-check_dynamic-clause-err : goal.returns-in-Err-check_dynamic-clause-err
returns-in-Err-check_dynamic-clause-err g c hashes =
    let F = format_of c.args.layout.key_len c.args.layout.value_len g.H.HashFn.hash in
    let e = c.in-Err-check_dynamic.refused in
    let view = opened g (goal.at.returns-in-Err-check_dynamic-clause-err g c).In_default in
    let late = Err-checked _ e (sym c.in-Err-check_dynamic.is ∙ c.check_dynamic.ensures.first) in
    record { answer = Err e; is = refl; holds = fails_by _ e (check_refusal-late F c.args.raw_bytes.now None view ∙ late) }

-- the whole check accepts them
checked_all : (g : Over) (c : In_default-check_dynamic g) → check_refusal (format_of c.args.layout.key_len c.args.layout.value_len g.H.HashFn.hash) c.args.raw_bytes.now ≡ None
checked_all g c =
    let F = format_of c.args.layout.key_len c.args.layout.value_len g.H.HashFn.hash in
    let view = no_error c.check_opening.result _ c.check_opening.ensures c.in_default.not-Err in
    check_refusal-late F c.args.raw_bytes.now None view ∙ no_error c.check_dynamic.result _ c.check_dynamic.ensures.first c.in_default-check_dynamic.not-Err

pub returns-in_default-to_vec-clause-err : goal.returns-in_default-to_vec-clause-err
returns-in_default-to_vec-clause-err g c hashes =
    let none = checked_all g (goal.at.returns-in_default-to_vec-clause-err g c).In_default-check_dynamic in
    record { answer = Err Memory; is = refl; holds = fails_by_memory _ none }

-- so they are valid
valid : (g : Over) (c : In_default-check_dynamic g) → IsValidBytes (format_of c.args.layout.key_len c.args.layout.value_len g.H.HashFn.hash) c.args.raw_bytes.now
valid g c = search rules

-- and so is the copy
copy : (g : Over) (c : After-open_unchecked-table g) → c.new.result ≡ c.args.raw_bytes.now
copy g c = search rules

pub open_unchecked-table-requires-clause-accepted :
    goal.open_unchecked-table-requires-clause-accepted
open_unchecked-table-requires-clause-accepted g c =
    let F = format_of c.args.layout.key_len c.args.layout.value_len g.H.HashFn.hash in
    let bytes : c.new.result ≡ c.args.raw_bytes.now = search rules in
    subst (IsAccepted F) (sym bytes) (IsAccepted-IsValidBytes F c.args.raw_bytes.now (valid g (goal.at.open_unchecked-table-requires-clause-accepted g c).In_default-check_dynamic))

-- the lengths fit
fits : (g : Over) (c : After-open_unchecked-table g) → IsFormat (format_of c.args.layout.key_len c.args.layout.value_len g.H.HashFn.hash)
fits g c =
    let key : c.args.layout.key_len ≤ 255 = search rules in
    let value : c.args.layout.value_len ≤ 255 = search rules in
    IsFormat-format_of _ _ _ _ key value c.in_ok-check_key_len.ensures.long g.met.H.HashFn.fits

-- the table that was opened
opened_copy : (g : Over) (c : After-open_unchecked-table g) → c.open_unchecked-table.result ≡ dyn_store c.args.layout.key_len c.args.layout.value_len c.args.raw_bytes.now
opened_copy g c = c.open_unchecked-table.ensures ∙ ap (dyn_store c.args.layout.key_len c.args.layout.value_len) (copy g c)

pub invariant_of-result : goal.invariant_of-result
invariant_of-result g c =
    let steps = goal.at.invariant_of-result g c in
    let at = steps.After-open_unchecked-table in
    let is = valid g steps.In_default-check_dynamic in
    held g.H.HashFn.hash _ _ _ (fits g at) is.0 is.1 _ (opened_copy g at)

pub returns-clause-ok : goal.returns-clause-ok
returns-clause-ok g c =
    let steps = goal.at.returns-clause-ok g c in
    let at = steps.After-open_unchecked-table in
    let is = valid g steps.In_default-check_dynamic in
    let F = format_of c.args.layout.key_len c.args.layout.value_len g.H.HashFn.hash in
    with_table g.H.HashFn.hash _ _ _ (fits g at) is.0 is.1 _ (opened_copy g at) (λ P. IsImage F P c.args.raw_bytes.now) is.1

pub returns-clause-err : goal.returns-clause-err
returns-clause-err g c hashes = record {
  answer = Ok (dyn_plain c.open_unchecked-table.result g.H.HashFn.hash);
  is = refl;
  holds = fails_by_never _ (checked_all g (goal.at.returns-clause-err g c).In_default-check_dynamic) _;
}
