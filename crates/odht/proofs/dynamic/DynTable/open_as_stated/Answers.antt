use Rattle.std.proofs.Common.{rules, ◌≡◌, ◌∙◌, ℕ, List, Err, Some, sym, ap, subst, arith, length}
use Rattle.std.specs.Prelude.{slice_index}
use Rattle.std.specs.Result.{result_err}
use Rattle.odht_raw.specs.Words.{checked, Format, format_of, IsImage, opening_refusal, TooShort}
use Rattle.odht_header.proofs.lemmas.FirstErrors.{Err-checked}
use Rattle.odht_raw.proofs.lemmas.Openings.{opening_refusal-short}
use Rattle.odht.specs.Dynamic.{stated_format}
use Rattle.odht.specs.declared.dynamic.DynError.TheVariants.{Rejected}
use Rattle.odht.proofs.lemmas.DynOpens.{accepted_only, stated_image, stated_key, refused_first}
use Rattle.odht.proofs.dynamic.DynTable.open_as_stated.Given.{Over}
use Rattle.odht.proofs.dynamic.DynTable.open_as_stated.Goals.{After-check_by_header}
use Rattle.odht.proofs.dynamic.DynTable.open_as_stated.Goals as goal

-- too few bytes for a header
pub returns-in_err-layout-clause-err : goal.returns-in_err-layout-clause-err
returns-in_err-layout-clause-err g c =
    let B = g.D.ByteStore.bytes c.args.data in
    let found = ap length c.bytes-bytes.ensures in
    let refusal : c.from_residual.result ≡ Err c.in_err-layout.field-0.0 = search rules in
    let short = opening_refusal-short (stated_format g.H.HashFn.hash B) B (omega (arith, found, c.in_err-layout.ensures.short)) in
    ap result_err refusal ∙ ap Some c.in_err-layout.ensures.err ∙ ap (λ n. Some (Rejected (TooShort n))) found ∙ sym (refused_first g.H.HashFn.MIN_LEN g.H.HashFn.hash B _ short)

pub returns-in_err-layout-clause-valid : goal.returns-in_err-layout-clause-valid
returns-in_err-layout-clause-valid g c key_len value_len long P is =
    let B = g.D.ByteStore.bytes c.args.data in
    let found = ap length c.bytes-bytes.ensures in
    absurd (accepted_only g.H.HashFn.hash key_len value_len P B is _ (opening_refusal-short (stated_format g.H.HashFn.hash B) B (omega (arith, found, c.in_err-layout.ensures.short))))

-- the lengths that the code reads are those of the header
module _ (g : Over) (c : After-check_by_header g) where
  abbrev bytes : List ℕ
  bytes = g.D.ByteStore.bytes c.args.data

  key : c.in_ok-layout.layout.key_len ≡ slice_index bytes 5
  key = c.in_ok-layout.ensures.key ∙ ap (λ b. slice_index b 5) c.bytes-bytes.ensures

  value : c.in_ok-layout.layout.value_len ≡ slice_index bytes 6
  value = c.in_ok-layout.ensures.value ∙ ap (λ b. slice_index b 6) c.bytes-bytes.ensures

  by_header : c.check_by_header.result ≡ checked (opening_refusal (stated_format g.H.HashFn.hash bytes) bytes)
  by_header = c.check_by_header.ensures g.H.HashFn.hash ∙ (λ i. checked (opening_refusal (format_of (key i) (value i) g.H.HashFn.hash) (c.bytes-bytes.ensures i)))

pub returns-in-Err-clause-valid : goal.returns-in-Err-clause-valid
returns-in-Err-clause-valid g c key_len value_len long P is =
    let at = (goal.at.returns-in-Err-clause-valid g c).After-check_by_header in
    absurd (accepted_only g.H.HashFn.hash key_len value_len P (bytes g at) is _ (Err-checked _ c.in-Err.rejected (sym c.in-Err.is ∙ by_header g at)))

pub returns-in-Ok-clause-valid : goal.returns-in-Ok-clause-valid
returns-in-Ok-clause-valid g c key_len value_len long P is =
    let at = (goal.at.returns-in-Ok-clause-valid g c).After-check_by_header in
    let hash = g.H.HashFn.hash in
    let states = stated_key hash key_len value_len P (bytes g at) is in
    c.open.ensures.valid (omega (arith, long, states, key g at)) P
    (subst (λ (F : Format). IsImage F P (bytes g at)) (λ i. format_of (sym (key g at) i) (sym (value g at) i) hash) (stated_image hash key_len value_len P (bytes g at) is))
