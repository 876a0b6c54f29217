use Rattle.std.proofs.Common.{rules, ◌≡◌, ◌∙◌, ◌++◌, ◌≤◌, ℕ, List, Ok, Err, Some, sym, ap, subst, arith, length}
use Rattle.std.specs.Prelude.{option_map, slice_index}
use Rattle.std.specs.Option.{option_or}
use Rattle.std.specs.Result.{result_err}
use Rattle.odht_raw.specs.Words.{Format, format_of, IsValidBytes}
use Rattle.odht_header.proofs.lemmas.Formats.{IsFormat-format_of}
use Rattle.odht_raw.specs.Prefixes.{IsFront}
use Rattle.odht_raw.proofs.lemmas.Prefixes.{prefix_refusal-short}
use Rattle.odht.specs.Dynamic.{stated_format}
use Rattle.odht.specs.DynPrefixes.{dyn_front_refusal}
use Rattle.odht.specs.declared.dynamic.DynError.TheVariants.{Rejected}
use Rattle.odht.proofs.lemmas.DynPrefixes.{front_header, front_key, front_value, front_of_lengths, valid_of_lengths, opened}
use Rattle.odht.proofs.prefix.DynTable+H+Borrowed.from_prefix_as_stated.Given.{Over}
use Rattle.odht.proofs.prefix.DynTable+H+Borrowed.from_prefix_as_stated.Goals.{After-table_len}
use Rattle.odht.proofs.prefix.DynTable+H+Borrowed.from_prefix_as_stated.Goals as goal

-- the lengths that the code reads are those of a valid table at the front
module _ (g : Over) (c : After-table_len g) (key_len value_len : ℕ) (table rest : List ℕ) (valid : IsValidBytes (format_of key_len value_len g.H.HashFn.hash) table) (joined : c.args.bytes.now ≡ table ++ rest) where
  key : c.in_ok-layout.layout.key_len ≡ key_len
  key = c.in_ok-layout.ensures.key ∙ ap (λ b. slice_index b 5) joined ∙ front_key g.H.HashFn.hash key_len value_len table rest valid

  value : c.in_ok-layout.layout.value_len ≡ value_len
  value = c.in_ok-layout.ensures.value ∙ ap (λ b. slice_index b 6) joined ∙ front_value g.H.HashFn.hash key_len value_len table rest valid

  valid_here : IsValidBytes (format_of c.in_ok-layout.layout.key_len c.in_ok-layout.layout.value_len g.H.HashFn.hash) table
  valid_here = valid_of_lengths g.H.HashFn.hash key_len value_len table rest valid c.in_ok-layout.layout.key_len c.in_ok-layout.layout.value_len key value

-- too few bytes for a header
pub returns-in_err-layout-clause-err : goal.returns-in_err-layout-clause-err
returns-in_err-layout-clause-err g c =
    let F = stated_format g.H.HashFn.hash c.args.bytes.now in
    let refusal : c.from_residual.result ≡ Err c.in_err-layout.field-0.0 = search rules in
    ap result_err refusal ∙ ap Some c.in_err-layout.ensures.err
    ∙ sym (ap (λ o. option_or (option_map Rejected o) (dyn_front_refusal g.H.HashFn.MIN_LEN F c.args.bytes.now)) (prefix_refusal-short F c.args.bytes.now c.in_err-layout.ensures.short))

pub returns-in_err-layout-clause-valid : goal.returns-in_err-layout-clause-valid
returns-in_err-layout-clause-valid g c key_len value_len table rest long valid joined =
    absurd (omega (arith, front_header g.H.HashFn.hash key_len value_len table rest valid, ap length joined, c.in_err-layout.ensures.short))

pub open_front-requires : goal.open_front-requires
open_front-requires g c = c.in-Ok.ensures.ok g.H.HashFn.hash

pub returns-in-Err-clause-valid : goal.returns-in-Err-clause-valid
returns-in-Err-clause-valid g c key_len value_len table rest long valid joined =
    let at = (goal.at.returns-in-Err-clause-valid g c).After-table_len in
    let hash = g.H.HashFn.hash in
    let there : IsFront (format_of c.in_ok-layout.layout.key_len c.in_ok-layout.layout.value_len hash) c.args.bytes.now (length table) =
    subst (λ B. IsFront (format_of c.in_ok-layout.layout.key_len c.in_ok-layout.layout.value_len hash) B (length table)) (sym joined)
    (front_of_lengths hash key_len value_len table rest valid _ _ (key g at key_len value_len table rest valid joined) (value g at key_len value_len table rest valid joined)) in
    let both : Err c.in-Err.rejected ≡ Ok (length table) = c.in-Err.ensures.only hash (length table) there in
    absurd cc

pub returns-in-Ok-clause-valid : goal.returns-in-Ok-clause-valid
returns-in-Ok-clause-valid g c key_len value_len table rest long valid joined =
    let at = (goal.at.returns-in-Ok-clause-valid g c).After-table_len in
    let F : Format = format_of c.in_ok-layout.layout.key_len c.in_ok-layout.layout.value_len g.H.HashFn.hash in
    let key_fits : c.in_ok-layout.layout.key_len ≤ 255 = search rules in
    let value_fits : c.in_ok-layout.layout.value_len ≤ 255 = search rules in
    let hashes : g.H.HashFn.MIN_LEN ≤ c.in_ok-layout.layout.key_len = omega (arith, long, key g at key_len value_len table rest valid joined) in
    let f = IsFormat-format_of _ _ _ _ key_fits value_fits hashes g.met.H.HashFn.fits in
    opened g.H.HashFn.MIN_LEN F f table rest hashes (valid_here g at key_len value_len table rest valid joined) c.open_front.result (c.open_front.ensures.err ∙ ap (dyn_front_refusal g.H.HashFn.MIN_LEN F) joined)
