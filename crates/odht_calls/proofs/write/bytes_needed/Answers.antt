use Rattle.std.proofs.Common.{◌∙◌, subst, refl}
use Rattle.std.proofs.lemmas.Bool.{false≢true}
use Rattle.odht_base.specs.Format.{Format, format_of}
use Rattle.odht_base.specs.Load.{factor_of}
use Rattle.odht_header.specs.Layouts.{IsLayout}
use Rattle.odht_header.specs.Refusals.{IsTooLarge}
use Rattle.odht_calls.proofs.lemmas.Made.{bad_needed, some_needed, large_needed}
use Rattle.odht_calls.proofs.write.bytes_needed.Goals as goal

pub returns-in_default : goal.returns-in_default
returns-in_default g c = bad_needed _ _ _ _ (λ ok. absurd (false≢true (c.in_default.ensures.some.1 ok)))

pub returns-in-Some-table_for : goal.returns-in-Some-table_for
returns-in-Some-table_for g c =
    let F : Format = format_of (g.L.Lengths.key_len c.args.lengths) (g.L.Lengths.value_len c.args.lengths) g.H.HashFn.hash in
    let is : IsLayout F c.args.max_item_count (factor_of c.value.result) c.in-Some-table_for.field-0-0 c.in-Some-table_for.needed =
    subst (λ t. IsLayout F c.args.max_item_count t c.in-Some-table_for.field-0-0 c.in-Some-table_for.needed) c.from_percent-factor.ensures
    (rw (c.of_lengths.ensures.key, c.of_lengths.ensures.value) at (c.in-Some-table_for.ensures.some g.H.HashFn.hash)) in
    some_needed F _ _ _ _ (c.value.ensures.value ∙ c.in-Some.ensures.value) c.value.ensures.percent c.in-Some-table_for.field-0-0 c.in-Some-table_for.needed is.slots is.long is.fits

pub returns-in-None : goal.returns-in-None
returns-in-None g c =
    let F : Format = format_of (g.L.Lengths.key_len c.args.lengths) (g.L.Lengths.value_len c.args.lengths) g.H.HashFn.hash in
    let large : IsTooLarge F c.args.max_item_count (factor_of c.value.result) =
    subst (IsTooLarge F c.args.max_item_count) c.from_percent-factor.ensures (rw (c.of_lengths.ensures.key, c.of_lengths.ensures.value) at ((c.in-None.ensures.none g.H.HashFn.hash).0 refl)) in
    large_needed F _ _ _ _ (c.value.ensures.value ∙ c.in-Some.ensures.value) c.value.ensures.percent large
