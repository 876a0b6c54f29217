use Rattle.std.proofs.Common.{◌∙◌, sym, ap, subst, refl, arith, length}
use Rattle.std.specs.Prelude.{option_map}
use Rattle.odht_base.specs.Format.{Format, format_of}
use Rattle.odht_base.specs.Load.{factor_of}
use Rattle.odht_base.specs.Table.{empty}
use Rattle.odht_base.specs.Image.{image, image_len}
use Rattle.odht_base.specs.Writes.{with_count}
use Rattle.odht_base.proofs.lemmas.FreeSlots.{empty-IsValid}
use Rattle.odht_header.specs.Layouts.{IsLayout}
use Rattle.odht_header.specs.Refusals.{IsTooLarge}
use Rattle.odht_header.specs.declared.error.Error.TheVariants.{InitLength, Capacity}
use Rattle.odht_raw.proofs.lemmas.NewTables.{with_count-new}
use Rattle.odht.proofs.lemmas.NewRefusals.{new_refusal-large, new_refusal-wrong, new_refusal-fits}
use Rattle.odht_calls.proofs.lemmas.Made.{made_init, refused_init}
use Rattle.odht_calls.proofs.write.init.Given.{Over}
use Rattle.odht_calls.proofs.write.init.Goals.{In-Some-table_for}
use Rattle.odht_calls.proofs.write.init.Goals as goal

pub returns-in_default-table_for : goal.returns-in_default-table_for
returns-in_default-table_for g c =
    let F : Format = format_of (g.L.Lengths.key_len c.args.lengths) (g.L.Lengths.value_len c.args.lengths) g.H.HashFn.hash in
    let m = c.args.max_item_count in
    let f = factor_of c.value.result in
    let large : IsTooLarge F m f = subst (IsTooLarge F m) c.from_percent-factor.ensures (rw (c.of_lengths.ensures.key, c.of_lengths.ensures.value) at ((c.in_default-table_for.ensures.none g.H.HashFn.hash).0 refl)) in
    refused_init F m _ _ c.args.bytes.now _ (c.value.ensures.value ∙ c.in-Some.ensures.value) c.value.ensures.percent Capacity _ (sym (new_refusal-large F m f (length c.args.bytes.now) large)) refl refl

-- the length of the new table
module _ (g : Over) (c : In-Some-table_for g) where
  abbrev F : Format
  F = format_of (g.L.Lengths.key_len c.args.lengths) (g.L.Lengths.value_len c.args.lengths) g.H.HashFn.hash

  layout : IsLayout F c.args.max_item_count (factor_of c.value.result) c.in-Some-table_for.slot_count c.in-Some-table_for.needed
  layout =
      subst (λ t. IsLayout F c.args.max_item_count t c.in-Some-table_for.slot_count c.in-Some-table_for.needed) c.from_percent-factor.ensures
      (rw (c.of_lengths.ensures.key, c.of_lengths.ensures.value) at (c.in-Some-table_for.ensures.some g.H.HashFn.hash))

pub returns-then-bytes-needed : goal.returns-then-bytes-needed
returns-then-bytes-needed g c =
    let at = (goal.at.returns-then-bytes-needed g c).In-Some-table_for in
    let is = layout g at in
    let s = c.in-Some-table_for.slot_count in
    let B = c.args.bytes.now in
    refused_init (F g at) c.args.max_item_count _ _ B _ (c.value.ensures.value ∙ c.in-Some.ensures.value) c.value.ensures.percent (InitLength (length B) (image_len (F g at) s)) _
    (sym (new_refusal-wrong (F g at) c.args.max_item_count (factor_of c.value.result) (length B) s is.slots (omega (arith, is.long, is.fits)) (λ e. c.if-bytes-needed.true (e ∙ sym is.long)))) refl refl

pub init_parts-requires-clause-slots : goal.init_parts-requires-clause-slots
init_parts-requires-clause-slots g c = (layout g (goal.at.init_parts-requires-clause-slots g c).In-Some-table_for).least.is_count

pub init_parts-requires-clause-len : goal.init_parts-requires-clause-len
init_parts-requires-clause-len g c = c.if-bytes-needed.false ∙ (layout g (goal.at.init_parts-requires-clause-len g c).In-Some-table_for).long

pub returns : goal.returns
returns g c =
    let at = (goal.at.returns g c).In-Some-table_for in
    let is = layout g at in
    let s = c.in-Some-table_for.slot_count in
    let f = factor_of c.value.result in
    let B = c.args.bytes.now in
    let percent = c.value.ensures.percent in
    made_init (F g at) c.args.max_item_count _ _ B _ (c.value.ensures.value ∙ c.in-Some.ensures.value) percent
    (sym (new_refusal-fits (F g at) c.args.max_item_count f (length B) s is.slots (omega (arith, is.long, is.fits)) (omega (arith, is.long, c.if-bytes-needed.false)))) (record {
      table = empty s f;
      new = ap (option_map (λ t. empty t f)) is.slots;
      image = record {
        valid = empty-IsValid s f (F g at) is.least.is_count (omega (arith, percent.0)) (omega (arith, percent.1));
        bytes = c.init_parts.ensures g.H.HashFn.hash ∙ ap (λ t. with_count (image (F g at) (empty s t)) 0) c.from_percent-factor.ensures ∙ with_count-new (F g at) s 0 f is.least.is_count;
      };
    })
