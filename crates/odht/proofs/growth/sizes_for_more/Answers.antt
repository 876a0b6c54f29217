use Rattle.std.proofs.Common.{◌≡◌, ◌<◌, ◌+◌, ◌^◌, ◌∙◌, subst, refl, arith}
use Rattle.odht_raw.specs.Words.{count, Format, format_of, IsImage, max_items, slot_count, Table}
use Rattle.odht_header.specs.Layouts.{IsLayout}
use Rattle.odht_header.specs.Refusals.{IsTooLarge}
use Rattle.odht.specs.Reserves.{LacksRoom}
use Rattle.odht.proofs.lemmas.Moves.{slots_of_image, reserved-many}
use Rattle.odht.proofs.lemmas.ViewInserts.{count_header, factor_header}
use Rattle.odht.proofs.growth.sizes_for_more.Given.{Over}
use Rattle.odht.proofs.growth.sizes_for_more.Goals.{After-saturating_sub}
use Rattle.odht.proofs.growth.sizes_for_more.Goals as goal

module _ (g : Over) (c : After-saturating_sub g) (P : Table) (is : IsImage (format_of c.args.layout.key_len c.args.layout.value_len g.H.HashFn.hash) P c.args.header.now) where
  abbrev F : Format
  F = format_of c.args.layout.key_len c.args.layout.value_len g.H.HashFn.hash

  -- what the header says of the table P
  items : c.item_count-item_count.result ≡ count P
  items = c.item_count-item_count.ensures ∙ count_header F P c.args.header.now is

  factor : c.max_load_factor-factor.result.0 ≡ P.factor
  factor = c.max_load_factor-factor.ensures ∙ factor_header F P c.args.header.now is

  slots : c.slot_count.result ≡ slot_count P
  slots = c.slot_count.ensures ∙ slots_of_image F P c.args.header.now is

  most : c.max_item_count_for-most.result ≡ max_items (slot_count P) P.factor
  most = c.max_item_count_for-most.ensures.value ∙ (λ i. max_items (slots i) (factor i))

  -- the room is lacking
  lacks : c.saturating_sub.result < c.args.additional → LacksRoom P c.args.additional
  lacks more = omega (arith, items, most, is.valid.room, c.saturating_sub.ensures, more)

pub returns-then-additional-saturating_sub-clause-sizes : goal.returns-then-additional-saturating_sub-clause-sizes
returns-then-additional-saturating_sub-clause-sizes g c P is =
    let at = (goal.at.returns-then-additional-saturating_sub-clause-sizes g c).After-saturating_sub in
    omega (arith, items g at P is, most g at P is, is.valid.room, c.saturating_sub.ensures, c.if-additional-saturating_sub.true)

pub returns-in_default-clause-sizes : goal.returns-in_default-clause-sizes
returns-in_default-clause-sizes g c P is =
    let at = (goal.at.returns-in_default-clause-sizes g c).After-saturating_sub in
    let many : c.item_count-item_count.result + c.args.additional < 2 ^ 64 → ⊥ = c.in_default.ensures in
    (lacks g at P is c.if-additional-saturating_sub.false, reserved-many (F g at P is) P is.valid c.args.additional (omega (arith, items g at P is, many)))

pub returns-in-Some-table_for-clause-sizes : goal.returns-in-Some-table_for-clause-sizes
returns-in-Some-table_for-clause-sizes g c P is =
    let at = (goal.at.returns-in-Some-table_for-clause-sizes g c).After-saturating_sub in
    let wanted : c.in-Some.wanted ≡ count P + c.args.additional = omega (arith, c.in-Some.ensures.1, items g at P is) in
    let l = c.in-Some-table_for.sizes in
    let there : IsLayout (F g at P is) c.in-Some.wanted c.max_load_factor-factor.result.0 l.0 l.1 = c.in-Some-table_for.ensures.some g.H.HashFn.hash in (
      lacks g at P is c.if-additional-saturating_sub.false,
      subst (λ n. IsLayout (F g at P is) n P.factor l.0 l.1) wanted (subst (λ f. IsLayout (F g at P is) c.in-Some.wanted f l.0 l.1) (factor g at P is) there),
    )

pub returns-in-None-clause-sizes : goal.returns-in-None-clause-sizes
returns-in-None-clause-sizes g c P is =
    let at = (goal.at.returns-in-None-clause-sizes g c).After-saturating_sub in
    let wanted : c.in-Some.wanted ≡ count P + c.args.additional = omega (arith, c.in-Some.ensures.1, items g at P is) in
    let large : IsTooLarge (F g at P is) c.in-Some.wanted c.max_load_factor-factor.result.0 = (c.in-None.ensures.none g.H.HashFn.hash).0 refl in (
      lacks g at P is c.if-additional-saturating_sub.false,
      subst (λ n. IsTooLarge (F g at P is) n P.factor) wanted (subst (IsTooLarge (F g at P is) c.in-Some.wanted) (factor g at P is) large),
    )
