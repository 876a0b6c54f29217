use Rattle.std.proofs.Common.{◌≡◌, ◌∙◌, ◌+◌, ◌/◌, ◌^◌, drop, map, length-drop, Some, None, sym, ap, arith}
use lib.Lanes.{mask_l}
use Rattle.std.specs.Prelude.{option_map, slice_get}
use Rattle.std.specs.Option.{option_or}
use Rattle.std.proofs.lemmas.List.Quantifiers.{position-Some}
use Rattle.odht_base.specs.Decoded.{counts_as_free}
use Rattle.odht_base.specs.Groups.{first_free}
use Rattle.odht_base.specs.Masks.{set_bits}
use Rattle.odht_base.proofs.lemmas.LaneBits.{in_lanes, first_set, late_set}
use Rattle.odht_base.proofs.swisstable_group_query.free.late_free.Goals.{After-first}
use Rattle.odht_base.proofs.swisstable_group_query.free.late_free.Goals as goal

-- the bits from the eighth on are those of the bytes from there on
late : (c : After-first) → c.first.result ≡ first_free (drop 8 c.args.control.now)
late c =
    c.first.ensures ∙ ap (λ xs. slice_get xs 0) c.of_bits.ensures ∙ ap (λ m. slice_get (set_bits (m / 2 ^ 8)) 0) c.free_bits-free.ensures.bits
    ∙ ap (λ g. slice_get (set_bits (mask_l (map counts_as_free g) / 2 ^ 8)) 0) (in_lanes c.args.control.now c.requires) ∙ late_set c.args.control.now c.requires

-- the index is one of eight
pub overflow_add-result : goal.overflow_add-result
overflow_add-result c =
    let g = c.args.control.now in
    let at : first_free (drop 8 g) ≡ Some c.in-Some.index = sym (late (goal.at.overflow_add-result c).After-first) ∙ c.in-Some.is in
    let low = position-Some counts_as_free (drop 8 g) c.in-Some.index 0 at in
    omega (arith, low.0, length-drop 8 g, c.requires)

pub returns-in-Some : goal.returns-in-Some
returns-in-Some c =
    let g = c.args.control.now in
    let at : first_free (drop 8 g) ≡ Some c.in-Some.index = sym (late (goal.at.returns-in-Some c).After-first) ∙ c.in-Some.is in
    sym (ap (λ o. option_or (option_map (λ i. i + 8) o) (first_free g)) at)

pub returns-in-None : goal.returns-in-None
returns-in-None c =
    let g = c.args.control.now in
    let none : first_free (drop 8 g) ≡ None = sym (late (goal.at.returns-in-None c).After-first) ∙ c.in-None.is in
    c.first-in-None.ensures ∙ ap (λ xs. slice_get xs 0) c.of_bits-in-None.ensures ∙ ap (λ m. slice_get (set_bits m) 0) c.free_bits-free.ensures.bits
    ∙ ap (λ g. slice_get (set_bits (mask_l (map counts_as_free g))) 0) (in_lanes g c.requires) ∙ first_set g (omega (arith, c.requires))
    ∙ sym (ap (λ o. option_or (option_map (λ i. i + 8) o) (first_free g)) none)
