use Rattle.std.proofs.Common.{◌≡◌, ◌∙◌, ◌^◌, ◌<◌, ◌≤◌, ℕ, List, [], length, map, slice_index, sym, subst, arith, refl, All}
use Rattle.odht_raw.specs.Words.{counts_as_free, Format, is_free, IsInsertOrder, occupied, slot_count, Table}
use Rattle.odht_raw.proofs.lemmas.Below.{few_slots, IsMade-IsInsertOrder}
use Rattle.odht_raw.specs.DynParts.{parts_format}
use Rattle.odht_raw.specs.Parts.{TableParts}
use Rattle.odht_raw.specs.Waiting.{waiting, IsWaiting, IsPending, AreWholeParts, IsOrderAnswer}
use Rattle.odht_raw.proofs.lemmas.Homes.{HasHomes, parts_homes}
use Rattle.odht_raw.proofs.lemmas.PartCells.{slots_are, byte_is}
use Rattle.odht_raw.proofs.lemmas.PendingSlots.{all_wait, all_pending, order_found}
use Rattle.odht_raw.proofs.raw_table.parts.Parts.insert_order.Given.{Over}
use Rattle.odht_raw.proofs.raw_table.parts.Parts.insert_order.Goals.{After-list_occupied, Then-near-out}
use Rattle.odht_raw.proofs.raw_table.parts.Parts.insert_order.Goals as goal

-- what the list of occupied slots is
module _ (g : Over) (c : After-list_occupied g) where
  abbrev F : Format
  F = parts_format c.args.self.now g.H.HashFn.hash

  abbrev T : TableParts
  T = c.args.self.now.parts

  -- keys have homes in it
  homes : HasHomes F T
  homes = parts_homes _ _ _ _ _ c.len.ensures.whole g.met.H.HashFn.fits

  module _ (P : Table) (whole : AreWholeParts F P T (length c.args.out.now)) where
    as_many : T.entries.slots ≡ slot_count P
    as_many = slots_are F homes.format P _ _ whole.parts _ homes.mirrored

    small : slot_count P ≤ 2 ^ 63
    small = few_slots (slot_count P) whole.valid.placed.slots

    list : c.list_occupied.new.out ≡ map waiting (occupied P)
    list = c.list_occupied.ensures P (sym as_many ∙ sym c.len.ensures.value)
        (subst (λ (bs : List ℕ). (i : ℕ) → i < c.len.result → counts_as_free (slice_index bs i) ≡ is_free P.cells i) (sym c.controls.ensures.value)
        (λ i l. byte_is F homes.format P _ _ whole.parts i (omega (arith, l, c.len.ensures.value, as_many))))
        whole.counted

-- none of them is placed yet
pub place_near-near-requires-clause-begun : goal.place_near-near-requires-clause-begun
place_near-near-requires-clause-begun g c =
    let at = (goal.at.place_near-near-requires-clause-begun g c).After-list_occupied in
    let P = c.requires.whole.0 in
    let whole = c.requires.whole.1 in
    let waits = subst (All (IsWaiting (slot_count P))) (sym (list g at P whole)) (all_wait P (small g at P whole)) in
    record {
      within = omega arith;
      waiting = subst (λ s. All (IsWaiting s) c.list_occupied.new.out) (sym (as_many g at P whole)) waits;
      pending = λ Q is.
          let same = subst (AreWholeParts (parts_format c.args.self.now g.H.HashFn.hash) Q c.args.self.now.parts) c.list_occupied.auto.out is in
          subst (IsPending (parts_format c.args.self.now g.H.HashFn.hash) Q []) (sym (list g at Q same)) (all_pending Q (small g at Q same) (parts_format c.args.self.now g.H.HashFn.hash));
    }

-- where all are placed by then, that is an order
module _ (g : Over) (c : Then-near-out g) (P : Table) (whole : AreWholeParts (parts_format c.args.self.now g.H.HashFn.hash) P c.args.self.now.parts (length c.args.out.now)) where
  same : length c.place_near-near.new.slots ≡ length c.args.out.now
  same = c.place_near-near.auto.slots ∙ c.list_occupied.auto.out

  order : IsInsertOrder (parts_format c.args.self.now g.H.HashFn.hash) P c.place_near-near.new.slots
  order =
      order_found (parts_format c.args.self.now g.H.HashFn.hash) P c.args.self.now.parts c.place_near-near.new.slots _ same whole c.place_near-near.result (omega (arith, c.if-near-out.true))
      (c.place_near-near.ensures.begun.pending P (subst (AreWholeParts (parts_format c.args.self.now g.H.HashFn.hash) P c.args.self.now.parts) (sym same) whole))

pub returns-then-near-out : goal.returns-then-near-out
returns-then-near-out g c = record {
  order = λ P whole t. order g c P whole;
  made = λ P whole. (λ t. (IsMade-IsInsertOrder (parts_format c.args.self.now g.H.HashFn.hash) P whole.valid).1 (c.place_near-near.new.slots, order g c P whole), λ made. refl);
}

-- what the others give
pub returns : goal.returns
returns g c =
    subst (λ n. IsOrderAnswer (parts_format c.args.self.now g.H.HashFn.hash) c.args.self.now.parts n c.place_others.new.out c.place_others.result) (c.place_near-near.auto.slots ∙ c.list_occupied.auto.out) c.place_others.ensures
