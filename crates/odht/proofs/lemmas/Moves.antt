-- The pairs of a table, placed in slot order into other slots, and the table that has room for more.
use Rattle.std.proofs.Common.{◌≡◌, ◌≤◌, ◌+◌, ◌*◌, ◌^◌, ◌∙◌, ◌++◌, ℕ, sym, ap, subst, refl, Bool, List, Option, Some, arith, append-nil, IsPermutation, cond, Ok, Err, inl, inr}
use Rattle.std.proofs.lemmas.Bool.{le-leb, lt-leb}
use Rattle.std.specs.Prelude.{option_and_then}
use Rattle.std.specs.Option.{option_or}
use Rattle.std.proofs.Math.Nat.{mul-le-mul_left}
use Rattle.std.proofs.lemmas.List.Sorted.{length_permutation}
use Rattle.odht_raw.specs.Words.{Coding, count, empty, Format, header_bytes, header_factor, header_slots, image, IsImage, IsPlaced, IsSlotCount, IsValid, map_of, max_items, parts, place, slot_count, Table, walk}
use Rattle.odht_base.specs.Load.{slots_for}
use Rattle.odht_base.specs.Map.{last}
use Rattle.odht_base.proofs.lemmas.DistinctKeys.{last-apart, walk-KeysApart, walk-IsPairOf}
use Rattle.odht_base.proofs.lemmas.Fits.{IsSized-IsPlaced}
use Rattle.odht_base.proofs.lemmas.FreeSlots.{slot_count-empty, count-empty, walk-empty, map_of-empty, empty-IsPlaced, empty-IsValid, max_items-lt, max_items-holds}
use Rattle.odht_base.proofs.lemmas.Grown.{place-IsInsert, place_all-fits, slot_count-place_all, walk-place_all}
use Rattle.odht_base.proofs.lemmas.Image.{header_slots-image}
use Rattle.odht_base.proofs.lemmas.InsertRuns.{run-keeps, factor-run, map_of-run}
use Rattle.odht_base.proofs.lemmas.Least.{slots_for-IsLeastSlots}
use Rattle.odht_base.proofs.lemmas.Options.{option_or-none_right}
use Rattle.odht_base.proofs.lemmas.SlotCounts.{slots_pos, few_slots}
use Rattle.odht_header.specs.Layouts.{IsLayout}
use Rattle.odht_header.specs.Refusals.{IsTooLarge}
use Rattle.odht_header.specs.declared.error.Error.TheVariants.{Capacity, Memory}
use Rattle.odht.specs.Plain.{IsPlainReserve}
use Rattle.odht.specs.Reserves.{moved, reserved, LacksRoom, IsMovedImage}
use Rattle.odht.proofs.lemmas.NewRefusals.{not_both, not_ok}
use Rattle.odht.proofs.lemmas.ViewInserts.{factor_header}

-- Q is a valid table of s slots with the pairs of P
pub record IsMoved (F : Format) (P : Table) (s : ℕ) (Q : Table) : Type 0 where
  pub valid : IsValid F Q
  pub slots : slot_count Q ≡ s
  pub factor : Q.factor ≡ P.factor
  pub counts : count Q ≡ count P
  pub maps : (k : List ℕ) → map_of Q k ≡ map_of P k

module _ (F : Format) (P : Table) (ok : IsValid F P) (s : ℕ) (is_count : IsSlotCount s) (room : count P ≤ max_items s P.factor) where
  -- the slots take the pairs
  pub moved-fits : (Q : Table) × (moved F P s ≡ Some Q)
  moved-fits =
      let below = max_items-lt s P.factor (slots_pos s is_count) ok.factor_high in
      place_all-fits F (empty s P.factor) (walk P) (empty-IsPlaced s P.factor F is_count) (walk-IsPairOf F P ok.placed) (omega (arith, room, below, count-empty s P.factor, slot_count-empty s P.factor))

  -- and have the same map
  pub moved-IsMoved : (Q : Table) → moved F P s ≡ Some Q → IsMoved F P s Q
  moved-IsMoved Q e =
      let from = empty-IsPlaced s P.factor F is_count in
      let fit = walk-IsPairOf F P ok.placed in
      let apart = walk-KeysApart F P ok.placed in
      let placed = run-keeps F (IsPlaced F) (place F) (place-IsInsert F) (empty s P.factor) Q (walk P) from fit e in
      let factor : Q.factor ≡ P.factor = factor-run F (IsPlaced F) (place F) (place-IsInsert F) (empty s P.factor) Q (walk P) from fit e in
      let slots : slot_count Q ≡ s = slot_count-place_all F (empty s P.factor) Q (walk P) from fit e ∙ slot_count-empty s P.factor in
      let perm = walk-place_all F (empty s P.factor) Q (walk P) from fit apart (λ k v h. map_of-empty s P.factor k) e in
      let walks : IsPermutation (walk Q) (walk P) = subst (λ xs. IsPermutation (walk Q) xs) (ap (λ xs. walk P ++ xs) (walk-empty s P.factor) ∙ append-nil (walk P)) perm in
      let counts : count Q ≡ count P = sym (length_permutation (walk Q) (walk P) walks) in
      let within : count Q ≤ max_items (slot_count Q) Q.factor = subst (λ n. count Q ≤ max_items n Q.factor) (sym slots) (subst (λ f. count Q ≤ max_items s f) (sym factor) (omega (arith, room, counts))) in
      record {
        valid = record { placed = placed; factor_low = omega (arith, ok.factor_low, factor); factor_high = omega (arith, ok.factor_high, factor); room = within };
        slots = slots;
        factor = factor;
        counts = counts;
        maps = λ k.
            map_of-run F (IsPlaced F) (place F) (place-IsInsert F) (empty s P.factor) Q (walk P) from fit e k
            ∙ ap (option_or (last (walk P) k)) (map_of-empty s P.factor k)
            ∙ option_or-none_right (last (walk P) k)
            ∙ last-apart (walk P) apart k;
      }

  -- with the header for as many pairs these are its bytes
  pub moved-image : (Q : Table) → moved F P s ≡ Some Q → (B : List ℕ) → B ≡ header_bytes F s (count P) P.factor ++ parts F Q.cells → IsMovedImage F P s B
  unfolding image
  moved-image Q e B written =
      let h = moved-IsMoved Q e in
      (Q, e, record { valid = h.valid; bytes = written ∙ sym (λ i. header_bytes F (h.slots i) (h.counts i) (h.factor i) ++ parts F Q.cells) })

-- where the sum passes 64 bits no slot count is enough
pub reserved-many : (F : Format) (P : Table) → IsValid F P → (n : ℕ) → 2 ^ 64 ≤ count P + n → IsTooLarge F (count P + n) P.factor
reserved-many F P ok n many = λ s e. (
    let least = slots_for-IsLeastSlots _ _ s e in
    let most : s * P.factor ≤ s * 65535 = mul-le-mul_left s ok.factor_high in
    absurd (omega (arith, least.holds, most, few_slots s least.is_count, many)))

-- slots for that many items take those that there are
pub reserved-room : (P : Table) (n s : ℕ) → slots_for (count P + n) P.factor ≡ Some s → count P ≤ max_items s P.factor
reserved-room P n s slots =
    let holds : count P + n ≤ max_items s P.factor = max_items-holds (count P + n) s P.factor (slots_for-IsLeastSlots _ _ s slots).holds in
    omega (arith, holds)

-- ---- room for more, with the result of the call
module _ {K V : Type 0} (c : Coding K V) (P : Table) (n : ℕ) where
  -- the table that is left, by whether the room is there
  abbrev left : Bool → Option Table
  left there = cond there (Some P) (option_and_then (moved c.format P) (slots_for (count P + n) P.factor))

  -- a table with the room stays
  pub reserve-stays : count P + n ≤ max_items (slot_count P) P.factor → IsPlainReserve c P n (Ok tt) P
  unfolding reserved
  reserve-stays enough = record {
    table = ap left (le-leb _ _ enough);
    same_map = λ k. refl;
    room = enough;
    capacity = (λ e. absurd (not_ok _ refl e), λ h. absurd (omega (arith, h.0, enough)));
    lacking = tt;
    only = tt;
  }

  module _ (lacks : LacksRoom P n) where
    -- no table is that large
    pub reserve-large : IsTooLarge c.format (count P + n) P.factor → IsPlainReserve c P n (Err Capacity) P
    reserve-large large = record { table = tt; same_map = tt; room = tt; capacity = (λ e. (lacks, large), λ h. refl); lacking = lacks; only = inl refl }

    module _ (s len : ℕ) (there : IsLayout c.format (count P + n) P.factor s len) where
      small : LacksRoom P n × IsTooLarge c.format (count P + n) P.factor → ⊥
      small h = omega (arith, h.1 s there.slots, there.long, there.fits)

      -- there is no memory for it
      pub reserve-no_memory : IsPlainReserve c P n (Err Memory) P
      reserve-no_memory = record { table = tt; same_map = tt; room = tt; capacity = (λ e. absurd (not_both _ e refl), λ h. absurd (small h)); lacking = lacks; only = inr refl }

      -- the pairs have moved
      pub reserve-moves : IsValid c.format P → (Q : Table) → moved c.format P s ≡ Some Q → IsPlainReserve c P n (Ok tt) Q
      unfolding reserved
      reserve-moves ok Q at =
          let least = slots_for-IsLeastSlots _ _ s there.slots in
          let holds : count P + n ≤ max_items s P.factor = max_items-holds (count P + n) s P.factor least.holds in
          let h = moved-IsMoved c.format P ok s least.is_count (omega (arith, holds)) Q at in
          record {
            table = ap left (lt-leb _ _ lacks) ∙ ap (option_and_then (moved c.format P)) there.slots ∙ at;
            same_map = λ k. sym (h.maps k);
            room = subst (λ c. c + n ≤ max_items (slot_count Q) Q.factor) (sym h.counts)
                (subst (λ t. count P + n ≤ max_items t Q.factor) (sym h.slots) (subst (λ f. count P + n ≤ max_items s f) (sym h.factor) holds));
            capacity = (λ e. absurd (not_ok _ refl e), λ h. absurd (small h));
            lacking = tt;
            only = tt;
          }

-- ---- a table that is emptied
-- the slot count of the header is that of the table
pub slots_of_image : (F : Format) (P : Table) (B : List ℕ) → IsImage F P B → header_slots B ≡ slot_count P
slots_of_image F P B is = ap header_slots is.bytes ∙ header_slots-image F P (IsSized-IsPlaced F P is.valid.placed)

-- the empty table of the header's slot count and load factor is that of the table's
pub cleared_image : (F : Format) (P : Table) (B : List ℕ) → IsImage F P B → (C : List ℕ) → C ≡ image F (empty (header_slots B) (header_factor B)) → IsImage F (empty (slot_count P) P.factor) C
cleared_image F P B is C written =
    let slots = slots_of_image F P B is in
    record {
      valid = empty-IsValid (slot_count P) P.factor F is.valid.placed.slots is.valid.factor_low is.valid.factor_high;
      bytes = written ∙ (λ i. image F (empty (slots i) (factor_header F P B is i)));
    }
