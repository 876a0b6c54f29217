-- How much room a table has: a valid one has a free slot. Empty and fresh tables.
use Rattle.std.proofs.Common.{◌≡◌, ◌<◌, ◌≤◌, ◌*◌, ◌∙◌, ℕ, true, true≢false, sym, ap, subst, refl, List, [], Option, Some, None, length, arith, mul-le-mul_left}
use Rattle.std.proofs.lemmas.List.{length-replicate}
use Rattle.std.specs.Prelude.{option_map}
use Rattle.odht_base.specs.Format.{Format}
use Rattle.odht_base.specs.Insert.{place}
use Rattle.odht_base.specs.Load.{max_items, factor_of, slots_for, IsSlotCount, IsLeastSlots}
use Rattle.odht_base.specs.Map.{map_of, value_in}
use Rattle.odht_base.specs.Table.{Pair, Table, slot_count, is_free, walk, count, empty, fresh}
use Rattle.odht_base.specs.Valid.{HoldsPair, IsPlaced, IsValid}
use Rattle.odht_base.proofs.lemmas.Counts.{cell_at-free, pairs-free, free_cell}
use Rattle.odht_base.proofs.lemmas.Fits.{HasPairsOf-empty}
use Rattle.odht_base.proofs.lemmas.Least.{slots_for-IsLeastSlots}
use Rattle.odht_base.proofs.lemmas.Options.{some_same}
use Rattle.odht_base.proofs.lemmas.Places.{place-None}
use Rattle.odht_base.proofs.lemmas.SlotCounts.{slots_pos}
use Rattle.std.proofs.lemmas.Option.{none-some}

-- ---- the most items
pub max_items-lt : (s f : ℕ) → 0 < s → f ≤ 65535 → max_items s f < s
max_items-lt s f pos low = let h = mul-le-mul_left s low in omega arith

-- what fits the slots is no more than the most items
pub max_items-holds : (n s f : ℕ) → 65536 * n ≤ s * f → n ≤ max_items s f
max_items-holds n s f h = omega arith

-- the factor of at least one percent is in bounds
pub factor_of-low : (p : ℕ) → 1 ≤ p → 655 ≤ factor_of p
factor_of-low p h = omega arith

-- and of at most a hundred
pub factor_of-high : (p : ℕ) → p ≤ 100 → factor_of p ≤ 65535
factor_of-high p h = omega arith

-- ---- free slots
module _ (F : Format) (P : Table) (ok : IsValid F P) where
  pub count-lt : count P < slot_count P
  count-lt = omega (arith, ok.room, max_items-lt (slot_count P) P.factor (slots_pos (slot_count P) ok.placed.slots) ok.factor_high)

  -- a valid table has a free slot
  pub IsValid-free : (i : ℕ) × (i < slot_count P) × (is_free P.cells i ≡ true)
  IsValid-free = free_cell P.cells count-lt

-- where there is a free slot, a pair is placed
pub place-fits : (F : Format) (P : Table) (p : Pair) → IsPlaced F P → count P < slot_count P → (Q : Table) × (place F P p ≡ Some Q)
place-fits F P p ok l = go (place F P p) refl
  where
    go : (o : Option Table) → place F P p ≡ o → (Q : Table) × (o ≡ Some Q)
    go (Some Q) e = (Q, refl)
    go None e = let f = free_cell P.cells l in absurd (true≢false (sym f.2 ∙ ((place-None F P p ok).0 e f.0 f.1).0))

-- so it is in a valid table
pub place-IsValid_fits : (F : Format) (P : Table) (p : Pair) → IsValid F P → (Q : Table) × (place F P p ≡ Some Q)
place-IsValid_fits F P p ok = place-fits F P p ok.placed (count-lt F P ok)

module _ (s f : ℕ) where
  pub slot_count-empty : slot_count (empty s f) ≡ s
  slot_count-empty = length-replicate s None

  -- an empty table has no pairs
  pub walk-empty : walk (empty s f) ≡ []
  walk-empty = pairs-free s

  -- none
  pub count-empty : count (empty s f) ≡ 0
  count-empty = ap length walk-empty

  -- and no keys
  pub map_of-empty : (k : List ℕ) → map_of (empty s f) k ≡ None
  map_of-empty k = ap (λ ps. value_in ps k) walk-empty

  -- no slot of it holds a pair
  holds_none : (i : ℕ) (p : Pair) → HoldsPair (empty s f) i p → ⊥
  holds_none i p h = none-some p (sym (cell_at-free s i) ∙ h)

  -- it is placed
  pub empty-IsPlaced : (F : Format) → IsSlotCount s → IsPlaced F (empty s f)
  empty-IsPlaced F c = record {
    slots = subst IsSlotCount (sym slot_count-empty) c;
    pairs = HasPairsOf-empty F s f;
    distinct = λ i j p q hp hq e. absurd (holds_none i p hp);
    reached = λ i p h. absurd (holds_none i p h);
  }

  -- and valid where its factor is in bounds
  pub empty-IsValid : (F : Format) → IsSlotCount s → 655 ≤ f → f ≤ 65535 → IsValid F (empty s f)
  empty-IsValid F c low high = record {
    placed = empty-IsPlaced F c;
    factor_low = low;
    factor_high = high;
    room = omega (arith, count-empty);
  }

-- a fresh table is the empty one of its least slot count
pub fresh-slots : (n p : ℕ) (P : Table) → fresh n p ≡ Some P → (s : ℕ) × IsLeastSlots n (factor_of p) s × (empty s (factor_of p) ≡ P)
fresh-slots n p P e = go (slots_for n (factor_of p)) refl e
  where
    go : (o : Option ℕ) → slots_for n (factor_of p) ≡ o → option_map (λ s. empty s (factor_of p)) o ≡ Some P → (s : ℕ) × IsLeastSlots n (factor_of p) s × (empty s (factor_of p) ≡ P)
    go None is h = absurd (none-some P h)
    go (Some s) is h = (s, slots_for-IsLeastSlots n (factor_of p) s is, some_same _ _ h)

module _ (n p : ℕ) (P : Table) (e : fresh n p ≡ Some P) where
  -- a fresh table has no pairs
  pub count-fresh : count P ≡ 0
  count-fresh = let h = fresh-slots n p P e in ap count (sym h.2) ∙ count-empty h.0 (factor_of p)

  -- a fresh table has no keys
  pub map_of-fresh : (k : List ℕ) → map_of P k ≡ None
  map_of-fresh k = let h = fresh-slots n p P e in ap (λ x. map_of x k) (sym h.2) ∙ map_of-empty h.0 (factor_of p) k

  -- it is valid
  pub fresh-IsValid : (F : Format) → 1 ≤ p → p ≤ 100 → IsValid F P
  fresh-IsValid F low high =
      let h = fresh-slots n p P e in
      subst (IsValid F) h.2 (empty-IsValid h.0 (factor_of p) F h.1.is_count (factor_of-low p low) (factor_of-high p high))

  -- the items that it is made for fit
  pub max_items-fresh : n ≤ max_items (slot_count P) P.factor
  max_items-fresh =
      let h = fresh-slots n p P e in
      subst (λ (x : Table). n ≤ max_items (slot_count x) x.factor) h.2
      (subst (λ s. n ≤ max_items s (factor_of p)) (sym (slot_count-empty h.0 (factor_of p))) (max_items-holds n h.0 (factor_of p) h.1.holds))
