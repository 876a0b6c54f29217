-- One insert with room for that many new entries.
use Rattle.std.proofs.Common.{◌≡◌, ◌<◌, ◌+◌, ◌-◌, ◌∙◌, ℕ, true, true≢false, inl, inr, sym, ap, subst, refl, arith, List, [], length, slice_index, Option, Some, None, Result, Ok, Err}
use Rattle.std.specs.Prelude.{option_map, is_none, ◌↔◌}
use Rattle.std.specs.Result.{result_map_both}
use Rattle.odht_raw.proofs.lemmas.Below.{cases_order, free_cell, none-some, place-None, probe_slot-lt, slice_index-controls, slice_index-mirror, value_in-Some}
use Rattle.odht_raw.specs.Words.{cell_at, control_byte, count, Error, Format, Full, home, is_free, IsFormat, IsPartsOf, IsReached, map_of, Pair, place, probe_slot, slot_count, slot_value, Table, tag}
use Rattle.odht_raw.specs.ControlBytes.{CountsAsFree, GoesOn, EachCountsAsOccupied, IsMissing, order_slot}
use Rattle.odht_raw.specs.Frame.{PartsFrame, IsPartsFramed}
use Rattle.odht_raw.specs.Parts.{stored_in}
use Rattle.odht_raw.specs.PartsInserts.{AnswersFormer, IsPartsInsert, IsInsertChange}
use Rattle.odht_raw.specs.SearchSteps.{slot_of}
use Rattle.odht_raw.specs.Steps.{StepFrame, IsStepFramed, IsStepChange}
use Rattle.odht_raw.proofs.lemmas.FreeSearches.{is_free_slot, is_occupied_slot, no_free-answer}
use Rattle.odht_raw.proofs.lemmas.Lookups.{answer-Neither}
use Rattle.odht_raw.proofs.lemmas.PartCells.{slots_are, key_is}

-- ---- the parts of a placed table
module _ (F : Format) (P : Table) (es ctrl : List ℕ) (f : IsFormat F) (h : IsPartsOf F P es ctrl) (s : ℕ) (long : length ctrl ≡ s + 16) where
  slots : length ctrl - 16 ≡ slot_count P
  slots = omega (arith, long, slots_are F f P es ctrl h s long)

  slot_low : (k : List ℕ) (q : ℕ) → slot_of F P k q < slot_count P
  slot_low k q = let few = h.placed.slots.least in probe_slot-lt (home F k (slot_count P)) (slot_count P) q (omega arith)

  -- a slot of the order that counts as free is free
  free_at : (k : List ℕ) (q : ℕ) → CountsAsFree ctrl (order_slot F (stored_in es ctrl) k q) → is_free P.cells (slot_of F P k q) ≡ true
  free_at k q free =
      is_free_slot F P k es ctrl f h s long (slot_of F P k q) (slot_low k q)
      (subst (CountsAsFree ctrl) (ap (λ n. probe_slot (home F k n) n q) slots) free)

  -- a search does not go on from the slot that holds the key
  stays_at : (k : List ℕ) (i : ℕ) (p : Pair) → cell_at P.cells i ≡ Some p → k ≡ p.key → i < slot_count P → GoesOn F (stored_in es ctrl) ctrl k i → ⊥
  stays_at k i p holds same low (inl own) =
      own.1 (ap (λ c. slice_index c i) h.controls_are ∙ slice_index-controls F P.cells i low ∙ ap (control_byte F) holds ∙ ap (tag F) (sym same))
      (key_is F f P es ctrl h i p holds ∙ sym same)
  stays_at k i p holds same low (inr mirror) =
      let at : length ctrl - 16 + i ≡ slot_count P + i = omega (arith, slots) in
      mirror.1.1
      ((λ j. slice_index (h.controls_are j) (at j)) ∙ slice_index-mirror F P.cells i mirror.0 low ∙ ap (control_byte F) holds ∙ ap (tag F) (sym same))
      (key_is F f P es ctrl h i p holds ∙ sym same)

  -- the table does not have a key without which a search can end
  pub missing-absent : (k : List ℕ) → IsMissing F (stored_in es ctrl) ctrl k → map_of P k ≡ None
  missing-absent k (p, low, on, end) = go (map_of P k) refl
    where
      apart : (i : ℕ) (d : Pair) → cell_at P.cells i ≡ Some d → k ≡ d.key → IsReached F P k i → ⊥
      apart i d holds same r = elim (cases_order r.position p) [
        | inl here ↦
            let free = free_at k p (end (omega (arith, here, r.in_order, slots))) in
            true≢false (sym free ∙ ap (is_free P.cells) (ap (slot_of F P k) (sym here) ∙ r.slot_is) ∙ ap is_none holds)
        | inr other ↦ elim other [
          | inl before ↦
              let at : order_slot F (stored_in es ctrl) k r.position ≡ i = ap (λ n. probe_slot (home F k n) n r.position) slots ∙ r.slot_is in
              stays_at k i d holds same (subst (λ j. j < slot_count P) r.slot_is (slot_low k r.position))
              (subst (GoesOn F (stored_in es ctrl) ctrl k) at (on r.position before))
          | inr behind ↦ true≢false (sym (free_at k p (end (omega (arith, behind, r.in_order, slots)))) ∙ r.earlier_occupied p behind)
        ]
      ]

      go : (o : Option (List ℕ)) → map_of P k ≡ o → o ≡ None
      go None e = refl
      go (Some v) e =
          let at = value_in-Some P.cells k v e in
          absurd (apart at.0 at.1 at.2 at.3 (subst (λ (x : List ℕ). IsReached F P x at.0) (sym at.3) (h.placed.reached at.0 at.1 at.2)))

  -- such a key has no place where each slot counts as occupied
  pub missing-no_place : (p : Pair) → EachCountsAsOccupied ctrl (length ctrl - 16) → IsMissing F (stored_in es ctrl) ctrl p.key → place F P p ≡ None
  missing-no_place p none missing =
      let same : length ctrl - 16 ≡ s = omega (arith, long) in
      (answer-Neither F P p.key h.placed
      (no_free-answer F P p.key es ctrl f h s long (missing-absent p.key missing) (subst (EachCountsAsOccupied ctrl) same none))).places p refl

  -- where there are fewer pairs than slots, some slot counts as free
  pub has_free_slot : count P < slot_count P → EachCountsAsOccupied ctrl (length ctrl - 16) → ⊥
  has_free_slot below none =
      let free = free_cell P.cells below in
      true≢false (sym free.2 ∙ is_occupied_slot F P [] es ctrl f h s long free.0 free.1 (none free.0 (omega (arith, free.1, slots))))

-- ---- what a step answers
module _ {V : Type 0} (F : Format) (f : List ℕ → V) (m : ℕ) (p : Pair) (r : Result (Option V) Error) where
  -- an error is Full, and changes nothing
  pub step_refusal : (es ctrl es' ctrl' : List ℕ) (e : Error) → r ≡ Err e → IsStepFramed F f m es ctrl p r es' ctrl' → StepFrame F m es' ctrl' p (Err Full) es' ctrl'
  step_refusal es ctrl es' ctrl' e err framed = go es ctrl es' ctrl' framed.0 framed.1 framed.2
    where
      go : (es ctrl es' ctrl' : List ℕ) (a : Result (Option (List ℕ)) Error) → r ≡ result_map_both (option_map f) (λ x. x) a → StepFrame F m es ctrl p a es' ctrl' → StepFrame F m es' ctrl' p (Err Full) es' ctrl'
      go es ctrl es' ctrl' a is (StepFrame.no_room none missing) = StepFrame.no_room none missing
      go es ctrl es' ctrl' a is (StepFrame.framed _ _ _ room (PartsFrame.no_slot none missing)) =
          StepFrame.framed (Err Full) es' ctrl' (λ d. cc) (PartsFrame.no_slot none missing)
      go es ctrl es' ctrl' a is (StepFrame.framed _ _ _ room (PartsFrame.overwrote i low key)) = absurd (let both : Err e ≡ Ok (Some (f (slot_value F es i))) = sym err ∙ is in cc)
      go es ctrl es' ctrl' a is (StepFrame.framed _ _ _ room (PartsFrame.added i low free)) = absurd (let both : Err e ≡ Ok None = sym err ∙ is in cc)

  -- a new entry had room
  pub step_added : (es ctrl es' ctrl' : List ℕ) → r ≡ Ok None → IsStepFramed F f m es ctrl p r es' ctrl' → 0 < m
  step_added es ctrl es' ctrl' ok framed = go es ctrl es' ctrl' framed.0 framed.1 framed.2
    where
      go : (es ctrl es' ctrl' : List ℕ) (a : Result (Option (List ℕ)) Error) → r ≡ result_map_both (option_map f) (λ x. x) a → StepFrame F m es ctrl p a es' ctrl' → 0 < m
      go es ctrl es' ctrl' a is (StepFrame.no_room none missing) = absurd (let both : Ok None ≡ Err Full = sym ok ∙ is in cc)
      go es ctrl es' ctrl' (Ok None) is (StepFrame.framed _ _ _ room frame) = room refl
      go es ctrl es' ctrl' (Ok (Some v)) is (StepFrame.framed _ _ _ room frame) = absurd (let both : Ok None ≡ Ok (Some (f v)) = sym ok ∙ is in cc)
      go es ctrl es' ctrl' (Err x) is (StepFrame.framed _ _ _ room frame) = absurd (let both : Ok None ≡ Err x = sym ok ∙ is in cc)

  -- an insert that is accepted does what an insert may
  pub step_accepted : (es ctrl es' ctrl' : List ℕ) (o : Option V) → r ≡ Ok o → IsStepFramed F f m es ctrl p r es' ctrl' → IsPartsFramed F f es ctrl p r es' ctrl'
  step_accepted es ctrl es' ctrl' o ok framed = go es ctrl es' ctrl' framed.0 framed.1 framed.2
    where
      go : (es ctrl es' ctrl' : List ℕ) (a : Result (Option (List ℕ)) Error) → r ≡ result_map_both (option_map f) (λ x. x) a → StepFrame F m es ctrl p a es' ctrl' → IsPartsFramed F f es ctrl p r es' ctrl'
      go es ctrl es' ctrl' a is (StepFrame.no_room none missing) = absurd (let both : Ok o ≡ Err Full = sym ok ∙ is in cc)
      go es ctrl es' ctrl' a is (StepFrame.framed _ _ _ room frame) = (a, is, frame)

  module _ (some : 0 < m) where
    -- and so does each insert with room
    pub step-change : (es ctrl es' ctrl' : List ℕ) → IsStepChange F f m es ctrl p r es' ctrl' → IsInsertChange F f es ctrl p r es' ctrl'
    step-change es ctrl es' ctrl' change = record {
      frame = go es ctrl es' ctrl' change.frame.0 change.frame.1 change.frame.2;
      errors = change.errors;
    }
      where
        go : (es ctrl es' ctrl' : List ℕ) (a : Result (Option (List ℕ)) Error) → r ≡ result_map_both (option_map f) (λ x. x) a → StepFrame F m es ctrl p a es' ctrl' → IsPartsFramed F f es ctrl p r es' ctrl'
        go es ctrl es' ctrl' a is (StepFrame.no_room none missing) = absurd (omega (arith, none, some))
        go es ctrl es' ctrl' a is (StepFrame.framed _ _ _ room frame) = (a, is, frame)

    -- on the parts of a placed table it answers Full exactly where the pair has no place
    pub step-insert : (P : Table) (es ctrl es' ctrl' : List ℕ) (s : ℕ) → IsFormat F → length ctrl ≡ s + 16 → IsPartsOf F P es ctrl → AnswersFormer F f P p r es' ctrl'
        → IsStepChange F f m es ctrl p r es' ctrl' → IsPartsInsert F f P p r es' ctrl'
    step-insert P es ctrl es' ctrl' s fit long h former change =
        record { ok = former; full = full; no_room = (λ e. (place-None F P p h.placed).0 (full.0 e), λ none. full.1 ((place-None F P p h.placed).1 none)) }
      where
        framed : IsPartsFramed F f es ctrl p r es' ctrl'
        framed = (step-change es ctrl es' ctrl' change).frame

        unplaced : (es ctrl es' ctrl' : List ℕ) → IsPartsOf F P es ctrl → length ctrl ≡ s + 16 → r ≡ Err Full → (a : Result (Option (List ℕ)) Error) → r ≡ result_map_both (option_map f) (λ x. x) a
            → PartsFrame F es ctrl p a es' ctrl' → place F P p ≡ None
        unplaced es ctrl es' ctrl' h long e a is (PartsFrame.no_slot none missing) = missing-no_place F P es ctrl fit h s long p none missing
        unplaced es ctrl es' ctrl' h long e a is (PartsFrame.overwrote i low key) = absurd (let both : Err Full ≡ Ok (Some (f (slot_value F es i))) = sym e ∙ is in cc)
        unplaced es ctrl es' ctrl' h long e a is (PartsFrame.added i low free) = absurd (let both : Err Full ≡ Ok None = sym e ∙ is in cc)

        refused : (x : Result (Option V) Error) → r ≡ x → place F P p ≡ None → x ≡ Err Full
        refused (Ok o) e none = absurd (none-some _ (sym none ∙ (subst (λ (y : Result (Option V) Error). AnswersFormer F f P p y es' ctrl') e former).1.1))
        refused (Err y) e none = (subst (λ (z : Result (Option V) Error). IsStepChange F f m es ctrl p z es' ctrl') e change).errors.only_full

        full : (r ≡ Err Full) ↔ (place F P p ≡ None)
        full = (λ e. unplaced es ctrl es' ctrl' h long e framed.0 framed.1 framed.2, λ none. refused r refl none)
