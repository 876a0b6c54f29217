-- Which error a view gives for one slot, by whether the slot counts as free.
use Rattle.std.proofs.Common.{◌≡◌, ◌<◌, ◌∙◌, ◌-◌, ◌==◌, ℕ, zero, suc, Bool, true, false, min, not, ◌&&◌, ap, refl, List, [], ◌∷◌, Some, None, length, replicate, slice_index, eqb-true, if◌then◌else◌}
use Rattle.std.specs.List.{list_all}
use Rattle.odht_raw.proofs.lemmas.Below.{and_parts, false_from_ne_true, first_slot-at, None-first_slot}
use Rattle.odht_raw.specs.Words.{ControlMismatch, counts_as_free, differs, Error, first_of, first_slot, Format, hashes_refusal, hashes_refusal_at, NonZeroEmpty, slot_entry, slot_key, tag, ◌gives◌}

abbrev pub is_zero : ℕ → Bool
is_zero x = x == 0

-- zeros are all zero
pub list_all-zeros : (n : ℕ) → list_all is_zero (replicate n 0) ≡ true
list_all-zeros zero = refl
list_all-zeros (suc n) = list_all-zeros n

-- and nothing else is
pub zeros-list_all : (xs : List ℕ) → list_all is_zero xs ≡ true → xs ≡ replicate (length xs) 0
zeros-list_all [] h = refl
zeros-list_all (x ∷ xs) h =
    let p = and_parts _ _ h in
    λ i. eqb-true x 0 p.0 i ∷ zeros-list_all xs p.1 i

-- the error of a slot, by its tests
by_tests : (free zeros same : Bool) (e f : Error) → first_of ((free && not zeros gives e) ∷ (not free && not same gives f) ∷ []) ≡ (if free then (not zeros gives e) else (not same gives f))
by_tests true true same e f = refl
by_tests true false same e f = refl
by_tests false zeros true e f = refl
by_tests false zeros false e f = refl

module _ (F : Format) (es ctrl : List ℕ) (i : ℕ) where
  refusal_is : hashes_refusal_at F es ctrl i ≡ (if counts_as_free (slice_index ctrl i) then (not (list_all is_zero (slot_entry F es i)) gives NonZeroEmpty i) else (differs (slice_index ctrl i) (tag F (slot_key F es i)) gives ControlMismatch i (tag F (slot_key F es i)) (slice_index ctrl i)))
  refusal_is = by_tests (counts_as_free (slice_index ctrl i)) (list_all is_zero (slot_entry F es i)) (slice_index ctrl i == tag F (slot_key F es i)) _ _

  -- a slot that does not count as free has an error where its control byte is not its key's tag
  pub occupied_refusal : counts_as_free (slice_index ctrl i) ≡ false → hashes_refusal_at F es ctrl i ≡ (differs (slice_index ctrl i) (tag F (slot_key F es i)) gives ControlMismatch i (tag F (slot_key F es i)) (slice_index ctrl i))
  occupied_refusal h = refusal_is ∙ rw h refl

  -- any other has none where its entry is zeros
  pub zero_entry_passes : counts_as_free (slice_index ctrl i) ≡ true → (n : ℕ) → slot_entry F es i ≡ replicate n 0 → hashes_refusal_at F es ctrl i ≡ None
  zero_entry_passes h n e =
      let zeros : list_all is_zero (slot_entry F es i) ≡ true = ap (list_all is_zero) e ∙ list_all-zeros n in
      refusal_is ∙ rw (h, zeros) refl

  -- and one where its entry is not zeros
  pub other_entry_refusal : counts_as_free (slice_index ctrl i) ≡ true → (slot_entry F es i ≡ replicate (length (slot_entry F es i)) 0 → ⊥) → hashes_refusal_at F es ctrl i ≡ Some (NonZeroEmpty i)
  other_entry_refusal h other =
      let zeros : list_all is_zero (slot_entry F es i) ≡ false = false_from_ne_true _ (λ t. other (zeros-list_all _ t)) in
      refusal_is ∙ rw (h, zeros) refl

module _ (F : Format) (es ctrl : List ℕ) (n s : ℕ) (slots : min n (length ctrl - 16) ≡ s) where
  -- there is no error where no slot has one
  pub hashes_refusal-None : ((i : ℕ) → i < s → hashes_refusal_at F es ctrl i ≡ None) → hashes_refusal F es ctrl n ≡ None
  unfolding hashes_refusal
  hashes_refusal-None h = ap (first_slot (hashes_refusal_at F es ctrl)) slots ∙ None-first_slot (hashes_refusal_at F es ctrl) s h

  -- otherwise that of the first slot that has one
  pub hashes_refusal-at : (i : ℕ) (x : Error) → i < s → ((k : ℕ) → k < i → hashes_refusal_at F es ctrl k ≡ None) → hashes_refusal_at F es ctrl i ≡ Some x → hashes_refusal F es ctrl n ≡ Some x
  unfolding hashes_refusal
  hashes_refusal-at i x l below here = ap (first_slot (hashes_refusal_at F es ctrl)) slots ∙ first_slot-at (hashes_refusal_at F es ctrl) s i x l below here
