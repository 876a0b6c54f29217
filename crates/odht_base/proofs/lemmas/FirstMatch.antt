-- The first item of a list that passes a test: what makes it the first, and what follows from it.
use Rattle.std.proofs.Common.{◌≡◌, ℕ, ◌<◌, inl, inr, refl, sym, subst, ◌∙◌, arith, Bool, true, false, List, length, get_or, slice_get, Some, None, position, find, lt-ltb, le-ltb}
use Rattle.std.specs.List.{position_or_len}
use Rattle.std.proofs.lemmas.Bool.{cases_lt}
use Rattle.std.proofs.lemmas.Option.{none-some, slice_get_within, slice_get_past, slice_get-get_or, get_or_from_slice_get}
use Rattle.std.proofs.lemmas.List.Folds.{find_at}
use Rattle.std.proofs.lemmas.List.Sums.{position_or_len_is, passes_at_first, fails_before_first}

module _ {X : Type 0} (t : X → Bool) where
  -- item i is the first
  first_at : (xs : List X) (i : ℕ) (d : X) → i < length xs → ((k : ℕ) → k < i → t (get_or xs k d) ≡ false) → t (get_or xs i d) ≡ true → position_or_len t xs ≡ i
  first_at xs i d l before here = position_or_len_is t xs i d (omega arith) before (λ _. here)

  -- no item passes
  first_past : (xs : List X) (d : X) → ((k : ℕ) → k < length xs → t (get_or xs k d) ≡ false) → position_or_len t xs ≡ length xs
  first_past xs d all = position_or_len_is t xs (length xs) d (omega arith) all (λ l. absurd (omega arith))

  -- so `position` answers its index
  pub position_is : (xs : List X) (i : ℕ) (d : X) → i < length xs → ((k : ℕ) → k < i → t (get_or xs k d) ≡ false) → t (get_or xs i d) ≡ true → position t xs ≡ Some i
  position_is xs i d l before here = rw (first_at xs i d l before here, lt-ltb i (length xs) l) refl

  -- or none
  pub position_none : (xs : List X) (d : X) → ((k : ℕ) → k < length xs → t (get_or xs k d) ≡ false) → position t xs ≡ None
  position_none xs d all = rw (first_past xs d all, le-ltb (length xs) (length xs) (omega arith)) refl

  -- and `find` the item
  pub find_is : (xs : List X) (i : ℕ) (d : X) → i < length xs → ((k : ℕ) → k < i → t (get_or xs k d) ≡ false) → t (get_or xs i d) ≡ true → find t xs ≡ Some (get_or xs i d)
  find_is xs i d l before here = find_at t xs ∙ rw (first_at xs i d l before here) (slice_get-get_or xs i d l)

  -- or none
  pub find_none : (xs : List X) (d : X) → ((k : ℕ) → k < length xs → t (get_or xs k d) ≡ false) → find t xs ≡ None
  find_none xs d all = find_at t xs ∙ rw (first_past xs d all) (slice_get_past xs (length xs) (omega arith))

  -- x is the first item that passes
  pub record IsFirst (xs : List X) (x : X) : Type 0 where
    pub position : ℕ
    pub is : slice_get xs position ≡ Some x
    pub passes : t x ≡ true
    pub before : (j : ℕ) (y : X) → j < position → slice_get xs j ≡ Some y → t y ≡ false

  -- what `find` answers is that
  pub find-Some : (xs : List X) (x : X) → find t xs ≡ Some x → IsFirst xs x
  find-Some xs x e =
      let at = sym (find_at t xs) ∙ e in
      let within = slice_get_within xs (position_or_len t xs) x at in
      record {
        position = position_or_len t xs;
        is = at;
        passes = subst (λ y. t y ≡ true) (get_or_from_slice_get xs (position_or_len t xs) x x at) (passes_at_first t xs x within);
        before = λ j y h g. subst (λ z. t z ≡ false) (get_or_from_slice_get xs j y x g) (fails_before_first t xs j x h);
      }

  -- where it answers none, no item passes
  pub find-None : (xs : List X) → find t xs ≡ None → (i : ℕ) (x : X) → slice_get xs i ≡ Some x → t x ≡ false
  find-None xs e i x g = elim (cases_lt (position_or_len t xs) (length xs)) [
    | inl l ↦ absurd (none-some _ (sym (sym (find_at t xs) ∙ e) ∙ slice_get-get_or xs (position_or_len t xs) x l))
    | inr m ↦
        let l = slice_get_within xs i x g in
        subst (λ z. t z ≡ false) (get_or_from_slice_get xs i x x g) (fails_before_first t xs i x (omega arith))
  ]
