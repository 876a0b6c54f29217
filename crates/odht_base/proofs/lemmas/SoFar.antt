-- The slots taken so far in the search for an insert order: one more, how many they can be, and what is stuck.
use Rattle.std.proofs.Common.{◌≡◌, ◌≢◌, ◌<◌, ◌≤◌, ◌+◌, ◌∙◌, ◌++◌, inl, inr, ℕ, zero, suc, sym, ap, subst, refl, List, [], ◌∷◌, length, take, drop, get_or, slice_index, arith, Contains}
use Rattle.std.proofs.lemmas.Bool.{cases_eq}
use Rattle.std.proofs.lemmas.List.{get_or-take, get_or_push, get_or_append_left, get_or_default, length_push, length-take, take_all, take_more, take-append-drop, take-append-le}
use Rattle.std.proofs.lemmas.List.Elements.{All-cons, Contains-append_left, Contains-get_or, Contains-push_cases}
use Rattle.std.proofs.lemmas.List.Kept.{AllPairs-cons}
use Rattle.std.proofs.lemmas.List.Quantifiers.{all_pairs_push}
use Rattle.odht_base.specs.Format.{Format}
use Rattle.odht_base.specs.Made.{occupied}
use Rattle.odht_base.specs.Ready.{IsReady, IsSoFar, IsStuck}
use Rattle.odht_base.specs.Table.{Pair, Table, count}
use Rattle.odht_base.specs.Valid.{HoldsPair}
use Rattle.odht_base.proofs.lemmas.OccupiedSlots.{occupied-Contains, length-occupied}
use Rattle.odht_base.proofs.lemmas.Pigeons.{pigeons_fit}
use Rattle.odht_base.proofs.lemmas.ReadySlots.{ready_later}

-- an item of the first n is an item
pub Contains-take : (n : ℕ) (xs : List ℕ) (i : ℕ) → Contains (take n xs) i → Contains xs i
Contains-take n xs i h = subst (λ ys. Contains ys i) (take-append-drop n xs) (Contains-append_left (take n xs) (drop n xs) i h)

module _ (F : Format) (P : Table) where
  -- none are taken
  pub so_far_none : IsSoFar F P []
  so_far_none = record { apart = λ i j d lt l. absurd (omega arith); ready = λ n l. absurd (omega arith) }

  -- a ready slot more
  pub so_far_push : (xs : List ℕ) (i : ℕ) → IsSoFar F P xs → (Contains xs i → ⊥) → IsReady F P xs i → IsSoFar F P (xs ++ i ∷ [])
  so_far_push xs i s out r = record {
    apart = all_pairs_push (λ a b. a ≢ b) xs i s.apart (λ k d l e. out (subst (Contains xs) e (Contains-get_or xs k d l)));
    ready = λ n l. elim (cases_eq n (length xs)) [
      | inl last ↦
          subst (λ m. IsReady F P (take m (xs ++ i ∷ [])) (slice_index (xs ++ i ∷ []) m)) (sym last)
          (subst (λ x. IsReady F P (take (length xs) (xs ++ i ∷ [])) x) (sym (get_or_push xs i 0 (length xs) refl))
          (subst (λ ys. IsReady F P ys i) (sym (take-append-le (length xs) xs (i ∷ []) (omega arith) ∙ take_all (length xs) xs (omega arith))) r))
      | inr before ↦
          let low : n < length xs = omega (arith, l, length_push xs i, before) in
          subst (λ x. IsReady F P (take n (xs ++ i ∷ [])) x) (sym (get_or_append_left xs (i ∷ []) 0 n low))
          (subst (λ ys. IsReady F P ys (slice_index xs n)) (sym (take-append-le n xs (i ∷ []) (omega arith))) (s.ready n low))
    ];
  }

  -- each of them holds a pair
  pub so_far_holds : (xs : List ℕ) → IsSoFar F P xs → (i : ℕ) → Contains xs i → (p : Pair) × HoldsPair P i p
  so_far_holds xs s i h =
      let r = s.ready h.0 h.1 in
      (r.pair, subst (λ j. HoldsPair P j r.pair) (get_or_default xs h.0 0 i h.1 ∙ h.2) r.holds)

  -- no slot is among those before it
  pub so_far_new : (xs : List ℕ) → IsSoFar F P xs → (n : ℕ) → n < length xs → Contains (take n xs) (slice_index xs n) → ⊥
  so_far_new xs s n l h =
      let k : h.0 < n = omega (arith, h.1, length-take n xs) in
      s.apart h.0 n (slice_index xs n) k l (sym (get_or-take n xs h.0 (slice_index xs n) k) ∙ h.2 ∙ sym (get_or_default xs n (slice_index xs n) 0 l))

  -- they are fewer than the pairs where an occupied slot is left
  pub so_far_lt : (xs : List ℕ) (i : ℕ) (p : Pair) → IsSoFar F P xs → HoldsPair P i p → (Contains xs i → ⊥) → length xs < count P
  so_far_lt xs i p s holds out =
      let few = pigeons_fit (i ∷ xs) (occupied P)
      (AllPairs-cons (λ a b. a ≢ b) i xs (λ k d l e. out (subst (Contains xs) (sym e) (Contains-get_or xs k d l))) s.apart)
      (All-cons (Contains (occupied P)) i xs ((occupied-Contains P i).1 (p, holds)) (λ k d l. (occupied-Contains P (get_or xs k d)).1 (so_far_holds xs s (get_or xs k d) (Contains-get_or xs k d l)))) in
      omega (arith, few, length-occupied P)

  -- where a search is stuck, it has taken all that any other has
  pub stuck_has_all : (xs ys : List ℕ) → IsStuck F P xs → IsSoFar F P ys → (i : ℕ) → Contains ys i → Contains xs i
  stuck_has_all xs ys stuck s i h = go (length ys) (omega arith) i (subst (λ zs. Contains zs i) (sym (take_all (length ys) ys (omega arith))) h)
    where
      go : (n : ℕ) → n ≤ length ys → (j : ℕ) → Contains (take n ys) j → Contains xs j
      go zero l j g = absurd (omega (arith, g.1))
      go (suc n) l j g = elim (Contains-push_cases (take n ys) (slice_index ys n) j (subst (λ zs. Contains zs j) more g)) [
        | inl old ↦ go n (omega arith) j old
        | inr new ↦ subst (Contains xs) new (stuck (slice_index ys n) (ready_later F P (take n ys) xs (slice_index ys n) (go n (omega arith)) (s.ready n (omega arith))))
      ]
        where
          more : take (suc n) ys ≡ take n ys ++ slice_index ys n ∷ []
          more = let e : suc n ≡ n + 1 = omega arith in ap (λ m. take m ys) e ∙ take_more ys n 0 (omega arith)
