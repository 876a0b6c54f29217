-- What a test says about the things that it looks at.
--     are_distinct               two things, of which one passes a test and the other not
--     unequal, unequal_lists   two numbers, and two lists of numbers
--     some_unequal_lists       two such lists, of which one might have been missing
--     tested, untrue           each of the first n numbers passes a test, or none
--     neither                  one of two tests holds
use Rattle.std.proofs.Common.{◌≡◌, ◌<◌, ◌∙◌, ℕ, Bool, true, false, true≢false, not, ◌||◌, refl, sym, ap, List, Some, subst, arith, zero-add}
use Rattle.std.specs.List.{range_with_len, list_all}
use Rattle.std.proofs.lemmas.List.FromFn.{get_or-range_with_len, length-range_with_len}
use Rattle.std.proofs.lemmas.List.Sums.{AllPass-from_list_all}
use Rattle.odht_header.specs.Refusals.{differs, lists_differ}
use Rattle.odht_header.proofs.lemmas.FirstErrors.{false-differs, false-lists_differ}

-- two things, of which the one passes a test and the other not, are not the same
pub are_distinct : {X : Type 0} (test : X → Bool) (x y : X) → test x ≡ true → test y ≡ false → x ≡ y → ⊥
are_distinct test x y passes fails e = true≢false (sym passes ∙ ap test e ∙ fails)

-- numbers that differ are not equal
pub unequal : (m n : ℕ) → differs m n ≡ true → m ≡ n → ⊥
unequal m n h e = true≢false (sym h ∙ false-differs m n e)

-- nor are lists of them
pub unequal_lists : (xs ys : List ℕ) → lists_differ xs ys ≡ true → xs ≡ ys → ⊥
unequal_lists xs ys h e = true≢false (sym h ∙ false-lists_differ xs ys e)

-- also where one might have been missing
pub some_unequal_lists : (xs ys : List ℕ) → lists_differ xs ys ≡ true → Some xs ≡ Some ys → ⊥
some_unequal_lists xs ys h e = unequal_lists xs ys h cc

-- a test of each of the first n numbers
pub tested : (f : ℕ → Bool) (n i : ℕ) → list_all f (range_with_len 0 n) ≡ true → i < n → f i ≡ true
tested f n i h low =
    subst (λ j. f j ≡ true) (get_or-range_with_len 0 n i 0 low ∙ zero-add i)
    (AllPass-from_list_all f (range_with_len 0 n) h i 0 (omega (arith, low, length-range_with_len 0 n)))

-- a test that fails for each of the first n numbers holds for none of them
pub untrue : (f : ℕ → Bool) (n i : ℕ) → list_all (λ j. not (f j)) (range_with_len 0 n) ≡ true → i < n → f i ≡ true → ⊥
untrue f n i h low e = true≢false (sym (tested (λ j. not (f j)) n i h low) ∙ ap not e)

-- where one of two tests holds, not both are refuted
pub neither : (a b : Bool) → (a ≡ true → ⊥) → (b ≡ true → ⊥) → (a || b) ≡ true → ⊥
neither true b f g h = f refl
neither false b f g h = g h
