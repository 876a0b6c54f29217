-- Laws of the first error: of a list, of one condition, and of the slots in order.
use Rattle.std.proofs.Common.{◌≡◌, ◌<◌, ◌∙◌, ◌+◌, ℕ, zero, suc, Bool, true, false, not, ◌&&◌, ◌==◌, ap, subst, refl, List, Option, Some, None, Ok, Err, map, arith, eqb-true, eq-eqb}
use Rattle.std.specs.Prelude.{IsOk}
use Rattle.std.specs.List.{range_with_len}
use Rattle.std.specs.Option.{option_or}
use Rattle.std.proofs.lemmas.Slice.Eq.{bytes_eq-Decides}
use Rattle.odht_header.specs.declared.error.Error.{Error}
use Rattle.odht_header.specs.Refusals.{◌gives◌, first_of, first_slot, differs, lists_differ, checked}

-- ---- two in turn

-- where neither is an error, none is
pub option_or-None : {X : Type 0} (o p : Option X) → option_or o p ≡ None → (o ≡ None) × (p ≡ None)
option_or-None None p e = (refl, e)
option_or-None (Some x) p e = cc

-- and the converse
pub None-option_or : {X : Type 0} (o p : Option X) → o ≡ None → p ≡ None → option_or o p ≡ None
None-option_or None p e f = f
None-option_or (Some x) p e f = e

-- the first error stays
pub option_or-first : {X : Type 0} (o p : Option X) (x : X) → o ≡ Some x → option_or o p ≡ Some x
option_or-first None p x e = cc
option_or-first (Some y) p x e = e

-- and the second follows where the first is none
pub option_or-second : {X : Type 0} (o p : Option X) → o ≡ None → option_or o p ≡ p
option_or-second None p e = refl
option_or-second (Some y) p e = cc

-- two joined to one give the same
pub two-first : {X : Type 0} (o p r : Option X) (x : X) → option_or o p ≡ Some x → option_or o (option_or p r) ≡ Some x
two-first None None r x e = cc
two-first None (Some y) r x e = e
two-first (Some y) p r x e = e

-- and none behind the last changes nothing
pub last-first : {X : Type 0} (o : Option X) → option_or o None ≡ o
last-first None = refl
last-first (Some x) = refl

-- ---- one check

-- a check that passes has no error
pub Ok-checked : (o : Option Error) → Ok tt ≡ checked o → o ≡ None
Ok-checked None e = refl
Ok-checked (Some x) e = cc

-- and one that fails, its error
pub Err-checked : (o : Option Error) (x : Error) → Err x ≡ checked o → o ≡ Some x
Err-checked None x e = cc
Err-checked (Some y) x e = cc

-- it passes exactly where there is no error
pub IsOk-checked : (o : Option Error) → IsOk (checked o) → o ≡ None
IsOk-checked None h = refl
IsOk-checked (Some x) h = cc

-- and the converse
pub checked-IsOk : (o : Option Error) → o ≡ None → IsOk (checked o)
checked-IsOk None e = refl
checked-IsOk (Some x) e = cc

-- ---- one condition

-- no error where the condition fails, and only there
pub gives-None : (c : Bool) (e : Error) → (c gives e) ≡ None → c ≡ false
gives-None false e h = refl
gives-None true e h = cc

-- and the converse
pub None-gives : (c : Bool) (e : Error) → c ≡ false → (c gives e) ≡ None
None-gives false e h = refl
None-gives true e h = cc

-- what is not false is true
pub not-false : (c : Bool) → not c ≡ false → c ≡ true
not-false false h = cc
not-false true h = refl

-- and what is not true is false
pub not-true : (c : Bool) → not c ≡ true → c ≡ false
not-true false h = refl
not-true true h = cc

-- of two tests the second fails where the first holds, and only there is no error
pub gives_both-None : (c d : Bool) (e : Error) → (c && d gives e) ≡ None → c ≡ true → d ≡ false
gives_both-None true d e h t = gives-None d e h
gives_both-None false d e h t = cc

-- and the converse
pub None-gives_both : (c d : Bool) (e : Error) → (c ≡ true → d ≡ false) → (c && d gives e) ≡ None
None-gives_both true d e h = None-gives d e (h refl)
None-gives_both false d e h = refl

-- numbers that do not differ are one
pub differs-false : (m n : ℕ) → differs m n ≡ false → m ≡ n
differs-false m n h = eqb-true m n (not-false (m == n) h)

-- and the converse
pub false-differs : (m n : ℕ) → m ≡ n → differs m n ≡ false
false-differs m n h = ap not (eq-eqb m n h)

-- lists that do not differ are one
pub lists_differ-false : (xs ys : List ℕ) → lists_differ xs ys ≡ false → xs ≡ ys
lists_differ-false xs ys h = (bytes_eq-Decides xs ys).0 (not-false _ h)

-- and the converse
pub false-lists_differ : (xs ys : List ℕ) → xs ≡ ys → lists_differ xs ys ≡ false
false-lists_differ xs ys h = ap not ((bytes_eq-Decides xs ys).1 h)

-- an error where the condition holds
pub gives-Some : (c : Bool) (e : Error) → c ≡ true → (c gives e) ≡ Some e
gives-Some true e h = refl
gives-Some false e h = cc

-- ---- the slots in order

-- where the slots from a on give no error, none of them has one
first_from-None : (f : ℕ → Option Error) (a n : ℕ) → first_of (map f (range_with_len a n)) ≡ None → (i j : ℕ) → i < n → a + i ≡ j → f j ≡ None
first_from-None f a zero e i j h g = absurd (omega arith)
first_from-None f a (suc n) e zero j h g = let at : a ≡ j = omega arith in subst (λ k. f k ≡ None) at (option_or-None (f a) _ e).0
first_from-None f a (suc n) e (suc i) j h g = first_from-None f (a + 1) n (option_or-None (f a) _ e).1 i j (omega arith) (omega arith)

-- where no slot from a on has an error, there is none
None-first_from : (f : ℕ → Option Error) (a n : ℕ) → ((i j : ℕ) → i < n → a + i ≡ j → f j ≡ None) → first_of (map f (range_with_len a n)) ≡ None
None-first_from f a zero h = refl
None-first_from f a (suc n) h =
    None-option_or (f a) _ (h 0 a (omega arith) (omega arith)) (None-first_from f (a + 1) n (λ i j l e. h (suc i) j (omega arith) (omega arith)))

-- the first of the slots from a on that has one gives it
first_from-at : (f : ℕ → Option Error) (a n i j : ℕ) (x : Error) → i < n → a + i ≡ j → ((k : ℕ) → k < j → f k ≡ None) → f j ≡ Some x → first_of (map f (range_with_len a n)) ≡ Some x
first_from-at f a zero i j x h g below here = absurd (omega arith)
first_from-at f a (suc n) zero j x h g below here = let at : j ≡ a = omega arith in option_or-first (f a) _ x (subst (λ k. f k ≡ Some x) at here)
first_from-at f a (suc n) (suc i) j x h g below here =
    option_or-second (f a) _ (below a (omega arith)) ∙ first_from-at f (a + 1) n i j x (omega arith) (omega arith) below here

-- where the first n slots give no error, none of them has one
pub first_slot-None : (f : ℕ → Option Error) (n : ℕ) → first_slot f n ≡ None → (i : ℕ) → i < n → f i ≡ None
first_slot-None f n e i h = first_from-None f 0 n e i i h (omega arith)

-- a walk that met no error below n
pub None-first_slot : (f : ℕ → Option Error) (n : ℕ) → ((i : ℕ) → i < n → f i ≡ None) → first_slot f n ≡ None
None-first_slot f n h = None-first_from f 0 n (λ i j l e. let at : i ≡ j = omega arith in subst (λ k. f k ≡ None) at (h i l))

-- a walk that met no error below i, and the error x at i
pub first_slot-at : (f : ℕ → Option Error) (n i : ℕ) (x : Error) → i < n → ((k : ℕ) → k < i → f k ≡ None) → f i ≡ Some x → first_slot f n ≡ Some x
first_slot-at f n i x h below here = first_from-at f 0 n i i x h (omega arith) below here
