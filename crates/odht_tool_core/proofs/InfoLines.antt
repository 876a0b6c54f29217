-- The lines of `info`.
use Rattle.std.proofs.Common.{◌≡◌, ◌∙◌, ℕ, zero, suc, ◌-◌, ◌*◌, ◌/◌, ◌<◌, ◌≤◌, max, false, List, [], ◌∷◌, ◌++◌, Option, Result, Ok, Err, length, get_or, replicate, ne_eqb, sym, ap, refl, arith, if◌then◌else◌}
use Rattle.std.specs.Fmt.{decimal, padded_integral, styled_decimal, format_spec, char_count}
use Rattle.std.specs.Io.KnownBytes.{Appends}
use Rattle.std.specs.List.{fold, repeat}
use Rattle.std.specs.Prelude.{OnOk, codes}
use Rattle.std.proofs.KnownBytes.{Appends-trans}
use Rattle.std.proofs.lemmas.List.{append_assoc}
use Rattle.std.proofs.lemmas.Grind.{common_steps}
use Rattle.std.proofs.Math.Nat.{le-max_left, le-max_right}
use Rattle.odht_tool_core.specs.InfoNumbers.{largest}
use Rattle.odht_tool_core.specs.InfoTexts.{aligned, bar}

-- what a call appends after something else is appended with it
pub then_appends : {X E : Type 0} (r : Result X E) (a b c : Option (List ℕ)) (xs ys : List ℕ) → Appends a b xs → OnOk r (Appends b c ys) → OnOk r (Appends a c (xs ++ ys))
then_appends (Ok x) a b c xs ys p q = Appends-trans a b c xs ys p q
then_appends (Err e) a b c xs ys p q = q

-- spaces in turn
spaces : (n : ℕ) → repeat {A = ℕ} n (32 ∷ []) ≡ replicate n 32
spaces zero = refl
spaces (suc n) = ap (λ xs. 32 ∷ xs) (spaces n)

-- a number that is aligned to the right
pub aligned-padded : (w x : ℕ) → padded_integral (format_spec 32 3 0 w 18446744073709551615) false [] (decimal x) ≡ aligned w x
unfolding padded_integral char_count aligned lib.Utf8.encode
aligned-padded w x =
    let d = decimal x in
    let p = w - length d in
    let none : p - p ≡ 0 = omega arith in
    let front : repeat {A = ℕ} (p - 0 - 0) (32 ∷ []) ≡ replicate p 32 = let e : p - 0 - 0 ≡ p = omega arith in ap (λ n. repeat {A = ℕ} n (32 ∷ [])) e ∙ spaces p in
    let back : repeat {A = ℕ} (p - 0 - 0 - (p - 0 - 0)) (32 ∷ []) ≡ [] = let e : p - 0 - 0 - (p - 0 - 0) ≡ 0 = omega arith in ap (λ n. repeat {A = ℕ} n (32 ∷ [])) e in
    ap (λ ss. ss ++ [] ++ [] ++ [] ++ (d ++ repeat {A = ℕ} (p - 0 - 0 - (p - 0 - 0)) (32 ∷ []))) front
    ∙ ap (λ t. replicate p 32 ++ [] ++ [] ++ [] ++ (d ++ t)) back
    ∙ grind (arith, common_steps)

-- the bar of a count that is not 0
pub bar-some : (c m s : ℕ) → 0 < c → s ≡ max (c * 40 / m) 1 → replicate s 35 ≡ bar c m
unfolding bar
bar-some c m s some is = ap (λ n. replicate n 35) is ∙ sym (ap (λ b. if b then [] else replicate (max (c * 40 / m) 1) 35) (ne_eqb c 0 (omega arith)))

-- ---- the largest count
fold_max-start : (a : ℕ) (xs : List ℕ) → a ≤ fold max a xs
fold_max-start a [] = omega arith
fold_max-start a (x ∷ xs) = omega (arith, le-max_left a x, fold_max-start (max a x) xs)

fold_max-at : (a : ℕ) (xs : List ℕ) (i : ℕ) → i < length xs → get_or xs i 0 ≤ fold max a xs
fold_max-at a [] i low = absurd (omega (arith, low))
fold_max-at a (x ∷ xs) zero low = omega (arith, le-max_right a x, fold_max-start (max a x) xs)
fold_max-at a (x ∷ xs) (suc i) low = fold_max-at (max a x) xs i (omega (arith, low))

-- no count is above it
pub largest-at : (xs : List ℕ) (i : ℕ) → i < length xs → get_or xs i 0 ≤ largest xs
unfolding largest
largest-at xs i low = fold_max-at 0 xs i low

-- ---- the line of a count
-- numbers that are written with a width
pub aligned-8 : (x : ℕ) → styled_decimal (format_spec 32 3 0 8 18446744073709551615) x ≡ aligned 8 x
aligned-8 x = aligned-padded 8 x

pub aligned-12 : (x : ℕ) → styled_decimal (format_spec 32 3 0 12 18446744073709551615) x ≡ aligned 12 x
aligned-12 x = aligned-padded 12 x

-- its parts in turn
pub joined : (a m n b x y z w : List ℕ) → a ≡ x → m ≡ y → n ≡ z → b ≡ w
    → (a ++ (m ++ (codes "  " ++ (n ++ codes "  ")))) ++ b ++ (10 ∷ []) ≡ x ++ (y ++ (codes "  " ++ (z ++ (codes "  " ++ (w ++ (10 ∷ []))))))
joined a m n b x y z w p q r s =
    ap (λ t. (t ++ (m ++ (codes "  " ++ (n ++ codes "  ")))) ++ b ++ (10 ∷ [])) p
    ∙ ap (λ t. (x ++ (t ++ (codes "  " ++ (n ++ codes "  ")))) ++ b ++ (10 ∷ [])) q
    ∙ ap (λ t. (x ++ (y ++ (codes "  " ++ (t ++ codes "  ")))) ++ b ++ (10 ∷ [])) r
    ∙ ap (λ t. (x ++ (y ++ (codes "  " ++ (z ++ codes "  ")))) ++ t ++ (10 ∷ [])) s
    ∙ simp append_assoc
