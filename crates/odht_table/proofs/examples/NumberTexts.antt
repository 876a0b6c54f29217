-- Worked examples: which words are numbers, and which are pairs of numbers.
use Rattle.std.proofs.Common.{◌≡◌, ◌^◌, ◌-◌, ◌<◌, ◌==◌, ◌∙◌, ℕ, true, refl, sym, ap, subst, arith, List, [], ◌∷◌, ◌++◌, length, if◌then◌else◌, ltb-true, ne_eqb, lit<}
use Rattle.std.specs.Prelude.{codes}
use Rattle.std.specs.Char.{digit_value, is_digit}
use Rattle.std.specs.List.{list_all}
use Rattle.std.specs.Str.Parse.{AllDigits, digits_value}
use Rattle.std.proofs.lemmas.Bool.{and_parts}
use Rattle.odht_table.specs.Commands.{IsNumberText, IsPairText}

-- a test decides whether bytes are digits
all_digits : (word : List ℕ) → list_all (λ c. is_digit c 10) word ≡ true → AllDigits 10 word
all_digits [] h = tt
all_digits (c ∷ word) h = (ltb-true _ 10 (and_parts _ _ h).0, all_digits word (and_parts _ _ h).1)

-- tests decide whether they are a number
pub number_by : (word : List ℕ) (n : ℕ) → 0 < length word → list_all (λ c. is_digit c 10) word ≡ true
    → digits_value 10 word ≡ n → n < 2 ^ 64 → IsNumberText word n
number_by word n longer digits value fits = record {
  numeral = (longer, all_digits word digits);
  value = value;
  fits = fits;
}

-- ---- numbers
-- a number may begin with zeros
pub a_number : IsNumberText (codes "042") 42
a_number = number_by (codes "042") 42 (lit< tt) refl refl (lit< tt)

-- the greatest number
pub the_greatest_number : IsNumberText (codes "18446744073709551615") (2 ^ 64 - 1)
the_greatest_number = number_by (codes "18446744073709551615") (2 ^ 64 - 1) (lit< tt) refl refl (lit< tt)

-- no digits are no number, though they would write 0
pub no_digit : IsNumberText [] 0 → ⊥
no_digit h = omega (arith, h.numeral.0)

-- a sign is no digit, whatever number it would write
pub a_sign : IsNumberText (codes "+1") (digits_value 10 (codes "+1")) → ⊥
a_sign h = omega (arith, h.numeral.1.0)

-- nor is a letter
pub a_letter : IsNumberText (codes "1a") (digits_value 10 (codes "1a")) → ⊥
a_letter h = omega (arith, h.numeral.1.1.0)

-- another number than the digits write
pub another_number : IsNumberText (codes "42") 43 → ⊥
another_number h = omega (arith, h.value)

-- digits of a number that 64 bits do not hold
pub too_great : IsNumberText (codes "18446744073709551616") (2 ^ 64) → ⊥
too_great h = omega (arith, h.fits)

-- ---- pairs
-- what is before the first space, and what is after it
abbrev before_space : List ℕ → List ℕ
before_space [] = []
before_space (b ∷ bs) = if b == 32 then [] else b ∷ before_space bs

abbrev behind_space : List ℕ → List ℕ
behind_space [] = []
behind_space (b ∷ bs) = if b == 32 then bs else behind_space bs

-- digits are cut from what follows their space
cut : (first second : List ℕ) → AllDigits 10 first
    → (before_space (first ++ 32 ∷ second) ≡ first) × (behind_space (first ++ 32 ∷ second) ≡ second)
cut [] second digits = (refl, refl)
cut (b ∷ first) second digits =
    let rest = cut first second digits.1 in
    rw (ne_eqb b 32 (λ e. omega (arith, subst (λ c. digit_value c < 10) e digits.0))) (ap (λ bs. b ∷ bs) rest.0, rest.1)

-- so the numbers of a pair are those two words
pair_numbers : (words : List ℕ) (m n : ℕ) → IsPairText words m n
    → IsNumberText (before_space words) m × IsNumberText (behind_space words) n
pair_numbers words m n h =
    let parts = cut h.first h.second h.first_number.numeral.1 in (
      subst (λ w. IsNumberText w m) (sym (ap before_space h.whole ∙ parts.0)) h.first_number,
      subst (λ w. IsNumberText w n) (sym (ap behind_space h.whole ∙ parts.1)) h.second_number,
    )

-- two numbers and a space
pub a_pair : IsPairText (codes "1 02") 1 2
a_pair = record {
  first = codes "1";
  second = codes "02";
  whole = refl;
  first_number = number_by (codes "1") 1 (lit< tt) refl refl (lit< tt);
  second_number = number_by (codes "02") 2 (lit< tt) refl refl (lit< tt);
}

-- two numbers with another byte between them
pub no_space : IsPairText (codes "1,2") 1 2 → ⊥
no_space h = omega (arith, (pair_numbers _ _ _ h).1.numeral.0)

-- two spaces
pub two_spaces : IsPairText (codes "1  2") 1 2 → ⊥
two_spaces h = omega (arith, (pair_numbers _ _ _ h).1.numeral.1.0)

-- a space in front
pub space_in_front : IsPairText (codes " 1 2") 1 2 → ⊥
space_in_front h = omega (arith, (pair_numbers _ _ _ h).0.numeral.0)

-- another first number
pub another_first : IsPairText (codes "1 2") 3 2 → ⊥
another_first h = omega (arith, (pair_numbers _ _ _ h).0.value)

-- another second one
pub another_second : IsPairText (codes "1 2") 1 3 → ⊥
another_second h = omega (arith, (pair_numbers _ _ _ h).1.value)

-- the two exchanged
pub exchanged : IsPairText (codes "1 2") 2 1 → ⊥
exchanged h = omega (arith, (pair_numbers _ _ _ h).0.value)

-- a third word
pub third_word : IsPairText (codes "1 2 3") 1 2 → ⊥
third_word h = omega (arith, (pair_numbers _ _ _ h).1.numeral.1.1.0)
