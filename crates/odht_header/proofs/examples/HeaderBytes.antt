-- Worked examples: each header byte of a fresh table set to each value, and how often each answer of a view comes.
use Rattle.std.proofs.Common.{◌≡◌, ℕ, refl, List, [], ◌∷◌, Option, Some, None, map, set, length, filter, eqb, ltb, cond, ap, ◌++◌}
use Rattle.std.specs.List.{range_with_len, flat_map}
use Rattle.odht_header.proofs.examples.Opened.{opened}
use Rattle.odht_header.proofs.examples.Refused.{test_bytes}
use Rattle.odht_base.proofs.examples.Configs.{test_config}
use Rattle.odht_header.specs.Refusals.{view_refusal}
use Rattle.odht_header.specs.declared.error.Error.{Error}
use Rattle.odht_header.specs.declared.error.Error.TheVariants.{TooShort, WrongTag, WrongVersion, WrongSizeOf, SlotCountNotPowerOfTwo, SlotCountTooSmall, WrongLength}

-- a number for each answer: 0 for none, 8 for any other
abbrev kind : Option Error → ℕ
kind None = 0
kind (Some (TooShort _)) = 1
kind (Some (WrongTag _)) = 2
kind (Some (WrongVersion _)) = 3
kind (Some (WrongSizeOf _ _ _)) = 4
kind (Some (SlotCountNotPowerOfTwo _)) = 5
kind (Some (SlotCountTooSmall _)) = 6
kind (Some (WrongLength _ _ _)) = 7
kind (Some _) = 8

-- the answers for n header bytes
abbrev kinds : ℕ → ℕ → List ℕ
kinds from n = flat_map (λ i. map (λ b. kind (view_refusal test_config (set test_bytes i b))) (range_with_len 0 256)) (range_with_len from n)

-- how often each comes
abbrev tally : List ℕ → List ℕ
tally ks = map (λ e. length (filter (λ k. eqb k e) ks)) (range_with_len 0 9)

-- the answer for byte i set to b
abbrev kind_at : ℕ → ℕ → ℕ
kind_at i b = kind (view_refusal test_config (set test_bytes i b))

-- none from byte k on
abbrev none_from : ℕ → ℕ → ℕ → ℕ
none_from k i b = cond (ltb i k) (kind_at i b) 0

-- f and g agree on these bytes, whatever they are set to
abbrev AreSame : (ℕ → ℕ → ℕ) → (ℕ → ℕ → ℕ) → List ℕ → Type 0
AreSame f g [] = Unit
AreSame f g (i ∷ is) = ((b : ℕ) → f i b ≡ g i b) × AreSame f g is

-- then their answers are the same, and those of a byte that is not looked at are computed once
same_rows : (f g : ℕ → ℕ → ℕ) (is bs : List ℕ) → AreSame f g is → flat_map (λ i. map (f i) bs) is ≡ flat_map (λ i. map (g i) bs) is
same_rows f g [] bs same = refl
same_rows f g (i ∷ is) bs same = λ j. map (λ b. same.0 b j) bs ++ same_rows f g is bs same.1 j

-- tag and sizes
pub first_eight : tally (kinds 0 8) ≡ 8 ∷ 0 ∷ 1020 ∷ 0 ∷ 1020 ∷ 0 ∷ 0 ∷ 0 ∷ 0 ∷ []
unfolding opened
first_eight = refl

-- the item count
pub second_eight : tally (kinds 8 8) ≡ 2048 ∷ 0 ∷ 0 ∷ 0 ∷ 0 ∷ 0 ∷ 0 ∷ 0 ∷ 0 ∷ []
unfolding opened
second_eight =
    let same : AreSame kind_at (none_from 8) (range_with_len 8 8) =
    ((λ b. refl), ((λ b. refl), ((λ b. refl), ((λ b. refl), ((λ b. refl), ((λ b. refl), ((λ b. refl), ((λ b. refl), tt)))))))) in
    ap tally (same_rows kind_at (none_from 8) (range_with_len 8 8) (range_with_len 0 256) same)

-- the slot count
pub third_eight : tally (kinds 16 8) ≡ 8 ∷ 0 ∷ 0 ∷ 0 ∷ 0 ∷ 2033 ∷ 4 ∷ 3 ∷ 0 ∷ []
unfolding opened
third_eight = refl

-- version, load factor and padding: in all 3,092 times none, and 1,020 times each of the first three
pub last_eight : tally (kinds 24 8) ≡ 1028 ∷ 0 ∷ 0 ∷ 1020 ∷ 0 ∷ 0 ∷ 0 ∷ 0 ∷ 0 ∷ []
unfolding opened
last_eight =
    let same : AreSame kind_at (none_from 28) (range_with_len 24 8) =
    ((λ b. refl), ((λ b. refl), ((λ b. refl), ((λ b. refl), ((λ b. refl), ((λ b. refl), ((λ b. refl), ((λ b. refl), tt)))))))) in
    ap tally (same_rows kind_at (none_from 28) (range_with_len 24 8) (range_with_len 0 256) same)
