-- Which error a header gives: that of the first field that fails, and the tests of its fields.
use Rattle.std.proofs.Common.{◌≡◌, ◌<◌, ◌^◌, ◌∙◌, ℕ, true, false, ◌++◌, ◌==◌, count_ones, sym, ap, List, [], ◌∷◌, Option, Some, None, take, drop, nat_lt, lt-ltb, le-ltb, ◌≤◌, refl}
use Rattle.std.specs.Prelude.{⊤}
use Rattle.std.specs.Option.{option_or}
use Rattle.std.proofs.lemmas.List.{take-append-drop}
use Rattle.odht_base.specs.Format.{Format}
use Rattle.odht_base.specs.Load.{is_power_of_two}
use Rattle.odht_base.specs.Decoded.{header_slots}
use Rattle.odht_header.specs.declared.error.Error.{Error}
use Rattle.odht_header.specs.declared.error.Error.TheVariants.{SlotCountNotPowerOfTwo, SlotCountTooSmall}
use Rattle.odht_header.specs.Refusals.{first_of, field_refusals, field_refusal, header_refusal, front_header_refusal, length_refusal, cut_refusal, power_refusal, few_slots_refusal}
use Rattle.odht_header.proofs.lemmas.FirstErrors.{option_or-second, last-first}
use Rattle.odht_header.proofs.lemmas.PowersOfTwo.{same_test}

-- none of the list is an error
abbrev pub IsPassed : List (Option Error) → Type 0
IsPassed [] = ⊤
IsPassed (r ∷ rs) = (r ≡ None) × IsPassed rs

-- errors behind such a list come first
pub first_of-behind : (rs ss : List (Option Error)) → IsPassed rs → first_of (rs ++ ss) ≡ first_of ss
first_of-behind [] ss p = refl
first_of-behind (r ∷ rs) ss p = option_or-second r _ p.0 ∙ first_of-behind rs ss p.1

-- the error of the fields once the first k of them have passed
pub past : (F : Format) (B : List ℕ) (k : ℕ) → IsPassed (take k (field_refusals F B)) → field_refusal F B ≡ first_of (drop k (field_refusals F B))
unfolding field_refusal
past F B k p = ap first_of (sym (take-append-drop k (field_refusals F B))) ∙ first_of-behind (take k (field_refusals F B)) (drop k (field_refusals F B)) p

-- the first error of two lists in turn
first_of-append : (rs ss : List (Option Error)) → first_of (rs ++ ss) ≡ option_or (first_of rs) (first_of ss)
first_of-append [] ss = refl
first_of-append (None ∷ rs) ss = first_of-append rs ss
first_of-append (Some x ∷ rs) ss = refl

-- the error of the header is that of the fields, then of the length
pub header_refusal-fields : (F : Format) (n : ℕ) (B : List ℕ) → header_refusal F n B ≡ option_or (field_refusal F B) (length_refusal F n B)
unfolding header_refusal field_refusal
header_refusal-fields F n B = first_of-append (field_refusals F B) (length_refusal F n B ∷ []) ∙ ap (option_or (field_refusal F B)) (last-first (length_refusal F n B))

-- and where more may follow, of too few bytes
pub front_header_refusal-fields : (F : Format) (n : ℕ) (B : List ℕ) → front_header_refusal F n B ≡ option_or (field_refusal F B) (cut_refusal F n B)
unfolding front_header_refusal field_refusal
front_header_refusal-fields F n B = first_of-append (field_refusals F B) (cut_refusal F n B ∷ []) ∙ ap (option_or (field_refusal F B)) (last-first (cut_refusal F n B))

-- ---- the slot count, s in the header

module _ (B : List ℕ) (s : ℕ) (is : s ≡ header_slots B) (fits : s < 2 ^ 64) where
  test_is : is_power_of_two (header_slots B) ≡ (count_ones s == 1)
  test_is = ap is_power_of_two (sym is) ∙ sym (same_test s fits)

  -- an error where std's test fails
  pub power_refused : (count_ones s == 1) ≡ false → option_or (power_refusal B) (few_slots_refusal B) ≡ Some (SlotCountNotPowerOfTwo s)
  power_refused h = rw (test_is ∙ h) (ap (λ n. Some (SlotCountNotPowerOfTwo n)) (sym is))

  -- then one where it is below 16
  pub few_refused : (count_ones s == 1) ≡ true → s < 16 → option_or (power_refusal B) (few_slots_refusal B) ≡ Some (SlotCountTooSmall s)
  few_refused h few =
      let low : nat_lt (header_slots B) 16 ≡ true = ap (λ n. nat_lt n 16) (sym is) ∙ lt-ltb s 16 few in
      rw (test_is ∙ h, low) (ap (λ n. Some (SlotCountTooSmall n)) (sym is))

  -- and otherwise none
  pub slot_count_passes : (count_ones s == 1) ≡ true → 16 ≤ s → option_or (power_refusal B) (few_slots_refusal B) ≡ None
  slot_count_passes h enough =
      let high : nat_lt (header_slots B) 16 ≡ false = ap (λ n. nat_lt n 16) (sym is) ∙ le-ltb s 16 enough in
      rw (test_is ∙ h, high) refl
