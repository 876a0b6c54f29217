-- Numbers of groups, by a bound.
use Rattle.std.proofs.Common.{◌≡◌, ◌∙◌, ◌⊎◌, inl, inr, ℕ, ◌+◌, ◌-◌, ◌*◌, ◌/◌, ◌%◌, ◌<◌, ◌≤◌, min, Bool, true, false, is_some, List, length, get_or, position, Option, Some, None, sym, ap, refl, arith, true≢false}
use Rattle.std.proofs.Math.Nat.{min-eq_left, min-eq_right, min-le_left, min-le_right}
use Rattle.std.proofs.lemmas.Bool.{cases_lt}
use Rattle.std.proofs.lemmas.List.FromFn.{length-range_with_len, get_or-range_with_len}
use Rattle.std.proofs.lemmas.List.Quantifiers.{position-Some}
use Rattle.std.specs.List.{range_with_len}
use Rattle.std.specs.Option.{option_map_or}
use Rattle.odht_base.specs.Bounds.{group_of}
use Rattle.odht_base.specs.Groups.{first_free}
use Rattle.odht_base.specs.Load.{IsSlotCount}
use Rattle.odht_base.proofs.lemmas.FirstMatch.{position_is}
use Rattle.odht_base.proofs.lemmas.Orders.{probe_slot-onto}
use Rattle.odht_base.proofs.lemmas.SlotCounts.{sixteens}
use Rattle.odht_tool_core.specs.GroupNumbers.{most_groups, capped, groups_to, groups_to_free}
use Rattle.odht_tool_core.proofs.GroupPlaces.{IsNotBefore, groups_at}

-- no more groups are looked at than there are
pub most_within : (o : Option ℕ) (n : ℕ) → most_groups o n ≤ n
most_within None n = omega arith
most_within (Some b) n = min-le_right b n

-- a number of groups that are looked at is not above the bound
pub capped_within : (o : Option ℕ) (n x : ℕ) → x ≤ most_groups o n → capped o x ≡ x
capped_within None n x l = refl
capped_within (Some b) n x l = min-eq_left {n = x} {m = b + 1} (omega (arith, l, min-le_left b n))

-- one that is not found among these is above it, unless it is that of all
pub capped_past : (o : Option ℕ) (n x : ℕ) → x ≤ n → (most_groups o n < x) ⊎ (x ≡ n) → min n (most_groups o n + 1) ≡ capped o x
capped_past None n x l (inl more) = absurd (omega (arith, l, more))
capped_past None n x l (inr all) = min-eq_left {n = n} {m = n + 1} (omega arith) ∙ sym all
capped_past (Some b) n x l h = elim (cases_lt b n) [
  | inl few ↦ (
      let most : min b n ≡ b = min-eq_left {n = b} {m = n} (omega (arith, few)) in
      let above : b + 1 ≤ x = elim h [ inl more ↦ omega (arith, more, most) | inr all ↦ omega (arith, all, few) ] in
      ap (λ m. min n (m + 1)) most ∙ min-eq_right {n = b + 1} {m = n} (omega (arith, few)) ∙ sym (min-eq_right {n = b + 1} {m = x} above))
  | inr many ↦ (
      let most : min b n ≡ n = min-eq_right {n = n} {m = b} many in
      let all : x ≡ n = elim h [ inl more ↦ absurd (omega (arith, more, most, l)) | inr all ↦ all ] in
      ap (λ m. min n (m + 1)) most ∙ min-eq_left {n = n} {m = n + 1} (omega arith) ∙ sym all ∙ sym (min-eq_left {n = x} {m = b + 1} (omega (arith, all, many))))
]

-- ---- the groups up to a slot
-- a slot that is in none of the first groups is in a later one
pub groups_past : (h s i g : ℕ) → IsSlotCount s → i < s → IsNotBefore h s i g → (g < groups_to h s i) × (groups_to h s i ≤ s / 16)
groups_past h s i g slots low before =
    let p = probe_slot-onto (h % s) s i slots low in
    let late : p.0 < 16 * g → ⊥ = λ l. before p.0 l p.2 in
    let is = groups_at h s i p.0 slots p.1 p.2 in
    let m = sixteens s slots in
    let place = p.1 in
    (omega (arith, late, is), omega (arith, is, place, m.2))

-- ---- the groups up to a free byte
abbrev pub is_free : List ℕ → ℕ → ℕ → Bool
is_free ctrl b j = is_some (first_free (group_of ctrl b j))

module _ (ctrl : List ℕ) (b n : ℕ) (all : (length ctrl - 16) / 16 ≡ n) where
  item : (i : ℕ) → i < n → get_or (range_with_len 0 n) i 0 ≡ i
  item i l = get_or-range_with_len 0 n i 0 l ∙ omega arith

  -- the first with one
  pub free_at : (j : ℕ) → j < n → ((i : ℕ) → i < j → is_free ctrl b i ≡ false) → is_free ctrl b j ≡ true → groups_to_free ctrl b ≡ j + 1
  unfolding groups_to_free
  free_at j l before here =
      ap (λ m. option_map_or (λ k. k + 1) (position (is_free ctrl b) (range_with_len 0 m)) m) all
      ∙ ap (λ o. option_map_or (λ k. k + 1) o n)
      (position_is (is_free ctrl b) (range_with_len 0 n) j 0 (omega (arith, l, length-range_with_len 0 n))
      (λ i m. ap (is_free ctrl b) (item i (omega (arith, m, l))) ∙ before i m) (ap (is_free ctrl b) (item j l) ∙ here))

  -- where the first groups have none, it is in a later one or nowhere
  pub free_past : (g : ℕ) → ((i : ℕ) → i < g → is_free ctrl b i ≡ false) → (groups_to_free ctrl b ≤ n) × ((g < groups_to_free ctrl b) ⊎ (groups_to_free ctrl b ≡ n))
  unfolding groups_to_free
  free_past g none = go (position (is_free ctrl b) (range_with_len 0 n)) refl
    where
      whole : groups_to_free ctrl b ≡ option_map_or (λ k. k + 1) (position (is_free ctrl b) (range_with_len 0 n)) n
      whole = ap (λ m. option_map_or (λ k. k + 1) (position (is_free ctrl b) (range_with_len 0 m)) m) all

      go : (o : Option ℕ) → position (is_free ctrl b) (range_with_len 0 n) ≡ o → (groups_to_free ctrl b ≤ n) × ((g < groups_to_free ctrl b) ⊎ (groups_to_free ctrl b ≡ n))
      go None e = let is : groups_to_free ctrl b ≡ n = whole ∙ ap (λ o. option_map_or (λ k. k + 1) o n) e in (omega (arith, is), inr is)
      go (Some r) e =
          let is : groups_to_free ctrl b ≡ r + 1 = whole ∙ ap (λ o. option_map_or (λ k. k + 1) o n) e in
          let at = position-Some (is_free ctrl b) (range_with_len 0 n) r 0 e in
          let low : r < n = omega (arith, at.0, length-range_with_len 0 n) in
          let late : r < g → ⊥ = λ l. true≢false (sym (ap (is_free ctrl b) (sym (item r low)) ∙ at.1) ∙ none r l) in
          (omega (arith, is, low), inl (omega (arith, is, late)))
