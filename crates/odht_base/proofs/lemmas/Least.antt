-- `slots_for` answers the least slot count that holds the items, or none where there is none.
use Rattle.std.proofs.Common.{◌≡◌, ◌<◌, ◌≤◌, ◌∙◌, ◌+◌, ◌*◌, ◌-◌, ◌^◌, ℕ, Bool, true, false, sym, ap, subst, refl, Option, Some, None, slice_get, arith, nat_le, pow_mono, leb-true, le-leb, ltb-true, ltb-false, nat_lt, true≢false}
use Rattle.std.proofs.lemmas.Option.{slice_get_within, slice_get-get_or}
use Rattle.std.proofs.lemmas.List.FromFn.{get_or-map-range_with_len}
use Rattle.odht_base.specs.Load.{slots_for, slot_counts, IsSlotCount, IsLeastSlots}
use Rattle.odht_base.proofs.lemmas.FirstMatch.{IsFirst, find-Some, find-None}
use Rattle.odht_base.proofs.lemmas.Options.{some_same}
use Rattle.odht_base.proofs.lemmas.SlotCounts.{exponent, IsSlotCount-pow}

-- the slot count at index q
slice_get-slot_counts : (q e : ℕ) → q < 60 → 4 + q ≡ e → slice_get slot_counts q ≡ Some (2 ^ e)
slice_get-slot_counts q e h g = slice_get-get_or slot_counts q 0 h ∙ ap Some (get_or-map-range_with_len (λ n. 2 ^ n) 4 60 q e 0 h g)

-- every slot count is in the list
slot_count-in_list : (e : ℕ) → 4 ≤ e → e < 64 → slice_get slot_counts (e - 4) ≡ Some (2 ^ e)
slot_count-in_list e lo hi = slice_get-slot_counts (e - 4) e (omega arith) (omega arith)

module _ (n f : ℕ) where
  -- s slots hold n items
  abbrev fits : ℕ → Bool
  fits s = nat_le (65536 * n) (s * f)

  -- none before the first that passes is as small as one that passes
  first_is_least : (s : ℕ) → IsFirst fits slot_counts s → (t : ℕ) → IsSlotCount t → fits t ≡ true → s ≤ t
  first_is_least s first t c h = go (nat_lt e (4 + first.position)) refl
    where
      e : ℕ
      e = (exponent t c).0

      te : t ≡ 2 ^ e
      te = (exponent t c).3

      in_range : first.position < 60
      in_range = slice_get_within slot_counts first.position s first.is

      power : 2 ^ (4 + first.position) ≡ s
      power = some_same _ _ (sym (slice_get-slot_counts first.position (4 + first.position) in_range refl) ∙ first.is)

      go : (b : Bool) → nat_lt e (4 + first.position) ≡ b → s ≤ t
      go true g =
          let x = exponent t c in
          let below = ltb-true e (4 + first.position) g in
          let fails = first.before (e - 4) (2 ^ e) (omega (arith, below, x.1)) (slot_count-in_list e x.1 x.2) in
          absurd (true≢false (sym h ∙ ap fits te ∙ fails))
      go false g =
          let above = ltb-false e (4 + first.position) g in
          subst (λ u. u ≤ t) power (subst (λ u. 2 ^ (4 + first.position) ≤ u) (sym te) (pow_mono above))

  -- what it answers is least
  pub slots_for-IsLeastSlots : (s : ℕ) → slots_for n f ≡ Some s → IsLeastSlots n f s
  unfolding slots_for
  slots_for-IsLeastSlots s e =
      let first = find-Some fits slot_counts s e in
      let in_range : first.position < 60 = slice_get_within slot_counts first.position s first.is in
      record {
        is_count = IsSlotCount-pow s (4 + first.position) (omega arith) (omega arith) (some_same _ _ (sym first.is ∙ slice_get-slot_counts first.position (4 + first.position) in_range refl));
        holds = leb-true (65536 * n) (s * f) first.passes;
        least = λ t c h. first_is_least s first t c (le-leb (65536 * n) (t * f) h);
      }

  -- where it answers none, no slot count holds the items
  pub slots_for-None : slots_for n f ≡ None → (t : ℕ) → IsSlotCount t → 65536 * n ≤ t * f → ⊥
  unfolding slots_for
  slots_for-None e t c h =
      let k = exponent t c in
      let fails = find-None fits slot_counts e (k.0 - 4) (2 ^ k.0) (slot_count-in_list k.0 k.1 k.2) in
      true≢false (sym (le-leb (65536 * n) (t * f) h) ∙ ap fits k.3 ∙ fails)

  -- a least slot count is what it answers
  pub slots_for-least : (s : ℕ) → IsLeastSlots n f s → slots_for n f ≡ Some s
  slots_for-least s least = go (slots_for n f) refl
    where
      go : (o : Option ℕ) → slots_for n f ≡ o → o ≡ Some s
      go None e = absurd (slots_for-None e s least.is_count least.holds)
      go (Some t) e =
          let other = slots_for-IsLeastSlots t e in
          let up = other.least s least.is_count least.holds in
          let down = least.least t other.is_count other.holds in
          let same : t ≡ s = omega arith in ap Some same

  -- where no slot count holds the items, it answers none
  pub slots_for-none : ((t : ℕ) → IsSlotCount t → 65536 * n ≤ t * f → ⊥) → slots_for n f ≡ None
  slots_for-none never = go (slots_for n f) refl
    where
      go : (o : Option ℕ) → slots_for n f ≡ o → o ≡ None
      go None e = refl
      go (Some t) e = let other = slots_for-IsLeastSlots t e in absurd (never t other.is_count other.holds)
