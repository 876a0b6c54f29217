-- Worked examples: what the whole check knows of the slots that it has been through, and what it sees in a group.
use Rattle.std.proofs.Common.{◌≡◌, ◌+◌, ℕ, refl, sym, subst, true, false, true≢false, inl, inr, arith, [], ◌∷◌, Option, Some, None, Err, replicate, set, lit<}
use Rattle.std.specs.Prelude.{is_none}
use Rattle.odht_raw.proofs.lemmas.Below.{contains_cases, none-some}
use Rattle.odht_raw.specs.Words.{ControlMismatch, overwritten_at, slot_refusal_at, unreachable}
use Rattle.odht_base.proofs.examples.Configs.{direct_config}
use Rattle.odht_base.proofs.examples.Groups.{report, other_reports_refused}
use Rattle.odht_header.proofs.examples.Apart.{unequal, unequal_lists, tested}
use Rattle.odht_header.proofs.examples.Opened.{opened}
use Rattle.odht_raw.specs.Checks.{IsGroupSearch}
use Rattle.odht_raw.specs.Parts.{TableParts}
use Rattle.odht_raw.specs.Summaries.{IsFirstUnreachable, IsFirstError, IsFreeSlot, IsSummaryOf, IsSummary, HaveNoError, AreFree, AreRight}
use Rattle.odht_raw.proofs.examples.Checked.{parts, two}

-- ---- a group
-- a search of two bytes for 3, which is the first; the second is free
pub look : IsGroupSearch (3 ∷ 255 ∷ []) 3 (record { matches = 0 ∷ []; free = Some 1 })
look = record { report = report; free = refl }

-- it leaves out neither the free byte nor the match, and names no other byte as free
pub other_looks_refused : (IsGroupSearch (3 ∷ 255 ∷ []) 3 (record { matches = 0 ∷ []; free = None }) → ⊥)
    × (IsGroupSearch (3 ∷ 255 ∷ []) 3 (record { matches = 0 ∷ []; free = Some 0 }) → ⊥)
    × (IsGroupSearch (3 ∷ []) 3 (record { matches = []; free = None }) → ⊥)
other_looks_refused = (λ h. none-some _ h.free, λ h. unequal 0 1 refl (same h.free), λ h. other_reports_refused.0 h.report)
  where
    same : {a b : ℕ} → Some a ≡ Some b → a ≡ b
    same e = cc

-- ---- slots
-- key 5 with its tag 0 in slot 7 of sixteen, as the parts of a table; the search for it ends at slot 5, which is free
abbrev lost : TableParts
lost = record {
  control = set (set (replicate 32 255) 7 0) 23 0;
  entries = record { slots = 16; bytes = overwritten_at (replicate 128 0) 56 (5 ∷ 0 ∷ 0 ∷ 0 ∷ 7 ∷ []) };
}

-- the same with key 6 in slot 9, which the search for it does not reach either
abbrev both_lost : TableParts
both_lost = record {
  control = set (set (set (set (replicate 32 255) 7 0) 23 0) 9 0) 25 0;
  entries = record {
    slots = 16;
    bytes = overwritten_at (overwritten_at (replicate 128 0) 56 (5 ∷ 0 ∷ 0 ∷ 0 ∷ 7 ∷ [])) 72 (6 ∷ 0 ∷ 0 ∷ 0 ∷ 8 ∷ []);
  };
}

-- what a test says of an option
none_if : {X : Type 0} (o : Option X) → is_none o ≡ true → o ≡ None
none_if None e = refl
none_if (Some x) e = absurd (true≢false (sym e))

-- slot 4 is free, slot 5 has its key's tag
pub right : AreRight direct_config (parts two) 4 (0 ∷ 1 ∷ [])
unfolding opened
right i c = elim (contains_cases 0 (1 ∷ []) i c) [
  | inl first ↦ subst (λ k. slot_refusal_at direct_config (parts two).entries.bytes two (4 + k) ≡ None) first refl
  | inr later ↦ elim (contains_cases 1 [] i later) [
    | inl second ↦ subst (λ k. slot_refusal_at direct_config (parts two).entries.bytes two (4 + k) ≡ None) second refl
    | inr none ↦ absurd (omega (arith, none.1))
  ]
]

-- with another tag it is not right, but slot 4 is
pub wrong_refused : (AreRight direct_config (parts (set two 5 1)) 4 (0 ∷ 1 ∷ []) → ⊥) × (slot_refusal_at direct_config (parts two).entries.bytes (set two 5 1) 4 ≡ None)
unfolding opened
wrong_refused = (λ h. none-some _ (sym (h 1 (1, lit< tt, refl))), refl)

-- slot 4 is free; not an occupied slot, one with another byte that counts as free, or one that has an entry
pub free_slot : IsFreeSlot direct_config (parts two) 4 × (IsFreeSlot direct_config (parts two) 5 → ⊥)
    × (IsFreeSlot direct_config (parts (set two 4 128)) 4 → ⊥) × (IsFreeSlot direct_config (parts (set two 5 255)) 5 → ⊥)
unfolding opened
free_slot = (
  (refl, refl),
  λ h. unequal 0 255 refl h.0,
  λ h. unequal 128 255 refl h.0,
  λ h. unequal_lists (5 ∷ 0 ∷ 0 ∷ 0 ∷ 7 ∷ 0 ∷ 0 ∷ 0 ∷ []) (replicate 8 0) refl h.1,
)

-- slots 4 and 7 are free, and with slot 5 among them not all are
pub free_slots : AreFree direct_config (parts two) 4 (0 ∷ 3 ∷ []) × (AreFree direct_config (parts two) 4 (0 ∷ 1 ∷ []) → ⊥)
unfolding opened
free_slots = (
  λ i c. elim (contains_cases 0 (3 ∷ []) i c) [
    | inl first ↦ subst (λ k. IsFreeSlot direct_config (parts two) (4 + k)) first (refl, refl)
    | inr later ↦ elim (contains_cases 3 [] i later) [
      | inl second ↦ subst (λ k. IsFreeSlot direct_config (parts two) (4 + k)) second (refl, refl)
      | inr none ↦ absurd (omega (arith, none.1))
    ]
  ],
  λ h. unequal 0 255 refl (h 1 (1, lit< tt, refl)).0,
)

-- both keys are reached; the one in slot 7 is not, and then it is the first
pub first_unreachable : IsFirstUnreachable direct_config (parts two) 16 None
    × IsFirstUnreachable direct_config lost 16 (Some 7) × IsFirstUnreachable direct_config lost 7 None
    × IsFirstUnreachable direct_config both_lost 16 (Some 7)
unfolding opened
first_unreachable = (
  λ i l. none_if _ (tested (λ i. is_none (unreachable direct_config (parts two).entries.bytes two i)) 16 i refl l),
  (lit< tt, λ i l. none_if _ (tested (λ i. is_none (unreachable direct_config lost.entries.bytes lost.control i)) 7 i refl l), refl),
  λ i l. none_if _ (tested (λ i. is_none (unreachable direct_config lost.entries.bytes lost.control i)) 7 i refl l),
  (lit< tt, λ i l. none_if _ (tested (λ i. is_none (unreachable direct_config both_lost.entries.bytes both_lost.control i)) 7 i refl l), refl),
)

-- it is not left out, not told before it was seen, and not the second; and a key that is reached is none
pub other_first_refused : (IsFirstUnreachable direct_config lost 16 None → ⊥) × (IsFirstUnreachable direct_config lost 7 (Some 7) → ⊥)
    × (IsFirstUnreachable direct_config both_lost 16 (Some 9) → ⊥) × (IsFirstUnreachable direct_config (parts two) 16 (Some 5) → ⊥)
unfolding opened
other_first_refused = (
  λ h. none-some _ (sym (h 7 (lit< tt))),
  λ h. absurd (omega (arith, h.0)),
  λ h. none-some _ (sym (h.1 7 (lit< tt))),
  λ h. none-some _ h.2,
)

-- what is known before slot 6, and at the end; where no searches are made, it is not told which is unreachable
pub summaries : IsSummary direct_config (parts two) true 6 1 None × IsSummary direct_config lost true 16 1 (Some 7) × IsSummary direct_config lost false 16 1 None
unfolding opened
summaries = (
  record {
    passed = λ i l. none_if _ (tested (λ i. is_none (slot_refusal_at direct_config (parts two).entries.bytes two i)) 6 i refl l);
    counted = refl;
    reached = λ e f i l. none_if _ (tested (λ i. is_none (unreachable direct_config (parts two).entries.bytes two i)) 6 i refl l);
  },
  record {
    passed = λ i l. none_if _ (tested (λ i. is_none (slot_refusal_at direct_config lost.entries.bytes lost.control i)) 16 i refl l);
    counted = refl;
    reached = λ e f. first_unreachable.1;
  },
  record {
    passed = λ i l. none_if _ (tested (λ i. is_none (slot_refusal_at direct_config lost.entries.bytes lost.control i)) 16 i refl l);
    counted = refl;
    reached = λ e. absurd (true≢false (sym e));
  },
)

-- another count, a slot with an error, and an unreachable one that is left out are excluded
pub other_summaries_refused : (IsSummary direct_config (parts two) true 6 2 None → ⊥) × (IsSummary direct_config (parts (set two 5 1)) false 6 1 None → ⊥)
    × (IsSummary direct_config lost true 16 1 None → ⊥)
unfolding opened
other_summaries_refused = (
  λ h. unequal 2 1 refl h.counted,
  λ h. none-some _ (sym (h.passed 5 (lit< tt))),
  λ h. other_first_refused.0 (h.reached refl (record { slots = refl; mirror = refl })),
)

-- the same of a summary by its name
pub known : IsSummaryOf direct_config lost true 16 (record { occupied = 1; unreachable = Some 7 }) × (IsSummaryOf direct_config lost true 16 (record { occupied = 1; unreachable = None }) → ⊥)
known = (summaries.1, other_summaries_refused.2)

-- a wrong tag in slot 5 is the first error, and none comes before; where there is none, none is the first
pub first_error : IsFirstError {X = ℕ} direct_config (parts (set two 5 1)) (Err (ControlMismatch 5 0 1)) × HaveNoError direct_config (parts (set two 5 1)) 5
unfolding opened
first_error = (refl, λ i l. none_if _ (tested (λ i. is_none (slot_refusal_at direct_config (parts (set two 5 1)).entries.bytes (set two 5 1) i)) 5 i refl l))

pub other_errors_refused : (IsFirstError {X = ℕ} direct_config (parts two) (Err (ControlMismatch 5 0 1)) → ⊥) × (HaveNoError direct_config (parts (set two 5 1)) 6 → ⊥)
unfolding opened
other_errors_refused = (λ h. none-some _ (sym h), λ h. none-some _ (sym (h 5 (lit< tt))))
