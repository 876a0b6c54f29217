-- Worked examples: layouts, and calls with them.
use Rattle.std.proofs.Common.{◌≡◌, ℕ, List, Option, ap, arith, Some, None}
use Rattle.odht_header.specs.Coding.{Coding}
use Rattle.odht_calls.specs.declared.any.AnyLayout.{AnyLayout}
use Rattle.odht_calls.specs.Layouts.{IsLayout, IsFoundBy, ViewContainsAnswers, DynAnswers, AnyAnswers, LayoutAnswers}

abbrev layout : ℕ → ℕ → ℕ → AnyLayout
layout key value hash = record { key_len = key; value_len = value; hash = hash }

-- ---- IsLayout
-- no hash function has the number 3
pub other_hash_refused : IsLayout (layout 8 4 3) → ⊥
other_hash_refused h = absurd (omega (arith, h.hash))

-- and keys of three bytes are too short for the second
pub short_key_refused : IsLayout (layout 3 4 1) → ⊥
short_key_refused h = absurd (omega (arith, h.key))

-- ---- IsFoundBy
-- an absent key is not answered with ODHT_OK
pub absent_as_found_refused : IsFoundBy {V = ℕ} None 0 → ⊥
absent_as_found_refused h = absurd (omega (arith, h))

-- ---- ViewContainsAnswers
-- no key is answered with another status than ODHT_OK and ODHT_ABSENT
pub other_status_in_view_refused : (c : Coding ℕ ℕ) (B : List ℕ) (k : ℕ) → ViewContainsAnswers c B k 35 → ⊥
other_status_in_view_refused c B k h = go h.on_any.0 h.on_any.1
  where
    go : (o : Option ℕ) → IsFoundBy o 35 → ⊥
    go None e = absurd (omega (arith, e))
    go (Some v) e = absurd (omega (arith, e))

-- ---- DynAnswers, AnyAnswers
-- that many bytes are as many as the layout says
abbrev IsLong : ℕ → ℕ → Type 0
IsLong found said = found ≡ said

-- a layout that is none is not answered as if it were one
pub bad_layout_done_refused : (A : Coding (List ℕ) (List ℕ) → Type 0) → AnyAnswers (layout 3 4 1) 0 (Unit {0}) A → ⊥
bad_layout_done_refused A h = absurd (let status = (h.layout short_key_refused).0 in omega (arith, status))

-- lengths that do not fit are not answered with ODHT_OK
pub bad_lengths_done_refused : (A : Type 0) → DynAnswers (IsLong 7 8) 0 (Unit {0}) A → ⊥
bad_lengths_done_refused A h = absurd (let status = (h.lengths (λ long. absurd (omega (arith, long)))).0 in omega (arith, status))

-- ---- LayoutAnswers
-- an error leaves the layout
pub changed_layout_refused : (B : List ℕ) → LayoutAnswers B (layout 1 2 0) 1 (layout 8 4 0) → ⊥
changed_layout_refused B h = absurd (let same = ap (λ (l : AnyLayout). l.key_len) (h.refused (λ done. absurd (omega (arith, done)))) in omega (arith, same))
