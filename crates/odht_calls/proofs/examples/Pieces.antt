-- Worked examples: keys and values that lie one after the other, and what calls answer to too few of them.
use Rattle.std.proofs.Common.{ℕ, List, [], ◌∷◌, lit≤, arith}
use Rattle.odht_calls.specs.declared.any.AnyLayout.{AnyLayout}
use Rattle.odht_calls.specs.Layouts.{IsLayout}
use Rattle.odht_calls.specs.Pieces.{ArePieces, AnyWalkAnswers, AnyGetAllAnswers, AnyInsertAllAnswers, AnyBuildAnswers, AnyViewGetAllAnswers, AnyBuildGrowingAnswers}

-- keys of three bytes with values of one byte
abbrev layout : AnyLayout
layout = record { key_len = 3; value_len = 1; hash = 0 }

-- it is a layout
is_layout : IsLayout layout
is_layout = record { hash = lit≤ tt; key = lit≤ tt }

-- two keys, and two values
abbrev keys : List ℕ
keys = 1 ∷ 2 ∷ 3 ∷ 4 ∷ 5 ∷ 6 ∷ []

abbrev values : List ℕ
values = 7 ∷ 8 ∷ []

-- ---- ArePieces
-- two keys and two values are not as many as one, nor are two values two keys
pub one_refused : ArePieces 3 1 1 keys values → ⊥
one_refused h = absurd (omega (arith, h.keys))

pub short_keys_refused : ArePieces 3 1 2 values values → ⊥
short_keys_refused h = absurd (omega (arith, h.keys))

-- ---- AnyWalkAnswers, AnyGetAllAnswers, AnyViewGetAllAnswers, AnyInsertAllAnswers, AnyBuildAnswers, AnyBuildGrowingAnswers
-- too few keys are not answered with another cursor, count or status
pub moved_cursor_refused : (B : List ℕ) → AnyWalkAnswers layout B 4 2 values values 9 35 5 values values 9 → ⊥
moved_cursor_refused B h = absurd (let same = ((h.answers is_layout).lengths short_keys_refused).1.0 in omega (arith, same))

pub written_count_refused : (B : List ℕ) → AnyInsertAllAnswers layout B 2 values values 9 35 B 0 → ⊥
written_count_refused B h = absurd (let same = ((h.answers is_layout).lengths short_keys_refused).1.1 in omega (arith, same))

pub short_lookups_done_refused : (B : List ℕ) → AnyGetAllAnswers layout B 2 values values (0 ∷ 0 ∷ []) 0 values (0 ∷ 0 ∷ []) → ⊥
short_lookups_done_refused B h = absurd (let status = ((h.answers is_layout).lengths (λ long. absurd (short_keys_refused long.0))).0 in omega (arith, status))

pub short_build_done_refused : AnyBuildAnswers layout 2 values values 87 [] 9 0 [] 9 → ⊥
short_build_done_refused h = absurd (let status = ((h.answers is_layout).lengths short_keys_refused).0 in omega (arith, status))

pub short_view_lookups_done_refused : (B : List ℕ) → AnyViewGetAllAnswers layout B 2 values values (0 ∷ 0 ∷ []) 0 values (0 ∷ 0 ∷ []) → ⊥
short_view_lookups_done_refused B h = absurd (let status = ((h.answers is_layout).lengths (λ long. absurd (short_keys_refused long.0))).0 in omega (arith, status))

pub short_growing_build_done_refused : AnyBuildGrowingAnswers layout 2 values values [] 9 0 [] 9 → ⊥
short_growing_build_done_refused h = absurd (let status = ((h.answers is_layout).lengths short_keys_refused).0 in omega (arith, status))
