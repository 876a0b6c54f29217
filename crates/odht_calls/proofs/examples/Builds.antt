-- Worked examples: what the calls answer that build a table of one pair.
use Rattle.std.proofs.Common.{◌∙◌, ℕ, refl, sym, ap, length, List, [], ◌∷◌, replicate}
use Rattle.odht_header.proofs.examples.Opened.{opened}
use Rattle.odht_calls.specs.Builds.{BuildAnswers, BuildGrowingAnswers}
use Rattle.odht_calls.proofs.examples.AfterInserts.{roomy_bytes, only_built, only_grown}
use Rattle.odht_calls.proofs.examples.Inits.{seven, one_fits}
use Rattle.odht_base.proofs.examples.Numbers.{zero_percent_refused}
use Rattle.odht_header.proofs.examples.Apart.{unequal, unequal_lists}
use Rattle.odht_calls.proofs.examples.Tables.{direct_coding, one_bytes}

-- ---- BuildAnswers
-- the bytes of the caller
abbrev nines : List ℕ
nines = replicate 192 9

-- arrays of two lengths are not answered with another status
pub build_lengths_status_refused : BuildAnswers direct_coding (5 ∷ []) [] 7 nines 4 19 nines 4 → ⊥
build_lengths_status_refused h = unequal 19 35 refl (h.lengths (unequal 0 1 refl)).0

-- and neither the bytes nor the number change
pub build_lengths_written_refused : (BuildAnswers direct_coding (5 ∷ []) [] 7 [] 4 35 (7 ∷ []) 4 → ⊥)
    × (BuildAnswers direct_coding (5 ∷ []) [] 7 [] 4 35 [] 0 → ⊥)
build_lengths_written_refused =
    (λ h. unequal_lists (7 ∷ []) [] refl (h.lengths (unequal 0 1 refl)).1, λ h. unequal 0 4 refl (h.lengths (unequal 0 1 refl)).2)

-- no percent is not answered with another status
pub build_percent_status_refused : BuildAnswers direct_coding (5 ∷ []) (7 ∷ []) 0 nines 4 19 nines 4 → ⊥
build_percent_status_refused h = unequal 19 34 refl (h.percent refl zero_percent_refused).0

-- and nothing is written
pub build_percent_written_refused : (BuildAnswers direct_coding (5 ∷ []) (7 ∷ []) 0 [] 4 34 (7 ∷ []) 4 → ⊥)
    × (BuildAnswers direct_coding (5 ∷ []) (7 ∷ []) 0 [] 4 34 [] 0 → ⊥)
build_percent_written_refused =
    (λ h. unequal_lists (7 ∷ []) [] refl (h.percent refl zero_percent_refused).1, λ h. unequal 0 4 refl (h.percent refl zero_percent_refused).2)

-- where the answer is `done` the bytes are the table
pub unbuilt_refused : BuildAnswers direct_coding (5 ∷ []) (7 ∷ []) 7 nines 4 0 nines 192 → ⊥
unfolding opened
unbuilt_refused h = unequal_lists nines one_bytes refl (only_built nines (h.built.built refl))

-- at the percentage that was asked for
pub build_other_percent_refused : BuildAnswers direct_coding (5 ∷ []) (7 ∷ []) 7 nines 4 0 roomy_bytes 192 → ⊥
unfolding opened
build_other_percent_refused h = unequal_lists roomy_bytes one_bytes refl (only_built roomy_bytes (h.built.built refl))

-- and its length is written where it is longer than the bytes
pub build_other_length_refused : BuildAnswers direct_coding (5 ∷ []) (7 ∷ []) 7 [] 4 36 [] 191 → ⊥
unfolding opened
build_other_length_refused h =
    let made = h.built.needed refl in
    unequal 192 191 refl (sym (ap length (only_built made.0 made.2)) ∙ made.1)

-- no other status is answered
pub build_other_status_refused : BuildAnswers direct_coding (5 ∷ []) (7 ∷ []) 7 nines 4 7 nines 4 → ⊥
build_other_status_refused h = unequal 7 20 refl (h.refused refl seven (unequal 7 0 refl) (unequal 7 36 refl)).0

-- without a slot count nothing is written
pub build_capacity_written_refused : (BuildAnswers direct_coding (5 ∷ []) (7 ∷ []) 7 [] 4 20 (7 ∷ []) 4 → ⊥)
    × (BuildAnswers direct_coding (5 ∷ []) (7 ∷ []) 7 [] 4 20 [] 0 → ⊥)
build_capacity_written_refused = (
  λ h. unequal_lists (7 ∷ []) [] refl (h.refused refl seven (unequal 20 0 refl) (unequal 20 36 refl)).1,
  λ h. unequal 0 4 refl (h.refused refl seven (unequal 20 0 refl) (unequal 20 36 refl)).2,
)

-- one pair is not too many
pub build_capacity_refused : BuildAnswers direct_coding (5 ∷ []) (7 ∷ []) 7 nines 4 20 nines 4 → ⊥
build_capacity_refused h = one_fits (h.capacity refl)

-- ---- BuildGrowingAnswers
-- arrays of two lengths are not answered with another status
pub growing_lengths_status_refused : BuildGrowingAnswers direct_coding (5 ∷ []) [] nines 4 19 nines 4 → ⊥
growing_lengths_status_refused h = unequal 19 35 refl (h.lengths (unequal 0 1 refl)).0

-- and nothing is written
pub growing_lengths_written_refused : (BuildGrowingAnswers direct_coding (5 ∷ []) [] [] 4 35 (7 ∷ []) 4 → ⊥)
    × (BuildGrowingAnswers direct_coding (5 ∷ []) [] [] 4 35 [] 0 → ⊥)
growing_lengths_written_refused =
    (λ h. unequal_lists (7 ∷ []) [] refl (h.lengths (unequal 0 1 refl)).1, λ h. unequal 0 4 refl (h.lengths (unequal 0 1 refl)).2)

-- where the answer is `done` the bytes are the table
pub ungrown_refused : BuildGrowingAnswers direct_coding (5 ∷ []) (7 ∷ []) nines 4 0 nines 192 → ⊥
unfolding opened
ungrown_refused h = unequal_lists nines roomy_bytes refl (only_grown nines (h.built.built refl))

-- at 87 percent
pub growing_other_percent_refused : BuildGrowingAnswers direct_coding (5 ∷ []) (7 ∷ []) nines 4 0 one_bytes 192 → ⊥
unfolding opened
growing_other_percent_refused h = unequal_lists one_bytes roomy_bytes refl (only_grown one_bytes (h.built.built refl))

-- no other status is answered
pub growing_other_status_refused : BuildGrowingAnswers direct_coding (5 ∷ []) (7 ∷ []) nines 4 20 nines 4 → ⊥
growing_other_status_refused h = unequal 20 19 refl (h.refused refl (unequal 20 0 refl) (unequal 20 36 refl)).0

-- and out of memory nothing is written
pub growing_memory_written_refused : (BuildGrowingAnswers direct_coding (5 ∷ []) (7 ∷ []) [] 4 19 (7 ∷ []) 4 → ⊥)
    × (BuildGrowingAnswers direct_coding (5 ∷ []) (7 ∷ []) [] 4 19 [] 0 → ⊥)
growing_memory_written_refused = (
  λ h. unequal_lists (7 ∷ []) [] refl (h.refused refl (unequal 19 0 refl) (unequal 19 36 refl)).1,
  λ h. unequal 0 4 refl (h.refused refl (unequal 19 0 refl) (unequal 19 36 refl)).2,
)
