-- Worked examples: what a `new` is answered with, and which table is there afterwards.
use Rattle.std.proofs.Common.{◌≤◌, ◌+◌, ◌*◌, ◌^◌, refl, subst, arith, Some, lit≤}
use Rattle.std.specs.Prelude.{codes}
use Rattle.std.specs.Fmt.{digits}
use Rattle.std.proofs.lemmas.Option.{none-some}
use Rattle.odht_base.specs.Load.{factor_of}
use Rattle.odht_base.specs.Table.{Table, empty}
use Rattle.odht_base.proofs.lemmas.Options.{some_same}
use Rattle.odht_base.proofs.examples.Configs.{my_config}
use Rattle.odht_base.proofs.examples.Opened.{opened}
use Rattle.odht_header.specs.Refusals.{IsTooLarge}
use Rattle.odht_table.specs.Answers.{IsGoodPercent, IsRenewed}
use Rattle.odht.proofs.examples.SmallTables.{no_pairs}

-- ---- percentages
-- the least and the greatest
pub good_percents : IsGoodPercent 1 × IsGoodPercent 100
good_percents = ((lit≤ tt, lit≤ tt), (lit≤ tt, lit≤ tt))

-- the next ones
pub bad_percents : (IsGoodPercent 0 → ⊥) × (IsGoodPercent 101 → ⊥)
bad_percents = (λ h. omega (arith, h.0), λ h. omega (arith, h.1))

pub good : IsGoodPercent 87
good = (lit≤ tt, lit≤ tt)

-- ---- capacities
-- no slot count is enough, or the bytes of the least one are too many
pub too_large : IsTooLarge my_config (2 ^ 63) (factor_of 100) × IsTooLarge my_config (2 ^ 62) (factor_of 100)
unfolding opened
too_large =
    (λ s e. absurd (none-some s e), λ s e. subst (λ n. 2 ^ 64 ≤ 32 + n * 12 + n + 16) (some_same _ s e) (lit≤ tt))

-- sixteen slots are not too many
pub not_too_large : IsTooLarge my_config 0 (factor_of 87) → ⊥
unfolding opened
not_too_large h = omega (arith, h 16 refl)

-- ---- answers
-- the former table; the fresh one is `no_pairs`
abbrev pub old_table : Table
old_table = empty 32 (factor_of 87)

-- a percentage past 100
pub a_bad_percent : IsRenewed my_config 0 101 (codes "bad percent") (Some old_table) (Some old_table)
a_bad_percent = IsRenewed.bad_percent (Some old_table) bad_percents.1

-- no slot count is enough
pub a_capacity : IsRenewed my_config (2 ^ 63) 100 (codes "capacity") (Some old_table) (Some old_table)
a_capacity = IsRenewed.capacity (Some old_table) good_percents.1 too_large.0

-- memory may be exhausted at any good percentage where the table is not too large
pub a_memory : IsRenewed my_config 0 87 (codes "memory") (Some old_table) (Some old_table)
a_memory = IsRenewed.memory (Some old_table) good not_too_large

-- sixteen slots, of which thirteen may be occupied
pub a_new_table : IsRenewed my_config 0 87 (codes "slots 16 max 13") (Some old_table) (Some no_pairs)
unfolding opened digits
a_new_table = IsRenewed.made (Some old_table) 16 no_pairs good refl refl
