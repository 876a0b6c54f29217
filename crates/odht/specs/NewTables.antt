-- New tables: how long they are, what they are, and why there is none.
--     new_len c n p        how many bytes a new table for n items at p percent has; None where no slot count is enough, or
--                          the length passes 64 bits
--     init_refusal c n p B the error of making this table in the bytes B: it is too large, or B are more or fewer
--     IsCapacityOrMemory r r is one of these two errors
--     FailsAsNew c n f r   the errors of r are those of a new table for n items at the load factor f: `Capacity` exactly
--                          where it is too large, and otherwise `Memory`
--     FailsBy o r          r is the error o, where there is one; otherwise there is no other error than `Memory`
use Rattle.std.specs.Prelude.{◌≡◌, ◌↔◌, ◌⊎◌, ℕ, List, length, Option, Some, None, Result, Err, OnErr}
use Rattle.odht_raw.specs.Words.{Coding, Error, factor_of}
use Rattle.odht_base.specs.Load.{slots_for}
use Rattle.odht_header.specs.Refusals.{IsTooLarge, new_refusal}
use Rattle.odht_header.specs.declared.error.Error.TheVariants.{Capacity, Memory}
use Rattle.odht.specs.Growths.{table_len}

abbrev pub new_len : {K V : Type 0} → Coding K V → ℕ → ℕ → Option ℕ
new_len c n percent = table_len c.format (slots_for n (factor_of percent))

abbrev pub init_refusal : {K V : Type 0} → Coding K V → ℕ → ℕ → List ℕ → Option Error
init_refusal c n percent B = new_refusal c.format n (factor_of percent) (length B)

abbrev pub IsCapacityOrMemory : {T : Type 0} → Result T Error → Type 0
IsCapacityOrMemory r = (r ≡ Err Capacity) ⊎ (r ≡ Err Memory)

pub record FailsAsNew {K V T : Type 0} (c : Coding K V) (n f : ℕ) (r : Result T Error) : Type 0 where
  pub capacity : (r ≡ Err Capacity) ↔ IsTooLarge c.format n f
  pub memory : OnErr r (IsCapacityOrMemory r)

pub record FailsBy {T : Type 0} (o : Option Error) (r : Result T Error) : Type 0 where
  pub refused : (e : Error) → o ≡ Some e → r ≡ Err e
  pub memory : o ≡ None → OnErr r (r ≡ Err Memory)
