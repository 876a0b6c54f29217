-- What the calls that build a table from pairs return and leave: in the caller's bytes, or in memory of its own that is
-- then copied.
-- The status is s; the buffers hold `out` and `len` before the call, and out' and len' after it.
--     IsHandedOut IsTable out s out' len'   bytes that satisfy `IsTable` were copied to the front of `out` and the rest
--                          of it is unchanged, or they are longer than it and all of it is unchanged; len' is their
--                          length
--     IsGrownAfterInserts c items B  B are the bytes of the table that starts with sixteen slots at 87 percent, after
--                          the items are inserted by the owned table, which grows where it has to
--     Each of the calls, with the coding c and the pairs of the key and the value at each index:
--     BuildAnswers c keys values p out len s out' len'   a table made at p percent for as many items as there are pairs
--     BuildGrowingAnswers c keys values out len s out' len'   a table that grows
-- Where the arrays are not equally long, or p is no load factor in percent, nothing is written.
use Rattle.std.specs.Prelude.{◌≡◌, ◌≤◌, ◌<◌, ℕ, List, length, take, drop, Some}
use Rattle.std.specs.List.{zip}
use Rattle.odht_base.specs.Insert.{insert_owned}
use Rattle.odht_base.specs.Load.{factor_of, IsPercent}
use Rattle.odht_base.specs.Table.{Table, fresh}
use Rattle.odht_header.specs.Coding.{Coding}
use Rattle.odht_header.specs.Refusals.{IsTooLarge}
use Rattle.odht_header.specs.declared.error.Error.TheVariants.{Memory, Capacity}
use Rattle.odht.specs.Lists.{encoded_all, IsAfterInserts, IsFreshAfterInserts}
use Rattle.odht_calls.specs.Statuses.{status_of, done, bad_percent, bad_lengths, too_small}

pub record IsHandedOut (IsTable : List ℕ → Type 0) (out : List ℕ) (s : ℕ) (out' : List ℕ) (len' : ℕ) : Type 0 where
  pub built : s ≡ done → IsTable (take len' out')
  pub fits : s ≡ done → len' ≤ length out
  pub rest : s ≡ done → drop len' out' ≡ drop len' out
  pub needed : s ≡ too_small → (B : List ℕ) × (length B ≡ len') × IsTable B
  pub too_small : s ≡ too_small → (length out < len') × (out' ≡ out)

abbrev pub IsGrownAfterInserts : {K V : Type 0} → Coding K V → List (K × V) → List ℕ → Type 0
IsGrownAfterInserts c items B =
    (P : Table) → fresh 12 87 ≡ Some P → IsAfterInserts c.format (insert_owned c.format) P (encoded_all c items) B

pub record BuildAnswers {K V : Type 0} (c : Coding K V) (keys : List K) (values : List V) (p : ℕ)
    (out : List ℕ) (len s : ℕ) (out' : List ℕ) (len' : ℕ) : Type 0 where
  pub lengths : (length values ≡ length keys → ⊥) → (s ≡ bad_lengths) × (out' ≡ out) × (len' ≡ len)
  pub percent : length values ≡ length keys → (IsPercent p → ⊥) → (s ≡ bad_percent) × (out' ≡ out) × (len' ≡ len)
  pub built : IsHandedOut (IsFreshAfterInserts c p (zip keys values)) out s out' len'
  pub refused : length values ≡ length keys → IsPercent p → (s ≡ done → ⊥) → (s ≡ too_small → ⊥)
      → (s ≡ status_of Capacity) × (out' ≡ out) × (len' ≡ len)
  pub capacity : s ≡ status_of Capacity → IsTooLarge c.format (length keys) (factor_of p)

pub record BuildGrowingAnswers {K V : Type 0} (c : Coding K V) (keys : List K) (values : List V)
    (out : List ℕ) (len s : ℕ) (out' : List ℕ) (len' : ℕ) : Type 0 where
  pub lengths : (length values ≡ length keys → ⊥) → (s ≡ bad_lengths) × (out' ≡ out) × (len' ≡ len)
  pub built : IsHandedOut (IsGrownAfterInserts c (zip keys values)) out s out' len'
  pub refused : length values ≡ length keys → (s ≡ done → ⊥) → (s ≡ too_small → ⊥)
      → (s ≡ status_of Memory) × (out' ≡ out) × (len' ≡ len)
