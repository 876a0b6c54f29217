-- Worked examples: what the call for the length of a table at the front of longer bytes answers, here of the 192 bytes
-- of a table with three bytes behind them.
use Rattle.std.proofs.Common.{ℕ, refl, List, [], ◌∷◌, ◌++◌, lit≤}
use Rattle.odht_header.specs.declared.error.Error.TheVariants.{TooShort}
use Rattle.odht_header.proofs.examples.Apart.{unequal}
use Rattle.odht_header.proofs.examples.Opened.{opened}
use Rattle.odht_raw.specs.Prefixes.{IsFront}
use Rattle.odht_calls.specs.Prefixes.{TableLenAnswers}
use Rattle.odht_calls.proofs.examples.Tables.{direct_coding, one_bytes}

abbrev longer : List ℕ
longer = one_bytes ++ (1 ∷ 2 ∷ 3 ∷ [])

-- the front of 192 bytes is a table
front : IsFront direct_coding.format longer 192
unfolding opened
front = record { within = lit≤ tt; accepted = refl }

-- its length is no other
pub one_less_refused : TableLenAnswers direct_coding.format longer 9 0 191 → ⊥
one_less_refused h = unequal 191 192 refl (h.only 192 front).1

-- nor an error
pub longer_error_refused : TableLenAnswers direct_coding.format longer 9 7 9 → ⊥
longer_error_refused h = unequal 7 0 refl (h.only 192 front).0

-- of no bytes nothing is written
pub too_short_written_refused : TableLenAnswers direct_coding.format [] 9 1 0 → ⊥
unfolding opened
too_short_written_refused h = unequal 0 9 refl (h.refused (TooShort 0) refl)
