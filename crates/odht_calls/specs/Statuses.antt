-- The statuses that the calls for C return, which are numbers, and what the calls require of their arguments.
--     status_of e          the status of the error e
--     done absent replaced bad_percent bad_lengths too_small unmade   the statuses that are no error of the library
--     status_or_ok o       the status of an error, or `done` where there is none
--     AreAsLong n a b      two arrays, of a and of b elements, have an element for each of n keys
use Rattle.std.specs.Prelude.{◌≡◌, ℕ, Option, Some, None}
use Rattle.odht_header.specs.declared.error.Error.{Error}
-- begin names: generated from lists/errors.txt by make generate
use Rattle.odht_header.specs.declared.error.Error.TheVariants.{TooShort, WrongTag, WrongVersion, WrongSizeOf, SlotCountNotPowerOfTwo, SlotCountTooSmall, WrongLength, NonZeroEmpty, ControlMismatch, LoadFactorTooSmall, NonZeroPadding, BadFreeControl, MirrorMismatch, WrongItemCount, TooManyItems, Unreachable, SearchTooLong, InitLength, Full, Memory, Capacity}

-- end names

abbrev pub status_of : Error → ℕ
-- begin status_of: generated from lists/errors.txt by make generate
status_of (TooShort found) = 1
status_of (WrongTag found) = 2
status_of (WrongVersion found) = 3
status_of (WrongSizeOf part expected found) = 4
status_of (SlotCountNotPowerOfTwo found) = 5
status_of (SlotCountTooSmall found) = 6
status_of (WrongLength slots found expected) = 7
status_of (NonZeroEmpty slot) = 8
status_of (ControlMismatch slot expected found) = 9
status_of (LoadFactorTooSmall found) = 10
status_of (NonZeroPadding found) = 11
status_of (BadFreeControl slot found) = 12
status_of (MirrorMismatch index) = 13
status_of (WrongItemCount stated found) = 14
status_of (TooManyItems n max) = 15
status_of (Unreachable slot) = 16
status_of (InitLength found expected) = 17
status_of Full = 18
status_of Memory = 19
status_of Capacity = 20
status_of (SearchTooLong home groups) = 21

-- end status_of

abbrev pub done : ℕ
done = 0

abbrev pub absent : ℕ
absent = 32

abbrev pub replaced : ℕ
replaced = 33

abbrev pub bad_percent : ℕ
bad_percent = 34

abbrev pub bad_lengths : ℕ
bad_lengths = 35

abbrev pub too_small : ℕ
too_small = 36

abbrev pub unmade : ℕ
unmade = 37

abbrev pub status_or_ok : Option Error → ℕ
status_or_ok None = done
status_or_ok (Some e) = status_of e

abbrev pub AreAsLong : ℕ → ℕ → ℕ → Type 0
AreAsLong n a b = (a ≡ n) × (b ≡ n)
