-- Where opening bytes or checking them fails: the slot that the first error names.
--     no_slot             the number that stands for no slot, SIZE_MAX of C
--     slot_of e           the slot of the error e: of an entry, a control byte or an unreachable key its slot, of
--                         a mirror byte its index, of long searches their home; of any other error no_slot
--     slot_or_none o      the slot of an error, or no_slot where there is none
--     PlaceAnswers o s new   where the first error is o, the status is s, and the caller's buffer holds `new` then
use Rattle.std.specs.Prelude.{◌≡◌, ℕ, ◌-◌, ◌^◌, Option, Some, None}
use Rattle.odht_header.specs.declared.error.Error.{Error}
-- begin names: generated from lists/errors.txt by make generate
use Rattle.odht_header.specs.declared.error.Error.TheVariants.{TooShort, WrongTag, WrongVersion, WrongSizeOf, SlotCountNotPowerOfTwo, SlotCountTooSmall, WrongLength, NonZeroEmpty, ControlMismatch, LoadFactorTooSmall, NonZeroPadding, BadFreeControl, MirrorMismatch, WrongItemCount, TooManyItems, Unreachable, SearchTooLong, InitLength, Full, Memory, Capacity}
-- end names
use Rattle.odht_calls.specs.Statuses.{status_or_ok}

abbrev pub no_slot : ℕ
no_slot = 2 ^ 64 - 1

abbrev pub slot_of : Error → ℕ
-- begin slot_of: generated from lists/errors.txt by make generate
slot_of (NonZeroEmpty slot) = slot
slot_of (BadFreeControl slot found) = slot
slot_of (ControlMismatch slot expected found) = slot
slot_of (MirrorMismatch index) = index
slot_of (SearchTooLong home groups) = home
slot_of (Unreachable slot) = slot
slot_of (TooShort found) = no_slot
slot_of (WrongTag found) = no_slot
slot_of (WrongVersion found) = no_slot
slot_of (WrongSizeOf part expected found) = no_slot
slot_of (SlotCountNotPowerOfTwo found) = no_slot
slot_of (SlotCountTooSmall found) = no_slot
slot_of (WrongLength slots found expected) = no_slot
slot_of (LoadFactorTooSmall found) = no_slot
slot_of (NonZeroPadding found) = no_slot
slot_of (WrongItemCount stated found) = no_slot
slot_of (TooManyItems n max) = no_slot
slot_of (InitLength found expected) = no_slot
slot_of Full = no_slot
slot_of Memory = no_slot
slot_of Capacity = no_slot

-- end slot_of

abbrev pub slot_or_none : Option Error → ℕ
slot_or_none None = no_slot
slot_or_none (Some e) = slot_of e

pub record PlaceAnswers (o : Option Error) (s new : ℕ) : Type 0 where
  pub status : s ≡ status_or_ok o
  pub slot : new ≡ slot_or_none o
