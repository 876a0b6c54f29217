-- No error has the status of a call that is done.
use Rattle.std.proofs.Common.{◌≡◌, arith}
use Rattle.odht_header.specs.declared.error.Error.{Error}
-- begin names: generated from lists/errors.txt by make generate
use Rattle.odht_header.specs.declared.error.Error.TheVariants.{TooShort, WrongTag, WrongVersion, WrongSizeOf, SlotCountNotPowerOfTwo, SlotCountTooSmall, WrongLength, NonZeroEmpty, ControlMismatch, LoadFactorTooSmall, NonZeroPadding, BadFreeControl, MirrorMismatch, WrongItemCount, TooManyItems, Unreachable, SearchTooLong, InitLength, Full, Memory, Capacity}
-- end names
use Rattle.odht_calls.specs.Statuses.{status_of, done}

-- its number is from 1 on
pub not_done : (e : Error) → status_of e ≡ done → ⊥
-- begin not_done: generated from lists/errors.txt by make generate
not_done (TooShort a) h = omega (arith, h)
not_done (WrongTag bs) h = omega (arith, h)
not_done (WrongVersion bs) h = omega (arith, h)
not_done (WrongSizeOf part a b) h = omega (arith, h)
not_done (SlotCountNotPowerOfTwo a) h = omega (arith, h)
not_done (SlotCountTooSmall a) h = omega (arith, h)
not_done (WrongLength a b c) h = omega (arith, h)
not_done (NonZeroEmpty a) h = omega (arith, h)
not_done (ControlMismatch a b c) h = omega (arith, h)
not_done (LoadFactorTooSmall a) h = omega (arith, h)
not_done (NonZeroPadding bs) h = omega (arith, h)
not_done (BadFreeControl a b) h = omega (arith, h)
not_done (MirrorMismatch a) h = omega (arith, h)
not_done (WrongItemCount a b) h = omega (arith, h)
not_done (TooManyItems a b) h = omega (arith, h)
not_done (Unreachable a) h = omega (arith, h)
not_done (InitLength a b) h = omega (arith, h)
not_done Full h = omega (arith, h)
not_done Memory h = omega (arith, h)
not_done Capacity h = omega (arith, h)
not_done (SearchTooLong a b) h = omega (arith, h)

-- end not_done
