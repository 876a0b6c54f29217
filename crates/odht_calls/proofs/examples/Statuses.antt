-- Worked examples: the number of each status, as include/odht.h has it, and what calls require of their arguments.
use Rattle.std.proofs.Common.{◌≡◌, ℕ, refl, arith, List, Some, None}
use Rattle.odht_header.specs.declared.error.Error.TheVariants.{TooShort, WrongTag, WrongVersion, WrongSizeOf, SlotCountNotPowerOfTwo, SlotCountTooSmall, WrongLength, NonZeroEmpty, ControlMismatch, LoadFactorTooSmall, NonZeroPadding, BadFreeControl, MirrorMismatch, WrongItemCount, TooManyItems, Unreachable, SearchTooLong, InitLength, Full, Memory, Capacity}
use Rattle.odht_header.specs.declared.error.Part.{Part}
use Rattle.odht_calls.specs.Statuses.{status_of, done, absent, replaced, bad_percent, bad_lengths, too_small, unmade, status_or_ok, AreAsLong}

-- ODHT_TOO_SHORT to ODHT_WRONG_LENGTH, which are about the header and the length
pub opening_statuses : (a b c : ℕ) (bs : List ℕ) (part : Part)
    → (status_of (TooShort a) ≡ 1)
    × (status_of (WrongTag bs) ≡ 2)
    × (status_of (WrongVersion bs) ≡ 3)
    × (status_of (WrongSizeOf part a b) ≡ 4)
    × (status_of (SlotCountNotPowerOfTwo a) ≡ 5)
    × (status_of (SlotCountTooSmall a) ≡ 6)
    × (status_of (WrongLength a b c) ≡ 7)
opening_statuses a b c bs part = (refl, refl, refl, refl, refl, refl, refl)

-- ODHT_NON_ZERO_EMPTY and ODHT_CONTROL_MISMATCH, which are about a slot
pub slot_statuses : (a b c : ℕ) → (status_of (NonZeroEmpty a) ≡ 8) × (status_of (ControlMismatch a b c) ≡ 9)
slot_statuses a b c = (refl, refl)

-- ODHT_LOAD_FACTOR_TOO_SMALL to ODHT_UNREACHABLE, which the whole check alone finds
pub check_statuses : (a b : ℕ) (bs : List ℕ)
    → (status_of (LoadFactorTooSmall a) ≡ 10)
    × (status_of (NonZeroPadding bs) ≡ 11)
    × (status_of (BadFreeControl a b) ≡ 12)
    × (status_of (MirrorMismatch a) ≡ 13)
    × (status_of (WrongItemCount a b) ≡ 14)
    × (status_of (TooManyItems a b) ≡ 15)
    × (status_of (Unreachable a) ≡ 16)
check_statuses a b bs = (refl, refl, refl, refl, refl, refl, refl)

-- ODHT_SEARCH_TOO_LONG, which the whole check with a bound alone finds
pub bound_statuses : (a b : ℕ) → status_of (SearchTooLong a b) ≡ 21
bound_statuses a b = refl

-- ODHT_INIT_LENGTH to ODHT_CAPACITY, which are about a call
pub call_statuses : (a b : ℕ)
    → (status_of (InitLength a b) ≡ 17)
    × (status_of Full ≡ 18)
    × (status_of Memory ≡ 19)
    × (status_of Capacity ≡ 20)
call_statuses a b = (refl, refl, refl, refl)

-- ODHT_OK, and ODHT_ABSENT to ODHT_UNMADE
pub other_statuses : (done ≡ 0)
    × (absent ≡ 32)
    × (replaced ≡ 33)
    × (bad_percent ≡ 34)
    × (bad_lengths ≡ 35)
    × (too_small ≡ 36)
    × (unmade ≡ 37)
other_statuses = (refl, refl, refl, refl, refl, refl, refl)

-- no error is ODHT_OK, and an error has its own status
pub status_or_ok_statuses : (status_or_ok None ≡ 0)
    × (status_or_ok (Some Full) ≡ 18)
    × (status_or_ok (Some (TooShort 0)) ≡ 1)
status_or_ok_statuses = (refl, refl, refl)

-- an array of two values does not
pub short_values_refused : AreAsLong 3 2 3 → ⊥
short_values_refused h = omega (arith, h.0)

-- nor does one of four
pub long_flags_refused : AreAsLong 3 3 4 → ⊥
long_flags_refused h = omega (arith, h.1)
