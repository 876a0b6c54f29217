-- What is written of an error, in bytes.
--     part_text p          what `{}` writes of a part of the format
--     bytes_text bs        what `{:?}` writes of bytes: each in decimal, between brackets
--     error_text e         what `{}` writes of an error
--     IsOpeningError e     e is an error of opening by header and length, as in `opening_refusal`
--     IsCallError e        e is an error of a new table, of an insert or of memory, and not of the bytes of a table
use Rattle.std.specs.Prelude.{ℕ, List, ◌++◌, codes, decimal}
use Rattle.std.specs.List.{join_by}
use Rattle.odht_header.specs.declared.error.Error.{Error}
-- begin names: generated from lists/errors.txt by make generate
use Rattle.odht_header.specs.declared.error.Error.TheVariants.{TooShort, WrongTag, WrongVersion, WrongSizeOf, SlotCountNotPowerOfTwo, SlotCountTooSmall, WrongLength, NonZeroEmpty, ControlMismatch, LoadFactorTooSmall, NonZeroPadding, BadFreeControl, MirrorMismatch, WrongItemCount, TooManyItems, Unreachable, SearchTooLong, InitLength, Full, Memory, Capacity}
-- end names
use Rattle.odht_header.specs.declared.error.Part.{Part}
use Rattle.odht_header.specs.declared.error.Part.TheVariants.{EntryMetadata, EncodedKey, EncodedValue, Header}

abbrev pub part_text : Part → List ℕ
part_text EntryMetadata = codes "EntryMetadata"
part_text EncodedKey = codes "Config::EncodedKey"
part_text EncodedValue = codes "Config::EncodedValue"
part_text Header = codes "Header"

abbrev pub bytes_text : List ℕ → List ℕ
bytes_text bs = codes "[" ++ join_by decimal (codes ", ") bs ++ codes "]"

abbrev pub error_text : Error → List ℕ
-- begin error_text: generated from lists/errors.txt by make generate
error_text (TooShort found) = codes "Provided data has " ++ decimal found ++ codes " bytes but the header needs 32"
error_text (WrongTag found) = codes "Expected header tag [79, 68, 72, 84] but found " ++ bytes_text found
error_text (WrongVersion found) = codes "Expected file format version [0, 0, 0, 2] but found " ++ bytes_text found
error_text (WrongSizeOf part expected found) =
    codes "Expected size of " ++ part_text part ++ codes " to be " ++ decimal expected
    ++ codes " but the encoded table specifies " ++ decimal found ++ codes ". This indicates an encoding mismatch."
error_text (SlotCountNotPowerOfTwo found) = codes "Slot count of hashtable should be a power of two but is " ++ decimal found
error_text (SlotCountTooSmall found) = codes "Slot count of hashtable should be at least 16 but is " ++ decimal found
error_text (WrongLength slot_count found expected) =
    codes "Provided allocation has wrong size for slot count " ++ decimal slot_count
    ++ codes ". The allocation's size is " ++ decimal found ++ codes " but the expected size is " ++ decimal expected ++ codes "."
error_text (NonZeroEmpty slot) = codes "Found empty entry with non-zero contents at " ++ decimal slot
error_text (ControlMismatch slot expected found) =
    codes "Control byte does not match hash value for entry " ++ decimal slot
    ++ codes ". Expected " ++ decimal expected ++ codes ", found " ++ decimal found ++ codes "."
error_text (LoadFactorTooSmall found) = codes "Load factor field should be at least 655 but is " ++ decimal found
error_text (NonZeroPadding found) = codes "Header padding should be zero but is " ++ bytes_text found
error_text (BadFreeControl slot found) =
    codes "Free slot " ++ decimal slot ++ codes " should have control byte 255 but has " ++ decimal found
error_text (MirrorMismatch index) = codes "Mirror control byte " ++ decimal index ++ codes " does not match its slot"
error_text (WrongItemCount stated found) =
    codes "Header states " ++ decimal stated ++ codes " items but " ++ decimal found ++ codes " were found"
error_text (TooManyItems count max) =
    codes "Header states " ++ decimal count ++ codes " items but at most " ++ decimal max ++ codes " are allowed"
error_text (Unreachable slot) = codes "Key in slot " ++ decimal slot ++ codes " is not reachable by its search"
error_text (SearchTooLong home groups) =
    codes "Searches from slot " ++ decimal home ++ codes " may read more than " ++ decimal groups ++ codes " groups"
error_text (InitLength found expected) =
    codes "byte slice to initialize has wrong length (" ++ decimal found ++ codes " instead of " ++ decimal expected ++ codes ")"
error_text Full = codes "Table is full"
error_text Memory = codes "Memory was refused"
error_text Capacity = codes "Capacity is too large"

-- end error_text

abbrev pub IsOpeningError : Error → Type 0
-- begin IsOpeningError: generated from lists/errors.txt by make generate
IsOpeningError (TooShort found) = Unit
IsOpeningError (WrongTag found) = Unit
IsOpeningError (WrongVersion found) = Unit
IsOpeningError (WrongSizeOf part expected found) = Unit
IsOpeningError (SlotCountNotPowerOfTwo found) = Unit
IsOpeningError (SlotCountTooSmall found) = Unit
IsOpeningError (WrongLength slot_count found expected) = Unit
-- end IsOpeningError
IsOpeningError _ = ⊥

abbrev pub IsCallError : Error → Type 0
-- begin IsCallError: generated from lists/errors.txt by make generate
IsCallError (InitLength found expected) = Unit
IsCallError Full = Unit
IsCallError Memory = Unit
IsCallError Capacity = Unit
-- end IsCallError
IsCallError _ = ⊥
