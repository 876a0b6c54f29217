-- Which bytes are rejected as a table, and by which error. Each `_refusal` is the error that some conditions on the
-- bytes give, or None; of a list the first error is the answer. B is all bytes; es and ctrl are entries and control
-- bytes.
--     c gives e                    the error e where the condition c holds
--     first_of rs                  the first error of the list
--     first_slot f n               the first of the errors that f gives for the first n slots
--     header_refusal F n B         of the header, for n bytes in all: tag, version, sizes, slot count, length
--     opening_refusal F B          of opening by header and length: too few bytes, then the header
--     front_header_refusal F n B   of the header of a table that more may follow, for n bytes in all: the same, but the
--                                  length only where there are fewer bytes than the table has
--     prefix_refusal F B           of a table at the front of B: too few bytes for a header, then this
--     hashes_refusal F es ctrl n   of the first n slots, as opening a view checks them: an entry that is not zeros in a
--                                  slot that counts as free, or a control byte that is not the key's tag
--     view_refusal F B             of opening a view: opening_refusal, then the first ten slots
--     slots_refusal F es ctrl      of all slots, as in the whole check: also a free control byte other than 255
--     mirror_refusal ctrl          of the mirror, the sixteen control bytes after those of the slots
--     reach_refusal F es ctrl      of a key that is not where the search for it ends among the decoded cells
--     longer_refusal ctrl o        of searches that may read more groups than the bound o, where there is a bound
--     late_refusal_by F o B        of what the whole check adds to opening a view: load factor, padding, all slots, the
--                                  mirror, the item count, its maximum, the bound o of searches, where there is one,
--                                  and that the search for each key ends at its slot
--     late_refusal F B             the same without a bound
--     check_refusal_by F o B       of everything: view_refusal, then late_refusal_by
--     check_refusal F B            the same without a bound
--     new_refusal F n f len        of a new table for n items at the load factor f in len bytes: capacity, then length
--     IsTooLarge F n f             no slot count is enough for n items at f, or a table of the least one has 2 ^ 64
--                                  bytes or more
--     checked o                    the answer of a check whose error is o
use Rattle.std.specs.Prelude.{◌≡◌, ◌≤◌, Result, Ok, Err, ℕ, ◌+◌, ◌-◌, ◌^◌, min, Bool, not, ◌&&◌, nat_le, nat_lt, ◌==◌, List, [], ◌∷◌, ◌++◌, length, map, bytes_eq, slice_index, Option, Some, None, option_map}
use Rattle.std.specs.List.{range_with_len, list_all}
use Rattle.std.specs.Option.{option_or, option_map_or}
use Rattle.std.specs.Bool.{then_some}
use Rattle.odht_base.specs.Format.{Format, tag}
use Rattle.odht_base.specs.Load.{max_items, is_power_of_two, slots_for}
use Rattle.odht_base.specs.Table.{count}
use Rattle.odht_base.specs.Image.{image_len}
use Rattle.odht_base.specs.Search.{search_end, is_at}
use Rattle.odht_base.specs.Bounds.{first_longer}
use Rattle.odht_base.specs.Bytes.{bytes_at}
use Rattle.odht_base.specs.Decoded.{header_count, header_slots, header_factor, counts_as_free, decoded_table, decoded_cells, slot_entry, slot_key, entries_of, controls_of}
use Rattle.odht_header.specs.declared.error.Error.{Error}
use Rattle.odht_header.specs.declared.error.Error.TheVariants.{TooShort, WrongTag, WrongVersion, WrongSizeOf, SlotCountNotPowerOfTwo, SlotCountTooSmall, WrongLength, NonZeroEmpty, ControlMismatch, LoadFactorTooSmall, NonZeroPadding, BadFreeControl, MirrorMismatch, WrongItemCount, TooManyItems, Unreachable, SearchTooLong, InitLength, Capacity}
use Rattle.odht_header.specs.declared.error.Part.{Part}
use Rattle.odht_header.specs.declared.error.Part.TheVariants.{EntryMetadata, EncodedKey, EncodedValue, Header}

infix 10 ◌gives◌
abbrev pub ◌gives◌ : Bool → Error → Option Error
c gives e = then_some c e

abbrev pub first_of : List (Option Error) → Option Error
first_of [] = None
first_of (r ∷ rs) = option_or r (first_of rs)

abbrev pub differs : ℕ → ℕ → Bool
differs m n = not (m == n)

abbrev pub lists_differ : List ℕ → List ℕ → Bool
lists_differ xs ys = not (bytes_eq xs ys)

-- one of the four sizes in the header, at this byte
abbrev pub wrong_size : List ℕ → ℕ → Part → ℕ → Option Error
wrong_size B at part expected = differs (slice_index B at) expected gives WrongSizeOf part expected (slice_index B at)

abbrev pub tag_refusal : List ℕ → Option Error
tag_refusal B = lists_differ (bytes_at B 0 4) (79 ∷ 68 ∷ 72 ∷ 84 ∷ []) gives WrongTag (bytes_at B 0 4)

abbrev pub version_refusal : List ℕ → Option Error
version_refusal B = lists_differ (bytes_at B 24 4) (0 ∷ 0 ∷ 0 ∷ 2 ∷ []) gives WrongVersion (bytes_at B 24 4)

abbrev pub power_refusal : List ℕ → Option Error
power_refusal B = not (is_power_of_two (header_slots B)) gives SlotCountNotPowerOfTwo (header_slots B)

abbrev pub few_slots_refusal : List ℕ → Option Error
few_slots_refusal B = nat_lt (header_slots B) 16 gives SlotCountTooSmall (header_slots B)

abbrev pub length_refusal : Format → ℕ → List ℕ → Option Error
length_refusal F n B = differs n (image_len F (header_slots B)) gives WrongLength (header_slots B) n (image_len F (header_slots B))

-- n bytes are too few for the table
abbrev pub cut_refusal : Format → ℕ → List ℕ → Option Error
cut_refusal F n B = nat_lt n (image_len F (header_slots B)) gives WrongLength (header_slots B) n (image_len F (header_slots B))

-- the errors of the fields alone; B has at least 32 bytes
abbrev pub field_refusals : Format → List ℕ → List (Option Error)
field_refusals F B =
    tag_refusal B
    ∷ version_refusal B
    ∷ wrong_size B 4 EntryMetadata 1
    ∷ wrong_size B 5 EncodedKey F.key_len
    ∷ wrong_size B 6 EncodedValue F.value_len
    ∷ wrong_size B 7 Header 32
    ∷ power_refusal B
    ∷ few_slots_refusal B
    ∷ []

unfoldable pub field_refusal : Format → List ℕ → Option Error
field_refusal F B = first_of (field_refusals F B)

-- and then of the length; B is the front of n bytes
abbrev pub header_refusals : Format → ℕ → List ℕ → List (Option Error)
header_refusals F n B = field_refusals F B ++ (length_refusal F n B ∷ [])

unfoldable pub header_refusal : Format → ℕ → List ℕ → Option Error
header_refusal F n B = first_of (header_refusals F n B)

-- the same where more may follow the table
unfoldable pub front_header_refusal : Format → ℕ → List ℕ → Option Error
front_header_refusal F n B = first_of (field_refusals F B ++ (cut_refusal F n B ∷ []))

-- the error of opening before any slot is read
unfoldable pub opening_refusal : Format → List ℕ → Option Error
opening_refusal F B = option_or (nat_lt (length B) 32 gives TooShort (length B)) (header_refusal F (length B) B)

-- that of a table at the front of the bytes
unfoldable pub prefix_refusal : Format → List ℕ → Option Error
prefix_refusal F B = option_or (nat_lt (length B) 32 gives TooShort (length B)) (front_header_refusal F (length B) B)

-- the errors of one slot of the parts
abbrev pub non_zero_empty : Format → List ℕ → List ℕ → ℕ → Option Error
non_zero_empty F es ctrl i =
    counts_as_free (slice_index ctrl i) && not (list_all (λ x. x == 0) (slot_entry F es i)) gives NonZeroEmpty i

abbrev pub bad_free_control : List ℕ → ℕ → Option Error
bad_free_control ctrl i =
    counts_as_free (slice_index ctrl i) && differs (slice_index ctrl i) 255 gives BadFreeControl i (slice_index ctrl i)

abbrev pub control_mismatch : Format → List ℕ → List ℕ → ℕ → Option Error
control_mismatch F es ctrl i =
    let expected = tag F (slot_key F es i) in
    not (counts_as_free (slice_index ctrl i)) && differs (slice_index ctrl i) expected gives
    ControlMismatch i expected (slice_index ctrl i)

-- the first of the errors that f gives for the first n slots, in slot order
abbrev pub first_slot : (ℕ → Option Error) → ℕ → Option Error
first_slot f n = first_of (map f (range_with_len 0 n))

-- the error of slot i on opening a view, and that in the whole check
abbrev pub hashes_refusal_at : Format → List ℕ → List ℕ → ℕ → Option Error
hashes_refusal_at F es ctrl i = first_of (non_zero_empty F es ctrl i ∷ control_mismatch F es ctrl i ∷ [])

abbrev pub slot_refusal_at : Format → List ℕ → List ℕ → ℕ → Option Error
slot_refusal_at F es ctrl i = first_of (non_zero_empty F es ctrl i ∷ bad_free_control ctrl i ∷ control_mismatch F es ctrl i ∷ [])

unfoldable pub hashes_refusal : Format → List ℕ → List ℕ → ℕ → Option Error
hashes_refusal F es ctrl n = first_slot (hashes_refusal_at F es ctrl) (min n (length ctrl - 16))

unfoldable pub view_refusal : Format → List ℕ → Option Error
view_refusal F B = option_or (opening_refusal F B) (hashes_refusal F (entries_of F B) (controls_of F B) 10)

unfoldable pub slots_refusal : Format → List ℕ → List ℕ → Option Error
slots_refusal F es ctrl = first_slot (slot_refusal_at F es ctrl) (length ctrl - 16)

-- a control byte of the mirror that differs from that of its slot
abbrev pub mirror_refusal_at : List ℕ → ℕ → Option Error
mirror_refusal_at ctrl i = differs (slice_index ctrl (length ctrl - 16 + i)) (slice_index ctrl i) gives MirrorMismatch i

unfoldable pub mirror_refusal : List ℕ → Option Error
mirror_refusal ctrl = first_slot (mirror_refusal_at ctrl) 16

-- slot i holds a key, and a search for it ends elsewhere
abbrev pub unreachable : Format → List ℕ → List ℕ → ℕ → Option Error
unreachable F es ctrl i =
    not (counts_as_free (slice_index ctrl i)) && not (is_at i (search_end F (decoded_cells F es ctrl) (slot_key F es i))) gives
    Unreachable i

unfoldable pub reach_refusal : Format → List ℕ → List ℕ → Option Error
reach_refusal F es ctrl = first_slot (unreachable F es ctrl) (length ctrl - 16)

abbrev pub factor_refusal : List ℕ → Option Error
factor_refusal B = nat_lt (header_factor B) 655 gives LoadFactorTooSmall (header_factor B)

abbrev pub padding_refusal : List ℕ → Option Error
padding_refusal B = lists_differ (bytes_at B 30 2) (0 ∷ 0 ∷ []) gives NonZeroPadding (bytes_at B 30 2)

-- of a header whose item count is not the number of pairs that were found
abbrev pub count_refusal : ℕ → List ℕ → Option Error
count_refusal found B = differs (header_count B) found gives WrongItemCount (header_count B) found

abbrev pub room_refusal : List ℕ → Option Error
room_refusal B =
    nat_lt (max_items (header_slots B) (header_factor B)) (header_count B) gives
    TooManyItems (header_count B) (max_items (header_slots B) (header_factor B))

abbrev pub longer_refusal : List ℕ → Option ℕ → Option Error
longer_refusal ctrl None = None
longer_refusal ctrl (Some groups) = option_map (λ home. SearchTooLong home groups) (first_longer ctrl groups)

-- the further errors of bytes that a view opens
abbrev pub late_refusals : Format → Option ℕ → List ℕ → List (Option Error)
late_refusals F o B =
    factor_refusal B
    ∷ padding_refusal B
    ∷ slots_refusal F (entries_of F B) (controls_of F B)
    ∷ mirror_refusal (controls_of F B)
    ∷ count_refusal (count (decoded_table F B)) B
    ∷ room_refusal B
    ∷ longer_refusal (controls_of F B) o
    ∷ reach_refusal F (entries_of F B) (controls_of F B)
    ∷ []

unfoldable pub late_refusal_by : Format → Option ℕ → List ℕ → Option Error
late_refusal_by F o B = first_of (late_refusals F o B)

abbrev pub late_refusal : Format → List ℕ → Option Error
late_refusal F B = late_refusal_by F None B

unfoldable pub check_refusal_by : Format → Option ℕ → List ℕ → Option Error
check_refusal_by F o B = option_or (view_refusal F B) (late_refusal_by F o B)

abbrev pub check_refusal : Format → List ℕ → Option Error
check_refusal F B = check_refusal_by F None B

-- the error of a new table of s slots in len bytes
abbrev pub slots_new_refusal : Format → ℕ → ℕ → Option Error
slots_new_refusal F len s =
    first_of ((nat_le (2 ^ 64) (image_len F s) gives Capacity) ∷ (differs len (image_len F s) gives InitLength len (image_len F s)) ∷ [])

unfoldable pub new_refusal : Format → ℕ → ℕ → ℕ → Option Error
new_refusal F n f len = option_map_or (slots_new_refusal F len) (slots_for n f) (Some Capacity)

abbrev pub IsTooLarge : Format → ℕ → ℕ → Type 0
IsTooLarge F n f = (s : ℕ) → slots_for n f ≡ Some s → 2 ^ 64 ≤ image_len F s

-- the answer of a check
abbrev pub checked : Option Error → Result (Unit {0}) Error
checked None = Ok tt
checked (Some e) = Err e
