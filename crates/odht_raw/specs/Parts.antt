-- The parts of a table as code reads them.
--     EntryBytes           a number of slots, and the bytes of their entries
--     entry_format kl vl   a format of these lengths, where the hash does not matter
--     hashed_by h F        the format with the lengths of F and the hash of a key by h
--     IsEntries kl vl E    E has the length of its slot count, and key and value have at most 255 bytes
--     stored_in es ctrl    the entries es of as many slots as ctrl has control bytes without the mirror
--     TableParts           control bytes with their mirror, and entries
--     IsTableParts ml kl vl T   T has a slot count, and control bytes with their mirror and entries of this slot count;
--                          a key is long enough for its hash
--     IsZeros n bs         bs is n zeros, like key or value of a free slot's entry
--     ReadGroups        control bytes with their mirror, and how many groups of sixteen of them were read
use Rattle.std.specs.Prelude.{◌≡◌, ℕ, ◌+◌, ◌-◌, ◌*◌, ◌≤◌, List, length, replicate}
use Rattle.odht_raw.specs.Words.{Format, format_of, IsSlotCount}

pub record EntryBytes : Type 0 where
  pub slots : ℕ
  pub bytes : List ℕ

abbrev pub entry_format : ℕ → ℕ → Format
entry_format key_len value_len = format_of key_len value_len (λ b. 0)

abbrev pub hashed_by : (List ℕ → ℕ) → Format → Format
hashed_by hash F = format_of F.key_len F.value_len hash

pub record IsEntries (key_len value_len : ℕ) (E : EntryBytes) : Type 0 where
  pub key_short : key_len ≤ 255
  pub value_short : value_len ≤ 255
  pub long : length E.bytes ≡ E.slots * (key_len + value_len)

abbrev pub stored_in : List ℕ → List ℕ → EntryBytes
stored_in es ctrl = record { slots = length ctrl - 16; bytes = es }

pub record TableParts : Type 0 where
  pub control : List ℕ
  pub entries : EntryBytes

pub record IsTableParts (min_len key_len value_len : ℕ) (T : TableParts) : Type 0 where
  pub fitting : IsEntries key_len value_len T.entries
  pub slots : IsSlotCount T.entries.slots
  pub mirrored : length T.control ≡ T.entries.slots + 16
  pub hashes : min_len ≤ key_len

abbrev pub IsZeros : ℕ → List ℕ → Type 0
IsZeros n bs = bs ≡ replicate n 0

pub record ReadGroups : Type 0 where
  pub control : List ℕ
  pub groups : ℕ
