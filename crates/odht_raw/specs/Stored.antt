-- The entries of a table, whose lengths of keys and values are types or numbers.
--     StoredEntries      these lengths, and the entries
--     stored kl vl s es  the entries es of s slots, of these lengths
--     stored_format S    a format of these lengths, where the hash does not matter
--     AreLengths k v k' v'  k' and v' are the lengths k and v
--     IsStored S         the entries are as long as these lengths say, and key and value have at most 255 bytes
--     IsSought h S k     the key k is as long as the keys of S, and the hash function h takes keys of this length
use Rattle.std.specs.Prelude.{◌≡◌, ℕ, List, length}
use Rattle.odht_base.specs.Format.{Format, IsFormat}
use Rattle.odht_raw.specs.Parts.{EntryBytes, IsEntries, entry_format, hashed_by}

pub record StoredEntries : Type 0 where
  pub key_len : ℕ
  pub value_len : ℕ
  pub entries : EntryBytes

abbrev pub stored : ℕ → ℕ → ℕ → List ℕ → StoredEntries
stored kl vl s es = record { key_len = kl; value_len = vl; entries = record { slots = s; bytes = es } }

abbrev pub stored_format : StoredEntries → Format
stored_format S = entry_format S.key_len S.value_len

abbrev pub IsStored : StoredEntries → Type 0
IsStored S = IsEntries S.key_len S.value_len S.entries

pub record AreLengths (k v k' v' : ℕ) : Type 0 where
  pub key : k' ≡ k
  pub value : v' ≡ v

pub record IsSought (h : List ℕ → ℕ) (S : StoredEntries) (k : List ℕ) : Type 0 where
  pub key : length k ≡ S.key_len
  pub format : IsFormat (hashed_by h (stored_format S))
