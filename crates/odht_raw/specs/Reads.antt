-- A search in the parts of a table that are read by position.
--     entry_size p             how many bytes an entry has
--     read_entries p B         the entries that the bytes B have at the place p
--     read_controls p B        the control bytes that they have there
--     read_key p B i           the key of slot i there
--     IsPlaceFitting p         all of these offsets are below 2 ^ 64, and a key has at most 255 bytes
--     IsHeldBy p B             B is long enough to have the parts at the place p
--     IsFoundWithin s r        the slot of a key that is found is below s
--     IsLooking F p k t b      a search for the key k with the tag t is at the slots from b on
--     read_groups p B n        the control bytes at the place p, of which n groups were read
use Rattle.std.specs.Prelude.{⊤, ◌≡◌, ℕ, ◌+◌, ◌*◌, ◌<◌, ◌≤◌, List, length}
use Rattle.odht_raw.specs.Words.{bytes_at, Format, IsFormat, IsSlotCount, slot_key}
use Rattle.odht_raw.specs.Parts.{EntryBytes, ReadGroups, entry_format}
use Rattle.odht_raw.specs.SearchResults.{MatchSearchResult}
use Rattle.odht_raw.specs.SearchSteps.{IsTag}
use Rattle.odht_raw.specs.declared.raw_table.search_result.Search.{Search}
use Rattle.odht_raw.specs.declared.raw_table.read_search.ReadPlace.{ReadPlace}

abbrev pub entry_size : ReadPlace → ℕ
entry_size p = p.layout.key_len + p.layout.value_len

abbrev pub read_entries : ReadPlace → List ℕ → EntryBytes
read_entries p B = record { slots = p.slots; bytes = bytes_at B p.entries_at (p.slots * entry_size p) }

abbrev pub read_controls : ReadPlace → List ℕ → List ℕ
read_controls p B = bytes_at B p.control_at (p.slots + 16)

abbrev pub read_key : ReadPlace → List ℕ → ℕ → List ℕ
read_key p B i = slot_key (entry_format p.layout.key_len p.layout.value_len) (read_entries p B).bytes i

pub record IsPlaceFitting (p : ReadPlace) : Type 0 where
  pub entries : p.entries_at + p.slots * entry_size p < 18446744073709551616
  pub controls : p.control_at + p.slots + 16 < 18446744073709551616
  pub key : p.layout.key_len ≤ 255

pub record IsHeldBy (p : ReadPlace) (B : List ℕ) : Type 0 where
  pub entries : p.entries_at + p.slots * entry_size p ≤ length B
  pub controls : p.control_at + (p.slots + 16) ≤ length B

abbrev pub IsFoundWithin : ℕ → Search → Type 0
IsFoundWithin s r = MatchSearchResult r (λ i. i < s) (λ i. ⊤) ⊤

pub record IsLooking (F : Format) (p : ReadPlace) (k : List ℕ) (t b : ℕ) : Type 0 where
  pub slots : IsSlotCount p.slots
  pub fits : IsPlaceFitting p
  pub format : IsFormat F
  pub key : length k ≡ F.key_len
  pub tag : IsTag F k t
  pub start : b < p.slots

abbrev pub read_groups : ReadPlace → List ℕ → ℕ → ReadGroups
read_groups p B n = record { control = read_controls p B; groups = n }
