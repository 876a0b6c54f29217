-- The parts of a table as code reads them have homes for the keys of their format.
--     HasHomes F T         keys of the format F have homes among the slots of T: these are a slot count, and there are
--                          control bytes with their mirror
use Rattle.std.proofs.Common.{◌≡◌, ◌+◌, ◌≤◌, ◌<◌, ◌^◌, ℕ, List, length, All}
use Rattle.odht_raw.specs.Words.{Format, format_of, IsFormat, IsSlotCount}
use Rattle.odht_header.proofs.lemmas.Formats.{IsFormat-format_of}
use Rattle.odht_raw.specs.Parts.{TableParts, IsTableParts}

pub record HasHomes (F : Format) (T : TableParts) : Type 0 where
  pub format : IsFormat F
  pub slots : IsSlotCount T.entries.slots
  pub mirrored : length T.control ≡ T.entries.slots + 16

pub parts_homes : (min_len key_len value_len : ℕ) (hash : List ℕ → ℕ) (T : TableParts) → IsTableParts min_len key_len value_len T
    → ((b : List ℕ) → min_len ≤ length b → All (λ x. x < 256) b → hash b < 2 ^ 32) → HasHomes (format_of key_len value_len hash) T
parts_homes min_len key_len value_len hash T v fits = record {
  format = IsFormat-format_of key_len value_len min_len hash v.fitting.key_short v.fitting.value_short v.hashes fits;
  slots = v.slots;
  mirrored = v.mirrored;
}
