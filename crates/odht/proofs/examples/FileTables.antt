-- Worked examples: a table of sixteen slots, of keys of two bytes and values of one, that lies behind 100 other bytes.
use Rattle.std.proofs.Common.{◌≡◌, ℕ, List, [], ◌∷◌, ◌++◌, refl, arith, lit<, length, replicate, Some, None, Ok, Err}
use Rattle.odht_raw.specs.Words.{format_of, IsSlotCount}
use Rattle.odht_raw.specs.DynParts.{bytes_coding}
use Rattle.odht_raw.specs.declared.read_at.ReadError.{ReadError}
use Rattle.odht_raw.specs.declared.read_at.ReadError.TheVariants.{EarlyEnd}
use Rattle.odht.specs.Files.{FileStore, file_format, file_coding, file_len, file_bytes, table_place, read_parts, read_slot_value, IsFileOpened, IsFileOf, IsOver, IsFileResult, key_refusal}
use Rattle.odht.specs.declared.dynamic.DynError.TheVariants.{KeyTooShort, WrongKeyLength}
use Rattle.odht.specs.declared.dynamic.file.FileError.TheVariants.{Read, Table}

module _ {S : Type 0} (source : S) where
  abbrev table : FileStore S
  table = record { source = source; at = 100; key_len = 2; value_len = 1; slots = 16; items = 3 }

  -- its lengths are those of its format
  pub formatted : (h : List ℕ → ℕ) → (file_format table h ≡ format_of 2 1 h) × (file_coding table h ≡ bytes_coding (format_of 2 1 h))
  formatted h = (refl, refl)

  -- the header has 32 bytes, the entries 48, and there are 32 control bytes
  pub long : file_len table ≡ 112
  long = refl

  pub placed : table_place 100 16 2 1 ≡ record { entries_at = 132; control_at = 180; slots = 16; layout = record { key_len = 2; value_len = 1 } }
  placed = refl

  -- what lies in front of it is not its own, nor what lies behind it
  pub cut : file_bytes table (replicate 100 9 ++ (replicate 112 7 ++ (8 ∷ []))) ≡ replicate 112 7
  cut = refl

  -- slot 1 has its value at the sixth of the bytes of the entries
  pub value : read_slot_value (table_place 100 16 2 1) (replicate 137 9 ++ (5 ∷ replicate 74 9)) 1 ≡ 5 ∷ []
  value = refl

  pub parts : read_parts (table_place 100 16 2 1) (replicate 132 9 ++ (replicate 48 7 ++ replicate 32 8))
      ≡ record { control = replicate 32 8; entries = record { slots = 16; bytes = replicate 48 7 } }
  parts = refl

  -- ---- what is known of an opened one
  pub opened : IsSlotCount 16 → IsFileOpened 2 table
  opened count = record {
    count = count;
    hashes = omega arith;
    key_short = omega arith;
    value_short = omega arith;
    fits = lit< tt;
  }

  -- not where the hash function needs longer keys
  pub short_keys_refused : IsFileOpened 4 table → ⊥
  short_keys_refused h = omega (arith, h.hashes)

  -- it is where it was opened
  pub lies : IsFileOf 2 1 source 100 112 table
  lies = record { source = refl; at = refl; key = refl; value = refl; long = refl }

  -- and nowhere else
  pub elsewhere_refused : IsFileOf 2 1 source 99 112 table → ⊥
  elsewhere_refused h = let same : 100 ≡ 99 = h.at in omega (arith, same)

  pub longer_refused : IsFileOf 2 1 source 100 113 table → ⊥
  longer_refused h = let same : 112 ≡ 113 = h.long in omega (arith, same)

  -- bytes that end before it does are not over it
  pub short_bytes_refused : (h : List ℕ → ℕ) (B : List ℕ) → length B ≡ 211 → IsOver h table B → ⊥
  short_bytes_refused h B n o = omega (arith, n, o.held)

  -- ---- what a lookup returns
  pub other_key : key_refusal table (7 ∷ []) ≡ Some (WrongKeyLength 2 1)
  other_key = refl

  pub own_key : key_refusal table (7 ∷ 8 ∷ []) ≡ None
  own_key = refl

-- ---- results
module _ (Q : ReadError → Type 0) (P : ℕ → Type 0) where
  -- a value is one of which P holds
  pub answered : P 5 → IsFileResult Q None P (Ok 5)
  answered p = (refl, p)

  -- and there is none where there is an error
  pub answered_refused : IsFileResult Q (Some (KeyTooShort 3 4)) P (Ok 5) → ⊥
  answered_refused h = cc

  -- which is returned
  pub refused : IsFileResult Q (Some (KeyTooShort 3 4)) P (Err (Table (KeyTooShort 3 4)))
  refused = refl

  -- and no error where there is none
  pub refused_refused : IsFileResult Q None P (Err (Table (KeyTooShort 3 4))) → ⊥
  refused_refused h = cc

  -- but that of a read
  pub unread : Q EarlyEnd → IsFileResult Q None P (Err (Read EarlyEnd))
  unread q = q

  pub unread_refused : (Q EarlyEnd → ⊥) → IsFileResult Q None P (Err (Read EarlyEnd)) → ⊥
  unread_refused other h = other h
