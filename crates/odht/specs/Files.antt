-- A table that is read by position from a source of bytes, such as a file.
--     FileStore S          the source, where the table begins in it, its lengths, and what its header stated when it was
--                          opened: the counts of slots and of items
--     file_format t h      the format of its lengths and of the hash h
--     file_coding t h      the coding of this format that leaves lists of bytes as they are
--     file_len t           how many bytes it has
--     file_bytes t B       these bytes, where those of the source are B
--     table_place a s kl vl   where the parts of a table of s slots and these lengths are, that begins at offset a
--     read_parts p B       the parts that the bytes B have at the place p
--     read_slot_value p B i   the value that slot i has there
--     IsFileOpened ml t    it has a slot count, keys that are long enough for a hash that needs ml bytes, lengths of at
--                          most 255, and its end before offset 2 ^ 64
--     IsFileOf kl vl s a n t   it has these lengths, and is the n bytes from offset a on of the source s
--     IsFileAt s a n t     it has some lengths, and is the n bytes from offset a on of the source s
--     IsOver h t B         B has all of its bytes, header and length fit, and the header states these counts
--     IsStatedOver h t B   the same, and its lengths are those that the header states
--     IsFileResult Q o P r the result r is a value of which P holds, where o is None, or the error o; or it is the error
--                          of a read, of which Q holds
--     key_refusal t k      the error of a lookup of the key k: that of a key of another length
use Rattle.std.specs.Prelude.{◌≡◌, ℕ, ◌+◌, ◌*◌, ◌<◌, ◌≤◌, ◌^◌, ◌==◌, not, List, length, slice_index, Option, Some, None, Result, Ok, Err}
use Rattle.std.specs.Bool.{then_some}
use Rattle.odht_raw.specs.Words.{bytes_at, Coding, Format, format_of, header_count, header_slots, image_len, IsSlotCount, slot_value}
use Rattle.odht_raw.specs.Frame.{IsAccepted}
use Rattle.odht_raw.specs.Parts.{TableParts, entry_format}
use Rattle.odht_raw.specs.Reads.{read_controls, read_entries}
use Rattle.odht_raw.specs.DynParts.{bytes_coding}
use Rattle.odht_raw.specs.declared.raw_table.read_search.ReadPlace.{ReadPlace}
use Rattle.odht_raw.specs.declared.read_at.ReadError.{ReadError}
use Rattle.odht.specs.declared.dynamic.DynError.{DynError}
use Rattle.odht.specs.declared.dynamic.DynError.TheVariants.{WrongKeyLength}
use Rattle.odht.specs.declared.dynamic.file.FileError.{FileError}
use Rattle.odht.specs.declared.dynamic.file.FileError.TheVariants.{Read, Table}

pub record FileStore (S : Type 0) : Type 0 where
  pub source : S
  pub at : ℕ
  pub key_len : ℕ
  pub value_len : ℕ
  pub slots : ℕ
  pub items : ℕ

abbrev pub file_format : {S : Type 0} → FileStore S → (List ℕ → ℕ) → Format
file_format t h = format_of t.key_len t.value_len h

abbrev pub file_coding : {S : Type 0} → FileStore S → (List ℕ → ℕ) → Coding (List ℕ) (List ℕ)
file_coding t h = bytes_coding (file_format t h)

abbrev pub file_len : {S : Type 0} → FileStore S → ℕ
file_len t = image_len (entry_format t.key_len t.value_len) t.slots

abbrev pub file_bytes : {S : Type 0} → FileStore S → List ℕ → List ℕ
file_bytes t B = bytes_at B t.at (file_len t)

abbrev pub table_place : ℕ → ℕ → ℕ → ℕ → ReadPlace
table_place a s kl vl = record {
  entries_at = a + 32;
  control_at = a + 32 + s * (kl + vl);
  slots = s;
  layout = record { key_len = kl; value_len = vl };
}

abbrev pub read_parts : ReadPlace → List ℕ → TableParts
read_parts p B = record { control = read_controls p B; entries = read_entries p B }

abbrev pub read_slot_value : ReadPlace → List ℕ → ℕ → List ℕ
read_slot_value p B i = slot_value (entry_format p.layout.key_len p.layout.value_len) (read_entries p B).bytes i

pub record IsFileOpened {S : Type 0} (ml : ℕ) (t : FileStore S) : Type 0 where
  pub count : IsSlotCount t.slots
  pub hashes : ml ≤ t.key_len
  pub key_short : t.key_len ≤ 255
  pub value_short : t.value_len ≤ 255
  pub fits : t.at + file_len t < 2 ^ 64

pub record IsFileOf {S : Type 0} (kl vl : ℕ) (s : S) (a n : ℕ) (t : FileStore S) : Type 0 where
  pub source : t.source ≡ s
  pub at : t.at ≡ a
  pub key : t.key_len ≡ kl
  pub value : t.value_len ≡ vl
  pub long : file_len t ≡ n

abbrev pub IsFileAt : {S : Type 0} → S → ℕ → ℕ → FileStore S → Type 0
IsFileAt s a n t = IsFileOf t.key_len t.value_len s a n t

pub record IsOver {S : Type 0} (h : List ℕ → ℕ) (t : FileStore S) (B : List ℕ) : Type 0 where
  pub held : t.at + file_len t ≤ length B
  pub accepted : IsAccepted (file_format t h) (file_bytes t B)
  pub slots : header_slots (file_bytes t B) ≡ t.slots
  pub items : header_count (file_bytes t B) ≡ t.items

pub record IsStatedOver {S : Type 0} (h : List ℕ → ℕ) (t : FileStore S) (B : List ℕ) : Type 0 where
  pub over : IsOver h t B
  pub key : t.key_len ≡ slice_index (file_bytes t B) 5
  pub value : t.value_len ≡ slice_index (file_bytes t B) 6

abbrev pub IsFileResult : {T : Type 0} → (ReadError → Type 0) → Option DynError → (T → Type 0) → Result T FileError → Type 0
IsFileResult Q o P (Ok t) = (o ≡ None) × P t
IsFileResult Q o P (Err (Table e)) = o ≡ Some e
IsFileResult Q o P (Err (Read e)) = Q e

abbrev pub key_refusal : {S : Type 0} → FileStore S → List ℕ → Option DynError
key_refusal t k = then_some (not (length k == t.key_len)) (WrongKeyLength t.key_len (length k))
