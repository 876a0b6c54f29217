-- Lists of keys and values that are inserted in turn.
--     IsAfterInserts F insert P ps B   B are the bytes of the table after the pairs ps are inserted into P in turn, by
--                          `insert`; its map is that of P with the last values of ps over it; where all have room below
--                          the maximum of P, it has the slot count and load factor of P, and at most as many pairs
--                          more as ps has
--     HasSizeOf P Q        Q has the slot count and the load factor of P
--     IsRefusedAt c P items n    P is full for the key of item n
--     IsFreshAfterInserts c p items B  B are the bytes of the fresh table for as many items at p percent, after the
--                          inserts of the items into it by the owned table; it has not grown
--     EndsAfter steps it T     the iterator `it` ends after items of which T holds; `steps` is what it gives at each step
use Rattle.std.specs.Prelude.{◌≡◌, ℕ, ◌+◌, ◌≤◌, List, length, Option, Some, slice_get}
use Rattle.std.specs.Iterator.{Drains}
use Rattle.odht_raw.specs.Words.{Coding, count, Format, IsImage, map_of, max_items, Pair, slot_count, Table}
use Rattle.odht_base.specs.Insert.{run, insert_owned, IsFullFor}
use Rattle.odht_base.specs.Map.{last, overwritten}
use Rattle.odht_base.specs.Table.{fresh}
pub use Rattle.odht_raw.specs.Runs.{encoded_all, IsFramedRun, IsStoppedAt}

abbrev pub HasSizeOf : Table → Table → Type 0
HasSizeOf P Q = (slot_count Q ≡ slot_count P) × (Q.factor ≡ P.factor)

pub record IsAfterInserts (F : Format) (insert : Table → Pair → Option Table) (P : Table) (ps : List Pair) (B : List ℕ) : Type 0 where
  pub table : Table
  pub runs : run insert P ps ≡ Some table
  pub image : IsImage F table B
  pub maps : (k : List ℕ) → map_of table k ≡ overwritten (map_of P) (last ps) k
  pub stays : count P + length ps ≤ max_items (slot_count P) P.factor → HasSizeOf P table × (count table ≤ count P + length ps)

pub record IsRefusedAt {K V : Type 0} (c : Coding K V) (P : Table) (items : List (K × V)) (n : ℕ) : Type 0 where
  pub item : K × V
  pub at : slice_get items n ≡ Some item
  pub full : IsFullFor P (c.key_bytes item.0)

pub record IsFreshAfterInserts {K V : Type 0} (c : Coding K V) (percent : ℕ) (items : List (K × V)) (B : List ℕ) : Type 0 where
  pub start : Table
  pub new : fresh (length items) percent ≡ Some start
  pub inserted : IsAfterInserts c.format (insert_owned c.format) start (encoded_all c items) B
  pub never_grown : HasSizeOf start inserted.table

abbrev pub EndsAfter : {S A : Type 0} → (S → Option A → S → Type 0) → S → (List A → Type 0) → Type 0
EndsAfter {A = A} steps it T = (xs : List A) × Drains steps it xs × T xs
