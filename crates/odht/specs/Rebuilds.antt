-- Making a table again by inserts.
--     IsNewSizeOf P n p    the new table for n items at p percent has the slot count and the load factor of P
--     AreInOrder c P items the items, encoded, are the pairs of the slots `order`, an insert order of P
--     IsRebuilding c items n p P   P is valid, the items are in an insert order of it, and a new table for n items at p
--                          percent has its size
--     IsBuilt c items n p B    B are the bytes of the fresh table for n items at p percent, after the inserts of the items
--                          into it by the owned table, which may grow; `IsFreshAfterInserts` is of as many items, and of one that does not
use Rattle.std.specs.Prelude.{◌≡◌, ℕ, List, Some}
use Rattle.odht_base.specs.Insert.{insert_owned}
use Rattle.odht_raw.specs.Words.{Coding, empty, IsInsertOrder, IsValid, slot_count, Table}
use Rattle.odht_base.specs.Made.{pairs_of}
use Rattle.odht_base.specs.Table.{fresh}
use Rattle.odht.specs.Lists.{encoded_all, IsAfterInserts}

abbrev pub IsNewSizeOf : Table → ℕ → ℕ → Type 0
IsNewSizeOf P n percent = fresh n percent ≡ Some (empty (slot_count P) P.factor)

pub record AreInOrder {K V : Type 0} (c : Coding K V) (P : Table) (items : List (K × V)) : Type 0 where
  pub order : List ℕ
  pub is_order : IsInsertOrder c.format P order
  pub pairs : encoded_all c items ≡ pairs_of P order

pub record IsRebuilding {K V : Type 0} (c : Coding K V) (items : List (K × V)) (n percent : ℕ) (P : Table) : Type 0 where
  pub valid : IsValid c.format P
  pub in_order : AreInOrder c P items
  pub size : IsNewSizeOf P n percent

pub record IsBuilt {K V : Type 0} (c : Coding K V) (items : List (K × V)) (n percent : ℕ) (B : List ℕ) : Type 0 where
  pub start : Table
  pub new : fresh n percent ≡ Some start
  pub inserted : IsAfterInserts c.format (insert_owned c.format) start (encoded_all c items) B
