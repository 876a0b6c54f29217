-- What a new table is, and what an insert leaves.
--     IsFresh F n p B      B are the bytes of the fresh table for n items at p percent
--     IsInserted F insert P p B   an insert of the pair p into P, by `insert`, leaves the bytes B of a table whose map
--                          is that of P, except that the key of p has its value
--     IsInsertInto c P k v r B    an insert of the key k with the value v into P, in bytes that cannot grow, returns r and
--                          leaves the bytes B. Where it succeeds it returns the former value (`former`), and the key has
--                          the new one (`inserted`). It is full exactly where P is at its maximum and has no such key
--     IsInsertIntoAny c B k v r B'   an insert of the key k with the value v into any bytes B returns r and leaves the
--                          bytes B'. It overwrites one value, adds one entry or fails, and no other byte changes
--                          (`frame`); its only error is `Full` (`only_full`); header and length still fit (`accepted`)
use Rattle.std.specs.Prelude.{◌≡◌, ◌↔◌, ℕ, List, Option, Some, Result, Err, bytes_eq, if◌then◌else◌, IfOk, OnOk, OnErr}
use Rattle.odht_raw.specs.Words.{Coding, encoded, Error, Format, Full, IsImage, map_of, Pair, Table, value_for}
use Rattle.odht_base.specs.Insert.{insert_view, IsFullFor}
use Rattle.odht_base.specs.Table.{fresh}
use Rattle.odht_raw.specs.Frame.{IsAccepted, IsFramed}

pub record IsFresh (F : Format) (n percent : ℕ) (B : List ℕ) : Type 0 where
  pub table : Table
  pub new : fresh n percent ≡ Some table
  pub image : IsImage F table B

pub record IsInserted (F : Format) (insert : Table → Pair → Option Table) (P : Table) (p : Pair) (B : List ℕ) : Type 0 where
  pub table : Table
  pub inserted : insert P p ≡ Some table
  pub image : IsImage F table B
  pub maps : (q : List ℕ) → map_of table q ≡ (if bytes_eq q p.key then Some p.value else map_of P q)

pub record IsInsertInto {K V : Type 0} (c : Coding K V) (P : Table) (k : K) (v : V) (r : Result (Option V) Error) (B : List ℕ) : Type 0 where
  pub former : IfOk r (λ former. former ≡ value_for c P k)
  pub inserted : OnOk r (IsInserted c.format (insert_view c.format) P (encoded c k v) B)
  pub full : (r ≡ Err Full) ↔ IsFullFor P (c.key_bytes k)

pub record IsInsertIntoAny {K V : Type 0} (c : Coding K V) (B : List ℕ) (k : K) (v : V) (r : Result (Option V) Error) (B' : List ℕ) : Type 0 where
  pub frame : IsFramed c B k v r B'
  pub only_full : OnErr r (r ≡ Err Full)
  pub accepted : IsAccepted c.format B'
