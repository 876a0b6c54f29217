-- What a list of inserts answers and leaves: r is how many items were accepted, and the error of the first that was not.
--     IsViewList c bytes holding before after items r  of inserts into a view, which find the store `before` and leave
--                          `after`; `bytes` has the bytes of a store. On valid bytes it is the table after the accepted
--                          ones (`inserted`), which is full for the item that failed (`at_maximum`); on any bytes no
--                          more changes than the accepted inserts may change (`framed`), header and length still fit
--                          (`accepted`), and an insert of the item that failed may fail (`stopped`); there is no other
--                          error than `Full`, and it stays the same store
use Rattle.std.specs.Prelude.{◌≡◌, ◌↔◌, ◌≤◌, ℕ, List, length, take, Result, Err, IsOk, OnErr}
use Rattle.odht_base.specs.Insert.{insert_view}
use Rattle.odht_raw.specs.Words.{Coding, Error, Full, IsImage, Table}
use Rattle.odht_raw.specs.Frame.{IsAccepted}
use Rattle.odht.specs.Lists.{encoded_all, IsAfterInserts, IsFramedRun, IsRefusedAt, IsStoppedAt}

pub record IsViewList {K V D : Type 0} (c : Coding K V) (bytes : D → List ℕ) (holding : D → List ℕ → D) (before after : D) (items : List (K × V)) (r : ℕ × Result Unit Error) : Type 0 where
  pub bound : r.0 ≤ length items
  pub all : IsOk r.1 ↔ (r.0 ≡ length items)
  pub inserted : (P : Table) → IsImage c.format P (bytes before) → IsAfterInserts c.format (insert_view c.format) P (encoded_all c (take r.0 items)) (bytes after)
  pub framed : IsFramedRun c (bytes before) (take r.0 items) (bytes after)
  pub same_store : after ≡ holding before (bytes after)
  pub accepted : IsAccepted c.format (bytes after)
  pub at_maximum : (P : Table) → IsImage c.format P (bytes after) → OnErr r.1 (IsRefusedAt c P items r.0)
  pub stopped : OnErr r.1 (IsStoppedAt c items r.0 (bytes after))
  pub only_full : OnErr r.1 (r.1 ≡ Err Full)
