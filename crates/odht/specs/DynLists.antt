-- Lists of inserts into a dynamic table. An item is a key and a value, as bytes.
--     length_error t item  the error of an item whose key, or else whose value, has another length than those of the table t
--     IsDynStop h bytes t items i e  e is the error of item i, of which an insert into the table t may fail: that of its
--                          lengths, else `Full`, for which the table is full for the key where its bytes are valid
--     IsDynList h bytes holding before after items r  inserts of the items in turn find the table `before` and leave `after`;
--                          r is how many were accepted, and the error of the first that was not. `bytes` has the bytes of a
--                          store, h is the hash. The accepted items have the table's lengths (`fit`). On valid bytes it is the
--                          table after the accepted ones (`inserted`); on any bytes no more changes than the accepted
--                          inserts may change (`framed`), header and length still fit (`accepted`), and it stays the same
--                          store; the item that failed ends the list with its error (`stopped`)
use Rattle.std.specs.Prelude.{◌≡◌, ◌==◌, ◌↔◌, ◌≤◌, ℕ, not, List, length, take, All, Option, Some, None, Result, Err, IsOk, IfErr, slice_get}
use Rattle.std.specs.Bool.{then_some}
use Rattle.std.specs.Option.{option_or}
use Rattle.odht_base.specs.Insert.{insert_view, IsFullFor}
use Rattle.odht_raw.specs.Words.{Full}
use Rattle.odht_raw.specs.Frame.{IsAccepted, IsFramed}
use Rattle.odht_raw.specs.DynParts.{HasLengthsOf}
use Rattle.odht.specs.Dynamic.{DynStore, dyn_coding, dyn_format, dyn_store}
use Rattle.odht.specs.declared.dynamic.DynError.{DynError}
use Rattle.odht.specs.declared.dynamic.DynError.TheVariants.{WrongKeyLength, WrongValueLength, Rejected}
use Rattle.odht.specs.Lists.{encoded_all, IsAfterInserts, IsFramedRun}
use Rattle.odht.specs.Tables.{OfTable}

abbrev pub length_error : {D : Type 0} → DynStore D → List ℕ × List ℕ → Option DynError
length_error t item =
    option_or (then_some (not (length item.0 == t.key_len)) (WrongKeyLength t.key_len (length item.0)))
    (then_some (not (length item.1 == t.value_len)) (WrongValueLength t.value_len (length item.1)))

pub record IsDynStop {D : Type 0} (h : List ℕ → ℕ) (bytes : D → List ℕ) (t : DynStore D) (items : List (List ℕ × List ℕ)) (i : ℕ) (e : DynError) : Type 0 where
  pub item : List ℕ × List ℕ
  pub at : slice_get items i ≡ Some item
  pub error : Some e ≡ option_or (length_error t item) (Some (Rejected Full))
  pub framed : length_error t item ≡ None → IsFramed (dyn_coding t h) (bytes t.store) item.0 item.1 (Err Full) (bytes t.store)
  pub full : length_error t item ≡ None → OfTable (dyn_format t h) (bytes t.store) (λ P. IsFullFor P item.0)

pub record IsDynList {D : Type 0} (h : List ℕ → ℕ) (bytes : D → List ℕ) (holding : D → List ℕ → D) (before after : DynStore D) (items : List (List ℕ × List ℕ)) (r : ℕ × Result Unit DynError) : Type 0 where
  pub bound : r.0 ≤ length items
  pub all : IsOk r.1 ↔ (r.0 ≡ length items)
  pub fit : All (HasLengthsOf before.key_len before.value_len) (encoded_all (dyn_coding before h) (take r.0 items))
  pub inserted : OfTable (dyn_format before h) (bytes before.store)
      (λ P. IsAfterInserts (dyn_format before h) (insert_view (dyn_format before h)) P (encoded_all (dyn_coding before h) (take r.0 items)) (bytes after.store))
  pub framed : IsFramedRun (dyn_coding before h) (bytes before.store) (take r.0 items) (bytes after.store)
  pub same_store : after ≡ dyn_store before.key_len before.value_len (holding before.store (bytes after.store))
  pub accepted : IsAccepted (dyn_format after h) (bytes after.store)
  pub stopped : IfErr r.1 (λ e. IsDynStop h bytes after items r.0 e)
