-- What an insert into a dynamic table returns and leaves.
--     IsStoreInsert c B k v r B'  an insert of the key k with the value v returns r and leaves B' of the bytes B. It does
--                          what an insert into a view does, on the bytes of a valid table (`on_valid`) and on any bytes
--                          (`on_any`)
--     IsDynInsert c B k v r B'  the same of a key and a value that have the lengths of the table, where an error is a
--                          `Rejected`
use Rattle.std.specs.Prelude.{◌≡◌, List, ℕ, Option, Result}
use Rattle.std.specs.Result.{result_map_both}
use Rattle.odht_raw.specs.Words.{Coding, Error}
use Rattle.odht.specs.declared.dynamic.DynError.{DynError}
use Rattle.odht.specs.declared.dynamic.DynError.TheVariants.{Rejected}
use Rattle.odht.specs.Inserts.{IsInsertInto, IsInsertIntoAny}
use Rattle.odht.specs.Tables.{OfTable}

pub record IsStoreInsert {K V : Type 0} (c : Coding K V) (B : List ℕ) (k : K) (v : V) (r : Result (Option V) Error) (B' : List ℕ) : Type 0 where
  pub on_valid : OfTable c.format B (λ P. IsInsertInto c P k v r B')
  pub on_any : IsInsertIntoAny c B k v r B'

pub record IsDynInsert {K V : Type 0} (c : Coding K V) (B : List ℕ) (k : K) (v : V) (r : Result (Option V) DynError) (B' : List ℕ) : Type 0 where
  pub answer : Result (Option V) Error
  pub is : r ≡ result_map_both (λ o. o) Rejected answer
  pub insert : IsStoreInsert c B k v answer B'
