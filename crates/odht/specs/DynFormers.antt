-- What an insert returns and leaves that writes the former value into bytes of the caller, in a dynamic table.
--     lengths_error t k v f  the error of the first of the key k, the value v and the bytes f for the former value that
--                          has another length than the table t says
--     IsDynInsertInto c B k v f r B' f'  an insert of the key k with the value v, which have the lengths of the table, with
--                          the bytes f for the former value, returns r and leaves B' of the bytes B, and f': some answer
--                          is that of an insert (`IsDynInsert`), and r and f' tell of it (`IsFormerTo`)
use Rattle.std.specs.Prelude.{ℕ, Bool, List, Option, Result}
use Rattle.std.specs.Option.{option_or}
use Rattle.odht_raw.specs.Words.{Coding}
use Rattle.odht_raw.specs.FormerWrites.{IsFormerTo}
use Rattle.odht.specs.Dynamic.{DynStore}
use Rattle.odht.specs.declared.dynamic.DynError.{DynError}
use Rattle.odht.specs.DynInserts.{IsDynInsert}
use Rattle.odht.specs.DynLists.{length_error}

abbrev pub lengths_error : {D : Type 0} → DynStore D → List ℕ → List ℕ → List ℕ → Option DynError
lengths_error t k v f = option_or (length_error t (k, v)) (length_error t (k, f))

pub record IsDynInsertInto (c : Coding (List ℕ) (List ℕ)) (B k v f : List ℕ) (r : Result Bool DynError) (B' f' : List ℕ) : Type 0 where
  pub answer : Result (Option (List ℕ)) DynError
  pub tells : IsFormerTo answer f r f'
  pub insert : IsDynInsert c B k v answer B'
