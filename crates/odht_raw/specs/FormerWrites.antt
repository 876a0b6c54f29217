-- A former value that an insert writes into bytes of the caller.
--     value_or o f         the bytes that o has, if it has some; else f
--     former_or a f        what the answer a of an insert leaves in such bytes f: the former value in an Ok, if there is one;
--                          else f
--     IsFormerTo a f r f'  r and f' tell of the answer a: whether there is a former value, or the error; and f' is what it
--                          leaves of f
--     IsOneInto c B k v f r B' f'  an insert of k and v into the bytes B of a table, with f for the former value, returns r
--                          and leaves B' and f': some answer does to valid bytes what an insert does, and to any what
--                          IsFramed says, and r and f' tell of it
use Rattle.std.specs.Prelude.{◌≡◌, ℕ, Bool, List, Option, Some, None, is_some, Result, Ok, Err, IfOk}
use Rattle.std.specs.Result.{result_map_both}
use Rattle.odht_raw.specs.Words.{Coding, Error, IsImage, Table}
use Rattle.odht_raw.specs.Frame.{IsFramed}
use Rattle.odht_raw.specs.Runs.{IsOnePlaced}

abbrev pub value_or : Option (List ℕ) → List ℕ → List ℕ
value_or None f = f
value_or (Some v) f = v

abbrev pub former_or : {E : Type 0} → Result (Option (List ℕ)) E → List ℕ → List ℕ
former_or (Ok o) f = value_or o f
former_or (Err e) f = f

pub record IsFormerTo {E : Type 0} (a : Result (Option (List ℕ)) E) (f : List ℕ) (r : Result Bool E) (f' : List ℕ) : Type 0 where
  pub answered : r ≡ result_map_both is_some (λ e. e) a
  pub former : f' ≡ former_or a f

pub record IsOneInto (c : Coding (List ℕ) (List ℕ)) (B k v f : List ℕ) (r : Result Bool Error) (B' f' : List ℕ) : Type 0 where
  pub answer : Result (Option (List ℕ)) Error
  pub tells : IsFormerTo answer f r f'
  pub placed : (P : Table) → IsImage c.format P B → IfOk answer (λ old. IsOnePlaced c P k v old B')
  pub framed : IsFramed c B k v answer B'
