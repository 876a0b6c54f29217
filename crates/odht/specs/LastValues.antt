-- The last value of a key in a list of items, of keys and values themselves.
--     HasNoKey items k         no item has the key k
--     IsLastItem items k v     some item has the key k and the value v, and no later one has this key
--     IsLastValue items k o    o is the value of the last item with the key k, None where no item has it
--     HasLastValues c items B  B are the bytes of a table whose map has the last values of the items, as bytes
use Rattle.std.specs.Prelude.{◌≡◌, ◌≢◌, ℕ, List, ◌∷◌, ◌++◌, Option, Some, None, All}
use Rattle.odht_raw.specs.Words.{Coding, IsImage, map_of, Table}
use Rattle.odht_base.specs.Map.{last}
use Rattle.odht.specs.Lists.{encoded_all}

abbrev pub HasNoKey : {K V : Type 0} → List (K × V) → K → Type 0
HasNoKey items k = All (λ item. item.0 ≢ k) items

pub record IsLastItem {K V : Type 0} (items : List (K × V)) (k : K) (v : V) : Type 0 where
  pub before : List (K × V)
  pub after : List (K × V)
  pub items_are : items ≡ before ++ (k, v) ∷ after
  pub latest : HasNoKey after k

abbrev pub IsLastValue : {K V : Type 0} → List (K × V) → K → Option V → Type 0
IsLastValue items k None = HasNoKey items k
IsLastValue items k (Some v) = IsLastItem items k v

pub record HasLastValues {K V : Type 0} (c : Coding K V) (items : List (K × V)) (B : List ℕ) : Type 0 where
  pub table : Table
  pub image : IsImage c.format table B
  pub maps : (k : List ℕ) → map_of table k ≡ last (encoded_all c items) k
