-- What a find of the key k answers from the parts T of a table; f decodes a value.
--     IsFind F f T k o         on the parts of a table it is the map's answer (`on_placed`), on any parts a value that is
--                              stored with an equal key (`on_any`)
--     IsCountedFind F f T k r  the same of the first of the two, and the second is how many groups were read: on the
--                              parts of a table those up to the end of the search (`groups`), on any parts no more than
--                              there are (`few`)
use Rattle.std.specs.Prelude.{◌≡◌, ℕ, ◌/◌, ◌≤◌, List, Option, IfSome, option_map}
use Rattle.odht_raw.specs.Words.{Format, groups_read, IsPartsOf, map_of, Table}
use Rattle.odht_raw.specs.Parts.{TableParts}
use Rattle.odht_raw.specs.SearchEnds.{IsBesideKey}

pub record IsFind {V : Type 0} (F : Format) (f : List ℕ → V) (T : TableParts) (k : List ℕ) (o : Option V) : Type 0 where
  pub on_placed : (P : Table) → IsPartsOf F P T.entries.bytes T.control → o ≡ option_map f (map_of P k)
  pub on_any : IfSome o (IsBesideKey F f T.entries k)

pub record IsCountedFind {V : Type 0} (F : Format) (f : List ℕ → V) (T : TableParts) (k : List ℕ) (r : Option V × ℕ) : Type 0 where
  pub on_placed : (P : Table) → IsPartsOf F P T.entries.bytes T.control → r.0 ≡ option_map f (map_of P k)
  pub groups : (P : Table) → IsPartsOf F P T.entries.bytes T.control → r.1 ≡ groups_read F P.cells k
  pub on_any : IfSome r.0 (IsBesideKey F f T.entries k)
  pub few : r.1 ≤ T.entries.slots / 16
