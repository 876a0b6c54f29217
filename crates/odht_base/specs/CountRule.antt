-- The rule of inserts by which the item count alone decides, as in the Rust crate: at the maximum the owned table grows
-- and a view answers None (in the Rust crate it panics), whatever the key. It is here to compare the tables that both
-- rules make.
--     insert_owned_by_count F P p   an insert of the owned table by this rule
--     insert_view_by_count F P p    an insert of a view by this rule
--     OverwritesFull P p            P is full, and has the key of p
--     NoneOverwritesFull insert P ps  no pair of ps overwrites a value in a full table when its turn comes
use Rattle.std.specs.Prelude.{⊤, List, [], ◌∷◌, Option, None, IfSome, IsSome, IsTrue, option_and_then, if◌then◌else◌}
use Rattle.odht_base.specs.Format.{Format}
use Rattle.odht_base.specs.Insert.{place, grown, is_full}
use Rattle.odht_base.specs.Map.{map_of}
use Rattle.odht_base.specs.Table.{Pair, Table}

abbrev pub insert_owned_by_count : Format → Table → Pair → Option Table
insert_owned_by_count F P p = if is_full P then option_and_then (λ Q. place F Q p) (grown F P) else place F P p

abbrev pub insert_view_by_count : Format → Table → Pair → Option Table
insert_view_by_count F P p = if is_full P then None else place F P p

abbrev pub OverwritesFull : Table → Pair → Type 0
OverwritesFull P p = IsTrue (is_full P) × IsSome (map_of P p.key)

abbrev pub NoneOverwritesFull : (Table → Pair → Option Table) → Table → List Pair → Type 0
NoneOverwritesFull insert P [] = ⊤
NoneOverwritesFull insert P (p ∷ ps) = (OverwritesFull P p → ⊥) × IfSome (insert P p) (λ Q. NoneOverwritesFull insert Q ps)
