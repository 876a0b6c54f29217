-- What calls of an owned table do. A contract sees it as the plain table whose image its bytes are.
--     HasMapWith P p Q     the map of Q is that of P, except that the key of p has its value
--     HasLastValuesIn c items Q   the map of Q has the last values of the items, as bytes
--     IsRunOf F P ps Q     inserts of the pairs ps in turn into P leave Q. The map of Q is that of P, overwritten by their last
--                          values. Where P has room for them, Q has its slots and load factor, and at most as many more pairs
--     IsCollectedIn c p items Q   Q is the fresh table for as many items at p percent, after inserts of the items in turn.
--                          It has not grown, and has their last values
--     AreTooMany c p items no table at p percent is large enough for as many items
--     HasValuesOver P ps Q the map of Q is that of P, overwritten by the last values of the pairs ps
--     KeepsSize P n Q      where P has room for n more pairs, Q has its slot count and load factor, and at most n more pairs
--     IsPlainList c P Q items r   inserts of the items in turn into P leave Q, and return r: how many were accepted, and
--                          the error of the first that was not. Q is P after the accepted ones (`inserted`), and has the
--                          last values of all where P was fresh (`last_values`). It is full for the item that failed
--                          (`at_maximum`), and there is no other error than `Memory`
--     IsPlainReserve c P n r Q    room for n more items in P is made, with the result r, and leaves Q: on success Q is
--                          `reserved` of P (`table`), with the map of P and the room; it is `Capacity` exactly where the
--                          room is lacking and no table is that large, and an error only where the room is lacking
use Rattle.std.specs.Prelude.{◌≡◌, ◌↔◌, ◌≤◌, ◌+◌, ℕ, List, length, take, Some, Result, Err, IsOk, OnOk, OnErr, bytes_eq, if◌then◌else◌}
use Rattle.odht_raw.specs.Words.{Coding, count, Error, factor_of, Format, map_of, max_items, Pair, slot_count, Table}
use Rattle.odht_base.specs.Insert.{insert_owned, run}
use Rattle.odht_base.specs.Map.{last, overwritten}
use Rattle.odht_base.specs.Table.{fresh}
use Rattle.odht_header.specs.Refusals.{IsTooLarge}
use Rattle.odht_header.specs.declared.error.Error.TheVariants.{Capacity, Memory}
use Rattle.odht.specs.Equality.{IsSameMap}
use Rattle.odht.specs.Lists.{encoded_all, HasSizeOf, IsRefusedAt}
use Rattle.odht.specs.NewTables.{IsCapacityOrMemory}
use Rattle.odht.specs.Reserves.{reserved, LacksRoom}

abbrev pub HasMapWith : Table → Pair → Table → Type 0
HasMapWith P p Q = (q : List ℕ) → map_of Q q ≡ (if bytes_eq q p.key then Some p.value else map_of P q)

abbrev pub HasLastValuesIn : {K V : Type 0} → Coding K V → List (K × V) → Table → Type 0
HasLastValuesIn c items Q = (k : List ℕ) → map_of Q k ≡ last (encoded_all c items) k

abbrev pub HasValuesOver : Table → List Pair → Table → Type 0
HasValuesOver P ps Q = (k : List ℕ) → map_of Q k ≡ overwritten (map_of P) (last ps) k

abbrev pub KeepsSize : Table → ℕ → Table → Type 0
KeepsSize P n Q = count P + n ≤ max_items (slot_count P) P.factor → HasSizeOf P Q × (count Q ≤ count P + n)

pub record IsRunOf (F : Format) (P : Table) (ps : List Pair) (Q : Table) : Type 0 where
  pub runs : run (insert_owned F) P ps ≡ Some Q
  pub maps : HasValuesOver P ps Q
  pub stays : KeepsSize P (length ps) Q

pub record IsPlainList {K V : Type 0} (c : Coding K V) (P Q : Table) (items : List (K × V)) (r : ℕ × Result Unit Error) : Type 0 where
  pub bound : r.0 ≤ length items
  pub all : IsOk r.1 ↔ (r.0 ≡ length items)
  pub inserted : run (insert_owned c.format) P (encoded_all c (take r.0 items)) ≡ Some Q
  pub maps : HasValuesOver P (encoded_all c (take r.0 items)) Q
  pub stays : KeepsSize P r.0 Q
  pub last_values : (n p : ℕ) → fresh n p ≡ Some P → OnOk r.1 (HasLastValuesIn c items Q)
  pub at_maximum : OnErr r.1 (IsRefusedAt c Q items r.0)
  pub memory : OnErr r.1 (r.1 ≡ Err Memory)

pub record IsCollectedIn {K V : Type 0} (c : Coding K V) (percent : ℕ) (items : List (K × V)) (Q : Table) : Type 0 where
  pub start : Table
  pub new : fresh (length items) percent ≡ Some start
  pub inserted : run (insert_owned c.format) start (encoded_all c items) ≡ Some Q
  pub never_grown : HasSizeOf start Q
  pub few : count Q ≤ length items
  pub last_values : HasLastValuesIn c items Q

abbrev pub AreTooMany : {K V : Type 0} → Coding K V → ℕ → List (K × V) → Type 0
AreTooMany c percent items = IsTooLarge c.format (length items) (factor_of percent)

pub record IsPlainReserve {K V : Type 0} (c : Coding K V) (P : Table) (n : ℕ) (r : Result Unit Error) (Q : Table) : Type 0 where
  pub table : OnOk r (reserved c.format P n ≡ Some Q)
  pub same_map : OnOk r (IsSameMap P Q)
  pub room : OnOk r (count Q + n ≤ max_items (slot_count Q) Q.factor)
  pub capacity : (r ≡ Err Capacity) ↔ (LacksRoom P n × IsTooLarge c.format (count P + n) P.factor)
  pub lacking : OnErr r (LacksRoom P n)
  pub only : OnErr r (IsCapacityOrMemory r)
