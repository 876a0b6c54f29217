-- Items, keys and values, that are inserted in turn.
--     encoded_all c items  the items, encoded to pairs
--     IsFramedRun c B items B'  inserts of the items in turn, all of them Ok, may turn the accepted bytes B into B'
--     count_after n a      the item count n after an insert with the answer a
--     IsPartsRun c es ctrl items n es' ctrl'  inserts of the items in turn into the parts es and ctrl, all of which are
--                          Ok and of which n add an entry, may leave es' and ctrl'
--     ArePartsOfRun F P ps n es' ctrl'  these are the parts of the placed table P after the pairs ps are placed in
--                          turn, n of which have new keys
--     IsRunTo c m es ctrl items from i n es' ctrl'  the items from index `from` up to i are inserted in turn, with room
--                          for m new entries, of which n are used
--     IsRefusedIn c m items i es ctrl  an insert of item i with room for m may answer Full on these parts
--     CanRun m kl vl kl' vl' t items i  t are the entries and the control bytes of some slot count, and i is an index of
--                          the items, or behind the last; kl' and vl' are the lengths kl and vl, and fit m
--     HasLengthsAt kl vl items i  key and value of item i have these lengths, in bytes
--     IsRun fits c m t items from r t'  the items from index `from` on are inserted in turn into the entries and the control
--                          bytes t, with room for m new entries, and leave t': up to item r.0, which is behind the last,
--                          does not fit, or may be answered with Full; r.1 entries are added
--     IsRunUpTo to fits c m t items from r t'  the same up to item `to`
--     IsAllPlaced F P ps B  B is the bytes of the table P after the pairs ps, which are of F, are placed in turn
--     IsOnePlaced c P k v o B  B is the bytes of the table P after the pair of k and v is placed, and o is the value
--                          that k had in P
--     IsStoppedAt c items i B  on the bytes B an insert of item i may answer `Full`
--     IsListRun c B items from i B'  inserts of the items from index `from` on in turn turn the accepted bytes B into
--                          B', up to item i, which is behind the last or may be answered with Full; the image of a
--                          table is turned into that of the table with the pairs placed
--     IsEncodedRun fits c B items from i B'  the same of items that may have other lengths than those of the table: the
--                          inserted ones have these lengths (`fit`), and item i may also be one that does not fit. B' is
--                          accepted, and as long as B
use Rattle.std.specs.Prelude.{◌≡◌, ℕ, ◌+◌, ◌-◌, ◌≤◌, ◌⊎◌, List, [], ◌∷◌, ◌++◌, length, map, All, Option, Some, None, Result, Ok, Err, slice_get}
use Rattle.std.specs.List.{slice_range}
use Rattle.odht_raw.specs.Words.{Coding, count, encoded, Error, Format, Full, IsImage, IsPairOf, IsPartsOf, Pair, place_all, Table, value_for}
use Rattle.odht_raw.specs.DynParts.{HasLengthsOf}
use Rattle.odht_raw.specs.Frame.{IsAccepted, IsFramed, PartsFrame}
use Rattle.odht_raw.specs.PartLengths.{ArePartLengths}
use Rattle.odht_raw.specs.Steps.{StepFrame}
use Rattle.odht_raw.specs.Stored.{AreLengths}

abbrev pub encoded_all : {K V : Type 0} → Coding K V → List (K × V) → List Pair
encoded_all c items = map (λ item. encoded c item.0 item.1) items

pub data IsFramedRun {K V : Type 0} (c : Coding K V) (B : List ℕ) : List (K × V) → List ℕ → Type 0 where
  start : IsFramedRun c B [] B
  accepted : (items : List (K × V)) (k : K) (v : V) (o : Option V) (C D : List ℕ)
      → IsFramedRun c B items C → IsFramed c C k v (Ok o) D → IsFramedRun c B (items ++ (k, v) ∷ []) D

abbrev pub count_after : ℕ → Result (Option (List ℕ)) Error → ℕ
count_after n (Ok None) = n + 1
count_after n _ = n

pub data IsPartsRun {K V : Type 0} (c : Coding K V) (es ctrl : List ℕ) : List (K × V) → ℕ → List ℕ → List ℕ → Type 0 where
  start : IsPartsRun c es ctrl [] 0 es ctrl
  accepted : (items : List (K × V)) (k : K) (v : V) (n : ℕ) (o : Option (List ℕ)) (es' ctrl' es'' ctrl'' : List ℕ)
      → IsPartsRun c es ctrl items n es' ctrl' → IsPairOf c.format (encoded c k v)
      → PartsFrame c.format es' ctrl' (encoded c k v) (Ok o) es'' ctrl''
      → IsPartsRun c es ctrl (items ++ (k, v) ∷ []) (count_after n (Ok o)) es'' ctrl''

pub record ArePartsOfRun (F : Format) (P : Table) (ps : List Pair) (n : ℕ) (es' ctrl' : List ℕ) : Type 0 where
  pub table : Table
  pub placed : place_all F P ps ≡ Some table
  pub parts : IsPartsOf F table es' ctrl'
  pub counted : count table ≡ count P + n

pub record IsRunTo {K V : Type 0} (c : Coding K V) (m : ℕ) (es ctrl : List ℕ) (items : List (K × V)) (from i n : ℕ) (es' ctrl' : List ℕ) : Type 0 where
  pub few : from + n ≤ i
  pub room : n ≤ m
  pub run : IsPartsRun c es ctrl (slice_range items from i) n es' ctrl'
  pub placed : (P : Table) → IsPartsOf c.format P es ctrl → ArePartsOfRun c.format P (encoded_all c (slice_range items from i)) n es' ctrl'

pub record IsRefusedIn {K V : Type 0} (c : Coding K V) (m : ℕ) (items : List (K × V)) (i : ℕ) (es ctrl : List ℕ) : Type 0 where
  pub item : K × V
  pub at : slice_get items i ≡ Some item
  pub frame : StepFrame c.format m es ctrl (encoded c item.0 item.1) (Err Full) es ctrl

pub record CanRun {K V : Type 0} (m kl vl kl' vl' : ℕ) (t : List ℕ × List ℕ) (items : List (K × V)) (i : ℕ) : Type 0 where
  pub parts : ArePartLengths m kl vl (length t.0) (length t.1)
  pub lengths : AreLengths kl vl kl' vl'
  pub within : i ≤ length items

abbrev pub HasLengthsAt : ℕ → ℕ → List (List ℕ × List ℕ) → ℕ → Type 0
HasLengthsAt kl vl items i = (item : List ℕ × List ℕ) → slice_get items i ≡ Some item → HasLengthsOf kl vl (record { key = item.0; value = item.1 })

pub record IsRunUpTo {K V : Type 0} (to : ℕ) (fits : ℕ → Type 0) (c : Coding K V) (m : ℕ) (t : List ℕ × List ℕ) (items : List (K × V)) (from : ℕ) (r : ℕ × ℕ) (t' : List ℕ × List ℕ) : Type 0 where
  pub within : r.0 ≤ to
  pub inserted : IsRunTo c m t.0 t.1 items from r.0 r.1 t'.0 t'.1
  pub stop : (r.0 ≡ to) ⊎ ((fits r.0 → ⊥) ⊎ IsRefusedIn c (m - r.1) items r.0 t'.0 t'.1)

abbrev pub IsRun : {K V : Type 0} → (ℕ → Type 0) → Coding K V → ℕ → List ℕ × List ℕ → List (K × V) → ℕ → ℕ × ℕ → List ℕ × List ℕ → Type 0
IsRun fits c m t items from r t' = IsRunUpTo (length items) fits c m t items from r t'

pub record IsAllPlaced (F : Format) (P : Table) (ps : List Pair) (B : List ℕ) : Type 0 where
  pub fits : All (IsPairOf F) ps
  pub table : Table
  pub placed : place_all F P ps ≡ Some table
  pub image : IsImage F table B

abbrev pub IsOnePlaced : {K V : Type 0} → Coding K V → Table → K → V → Option V → List ℕ → Type 0
IsOnePlaced c P k v o B = (o ≡ value_for c P k) × IsAllPlaced c.format P (encoded c k v ∷ []) B

pub record IsStoppedAt {K V : Type 0} (c : Coding K V) (items : List (K × V)) (i : ℕ) (B : List ℕ) : Type 0 where
  pub item : K × V
  pub at : slice_get items i ≡ Some item
  pub framed : IsFramed c B item.0 item.1 (Err Full) B

pub record IsListRun {K V : Type 0} (c : Coding K V) (B : List ℕ) (items : List (K × V)) (from i : ℕ) (B' : List ℕ) : Type 0 where
  pub after : from ≤ i
  pub within : i ≤ length items
  pub placed : (P : Table) → IsImage c.format P B → IsAllPlaced c.format P (encoded_all c (slice_range items from i)) B'
  pub framed : IsFramedRun c B (slice_range items from i) B'
  pub stopped : (i ≡ length items) ⊎ IsStoppedAt c items i B'

pub record IsEncodedRun {K V : Type 0} (fits : ℕ → Type 0) (c : Coding K V) (B : List ℕ) (items : List (K × V)) (from i : ℕ) (B' : List ℕ) : Type 0 where
  pub after : from ≤ i
  pub within : i ≤ length items
  pub fit : All (IsPairOf c.format) (encoded_all c (slice_range items from i))
  pub placed : (P : Table) → IsImage c.format P B → IsAllPlaced c.format P (encoded_all c (slice_range items from i)) B'
  pub framed : IsFramedRun c B (slice_range items from i) B'
  pub accepted : IsAccepted c.format B'
  pub len : length B' ≡ length B
  pub stopped : (i ≡ length items) ⊎ ((fits i → ⊥) ⊎ IsStoppedAt c items i B')
