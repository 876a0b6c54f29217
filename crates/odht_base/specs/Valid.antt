-- Which plain tables, and which bytes, are valid.
--     IsPairOf F p         key and value of p are bytes of the lengths of F
--     HasPairsOf F cs      the same of each pair of the cells
--     HoldsPair P i p      slot i holds the pair p
--     IsReached F P k i    slot i is in the probe order of k, and each earlier slot of the order is occupied
--     IsPlaced F P         the slot count is a power of two from 16 to 2 ^ 63, each pair is one of F and is in a slot
--                          that is reached for its key, and no key is in two slots
--     IsFullWithout P k    each slot of P is occupied, and none with the key k
--     IsValid F P          P is placed, its load factor is from 655 to 65535, and it holds at most max_items pairs
--     IsImage F P B        B is the image of P, which is valid
--     IsValidBytes F B     B is the image of some valid table
--     IsPartsOf F P es ctrl  es and ctrl are the entries and the control bytes of P, which is placed
use Rattle.std.specs.Prelude.{◌≡◌, ℕ, ◌<◌, ◌≤◌, List, Some, IsFalse}
use Rattle.odht_base.specs.Format.{Format, home}
use Rattle.odht_base.specs.Image.{entries, controls, image}
use Rattle.odht_base.specs.Load.{max_items, IsSlotCount}
use Rattle.odht_base.specs.Numbers.{IsBytes}
use Rattle.odht_base.specs.Probe.{probe_slot}
use Rattle.odht_base.specs.Table.{cell_at, Pair, Cells, Table, slot_count, count, is_free, has_key}

pub record IsPairOf (F : Format) (p : Pair) : Type 0 where
  pub key : IsBytes F.key_len p.key
  pub value : IsBytes F.value_len p.value

abbrev pub HasPairsOf : Format → Cells → Type 0
HasPairsOf F cs = (i : ℕ) (p : Pair) → cell_at cs i ≡ Some p → IsPairOf F p

abbrev pub HoldsPair : Table → ℕ → Pair → Type 0
HoldsPair P i p = cell_at P.cells i ≡ Some p

pub record IsReached (F : Format) (P : Table) (k : List ℕ) (i : ℕ) : Type 0 where
  pub position : ℕ
  pub in_order : position < slot_count P
  pub slot_is : probe_slot (home F k (slot_count P)) (slot_count P) position ≡ i
  pub earlier_occupied : (q : ℕ) → q < position → IsFalse (is_free P.cells (probe_slot (home F k (slot_count P)) (slot_count P) q))

pub record IsPlaced (F : Format) (P : Table) : Type 0 where
  pub slots : IsSlotCount (slot_count P)
  pub pairs : HasPairsOf F P.cells
  pub distinct : (i j : ℕ) (p q : Pair) → HoldsPair P i p → HoldsPair P j q → p.key ≡ q.key → i ≡ j
  pub reached : (i : ℕ) (p : Pair) → HoldsPair P i p → IsReached F P p.key i

abbrev pub IsFullWithout : Table → List ℕ → Type 0
IsFullWithout P k = (i : ℕ) → i < slot_count P → IsFalse (is_free P.cells i) × IsFalse (has_key k (cell_at P.cells i))

pub record IsValid (F : Format) (P : Table) : Type 0 where
  pub placed : IsPlaced F P
  pub factor_low : 655 ≤ P.factor
  pub factor_high : P.factor ≤ 65535
  pub room : count P ≤ max_items (slot_count P) P.factor

pub record IsImage (F : Format) (P : Table) (B : List ℕ) : Type 0 where
  pub valid : IsValid F P
  pub bytes : B ≡ image F P

abbrev pub IsValidBytes : Format → List ℕ → Type 0
IsValidBytes F B = (P : Table) × IsImage F P B

pub record IsPartsOf (F : Format) (P : Table) (es ctrl : List ℕ) : Type 0 where
  pub placed : IsPlaced F P
  pub entries_are : es ≡ entries F P.cells
  pub controls_are : ctrl ≡ controls F P.cells
