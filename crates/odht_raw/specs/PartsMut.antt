-- The parts of a table, borrowed to be written as a `RawTableMut`: two slices. The lengths of keys and values are types.
--     mut_control t        the control bytes with their mirror
--     mut_entries t        the bytes of the entries
--     control_loan t, entries_loan t  the borrows of both: what is written goes to their slices
--     table_format t       the format of these lengths and of the table's hash
--     IsMutPlacing t k v r t'  placing the key k and the value v through t returns r and leaves t': what placing a pair
--                          with a new key into parts does, and the borrows stay
--     mut_parts t          both slices; the slot count is the number of control bytes without the mirror
--     IsParts P t          the parts are those of the placed table P
--     pair_of t k v        the key k and the value v, in bytes
use Rattle.std.specs.Prelude.{◌≡◌, ℕ, ◌-◌, List, length, Result}
use Rattle.std.specs.Borrow.{GName}
use Rattle.std.specs.declared.cmp.PartialEq.{Ghosts as PartialEqOf}
use Rattle.std.specs.declared.fmt.Debug.{Ghosts as DebugOf}
use Rattle.odht_base.specs.declared.bytes.arrays.ByteArray.{Ghosts as ByteArrayOf}
use Rattle.odht_base.specs.declared.hash.HashFn.{Ghosts as HashFnOf}
use Rattle.odht_raw.specs.Words.{Error, Format, format_of, IsPartsOf, Pair, Table}
use Rattle.odht_raw.specs.Parts.{TableParts}
use Rattle.odht_raw.specs.PartsPlacings.{IsNewTo, IsNewPlacing, IsAddition}
use Rattle.odht_raw.specs.declared.raw_table.table_mut.RawTableMut.{RawTableMut}

module _ {K V H : Type 0} {key : ByteArrayOf K} {key_eq : PartialEqOf K} {key_debug : DebugOf K}
    {value : ByteArrayOf V} {value_eq : PartialEqOf V} {value_debug : DebugOf V}
    {hash : HashFnOf H} {hash_eq : PartialEqOf H} where
  abbrev pub mut_control : RawTableMut K V H key key_eq key_debug value value_eq value_debug hash hash_eq → List ℕ
  mut_control t = t.control.now

  abbrev pub mut_entries : RawTableMut K V H key key_eq key_debug value value_eq value_debug hash hash_eq → List ℕ
  mut_entries t = t.entries.now

  abbrev pub mut_parts : RawTableMut K V H key key_eq key_debug value value_eq value_debug hash hash_eq → TableParts
  mut_parts t = record { control = mut_control t; entries = record { slots = length (mut_control t) - 16; bytes = mut_entries t } }

  abbrev pub control_loan : RawTableMut K V H key key_eq key_debug value value_eq value_debug hash hash_eq → GName
  control_loan t = t.control.ghost_name

  abbrev pub entries_loan : RawTableMut K V H key key_eq key_debug value value_eq value_debug hash hash_eq → GName
  entries_loan t = t.entries.ghost_name

  abbrev pub table_format : RawTableMut K V H key key_eq key_debug value value_eq value_debug hash hash_eq → Format
  table_format t = format_of key.LEN value.LEN hash.hash

  abbrev pub IsParts : Table → RawTableMut K V H key key_eq key_debug value value_eq value_debug hash hash_eq → Type 0
  IsParts P t = IsPartsOf (table_format t) P (mut_entries t) (mut_control t)

  abbrev pub pair_of : RawTableMut K V H key key_eq key_debug value value_eq value_debug hash hash_eq → K → V → Pair
  pair_of t k v = record { key = key.bytes k; value = value.bytes v }

  pub record IsMutPlacing
      (t : RawTableMut K V H key key_eq key_debug value value_eq value_debug hash hash_eq)
      (k : K) (v : V) (r : Result (Unit {0}) Error)
      (t' : RawTableMut K V H key key_eq key_debug value value_eq value_debug hash hash_eq) : Type 0 where
    pub parts : (P : Table) → IsParts P t → IsNewTo P (pair_of t k v) → IsNewPlacing (table_format t) P (pair_of t k v) r (mut_entries t') (mut_control t')
    pub change : IsAddition (table_format t) (mut_entries t) (mut_control t) (pair_of t k v) r (mut_entries t') (mut_control t')
    pub control_loan : control_loan t' ≡ control_loan t
    pub entries_loan : entries_loan t' ≡ entries_loan t
