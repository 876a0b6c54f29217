-- Pairs that are inserted into a table that grows. S says which plain table it is before, S' which one afterwards.
--     IsAfterRun F P ps S'  S' holds of the table after the pairs ps are inserted into P in turn; its map is that of P with
--                          the last values of ps over it; where all have room below the maximum of P, it has the slot
--                          count and the load factor of P, and at most as many pairs more as ps has
--     AreInserted c S ps S'  so the pairs ps are inserted
--     IsNewInsert c S k v new S'  where the table has no value for k, `new` is true, and S' holds of it after k is inserted
--                          with v; where it has one, `new` is false, and S' holds of the same table
--     IsLineTaken c S k v once S'  so, where `once` says whether a key may be there once at most, a line of k and v is taken:
--                          then k has no value before
--     IsLineRefused c S k v once d line n S' f  the failure f tells of line n, which is this, with the byte d between key and
--                          value, that its key has a value, and may be there once, and the table is the same; or there
--                          was no memory
--     copy_failure F o B   the first error of the check, by the bound o, of the bytes B of the format F; where there is none,
--                          out of memory
use Rattle.std.specs.Prelude.{◌≡◌, ⊤, ℕ, List, Bool, true, false, IsSome, Option, Some, None, length, string_bytes}
use Rattle.std.specs.Option.{option_map_or}
use Rattle.odht_base.specs.Format.{Format}
use Rattle.odht_base.specs.Insert.{insert_owned, run}
use Rattle.odht_base.specs.Map.{map_of}
use Rattle.odht_base.specs.Table.{Pair, Table}
use Rattle.odht_header.specs.Coding.{Coding, encoded}
use Rattle.odht_header.specs.Refusals.{check_refusal_by}
use Rattle.odht_tool_core.specs.PairLines.{repeated_text}
use Rattle.odht_tool_core.specs.declared.failure.Failure.{Failure}
use Rattle.odht_tool_core.specs.declared.failure.Failure.TheVariants.{Refused, Memory, Misread}
use Rattle.odht.specs.Lists.{encoded_all}
use Rattle.odht.specs.Plain.{HasMapWith, HasValuesOver, KeepsSize}

pub record IsAfterRun (F : Format) (P : Table) (ps : List Pair) (S' : Table → Type 0) : Type 0 where
  pub table : Table
  pub runs : run (insert_owned F) P ps ≡ Some table
  pub holds : S' table
  pub maps : HasValuesOver P ps table
  pub stays : KeepsSize P (length ps) table

abbrev pub AreInserted : {K V : Type 0} → Coding K V → (Table → Type 0) → List (K × V) → (Table → Type 0) → Type 0
AreInserted c S ps S' = (P : Table) → S P → IsAfterRun c.format P (encoded_all c ps) S'

abbrev pub IsNewInsertInto : {K V : Type 0} → Coding K V → K → V → Bool → (Table → Type 0) → Table → Type 0
IsNewInsertInto c k v true S' P =
    (map_of P (c.key_bytes k) ≡ None) × (Q : Table) × (insert_owned c.format P (encoded c k v) ≡ Some Q) × HasMapWith P (encoded c k v) Q × S' Q
IsNewInsertInto c k v false S' P = IsSome (map_of P (c.key_bytes k)) × S' P

abbrev pub IsNewInsert : {K V : Type 0} → Coding K V → (Table → Type 0) → K → V → Bool → (Table → Type 0) → Type 0
IsNewInsert c S k v new S' = (P : Table) → S P → IsNewInsertInto c k v new S' P

abbrev pub IsLineTaken : {K V : Type 0} → Coding K V → (Table → Type 0) → K → V → Bool → (Table → Type 0) → Type 0
IsLineTaken c S k v once S' = (new : Bool) × IsNewInsert c S k v new S' × (once ≡ true → new ≡ true)

abbrev pub IsLineRefused : {K V : Type 0} → Coding K V → (Table → Type 0) → K → V → Bool → ℕ → List ℕ → ℕ → (Table → Type 0) → Failure → Type 0
IsLineRefused c S k v once d line n S' (Misread message) = (once ≡ true) × IsNewInsert c S k v false S' × (string_bytes message ≡ repeated_text d n line)
IsLineRefused c S k v once d line n S' Memory = ⊤
IsLineRefused c S k v once d line n S' _ = ⊥

abbrev pub copy_failure : Format → Option ℕ → List ℕ → Failure
copy_failure F o B = option_map_or Refused (check_refusal_by F o B) Memory
