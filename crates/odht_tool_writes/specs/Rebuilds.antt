-- What `rebuild` makes of the bytes B of a file.
--     new_hash B s h       the hash function of the new table, where the file is of the shape s: the one that h names, for
--                          which the keys have to be long enough; else that of s
--     rebuild_refusal B h o  the failure before a new table is made, where h is named and o is the bound of searches: that of
--                          the shape, of the hash function, or the first rule that the bytes break
--     rehashed F h         the format F with the hash function h
--     IsRebuilt F p P B'   B' are the bytes of the fresh table of F for as many items as P has at p percent, after the pairs
--                          of P, in slot order, are inserted into it in turn. It has not grown, and it has the map of P
--     IsRebuiltOf B h o p B'   B' are so made of the table of the bytes B, in which no rule is broken
--     IsNewFailure ml F n p f  the failure f of a new table of F for n items at p percent: a key length below ml, no slot
--                          count for that many, or no memory
--     IsRebuildFailure B h o p f   f is the failure before a new table is made; where there is none, one of the new table
use Rattle.std.specs.Prelude.{◌≡◌, ⊤, ℕ, ◌<◌, List, Option, Some, None, Result, Ok, Err}
use Rattle.std.specs.Result.{result_map_both}
use Rattle.odht_base.specs.Decoded.{header_count}
use Rattle.odht_base.specs.Format.{Format, format_of}
use Rattle.odht_base.specs.Insert.{insert_owned}
use Rattle.odht_base.specs.Load.{factor_of}
use Rattle.odht_base.specs.Map.{map_of}
use Rattle.odht_base.specs.Table.{Table, count, fresh, walk}
use Rattle.odht_base.specs.Valid.{IsImage}
use Rattle.odht_header.specs.Refusals.{IsTooLarge, check_refusal_by}
use Rattle.odht_header.specs.declared.error.Error.{Error}
use Rattle.odht_header.specs.declared.error.Error.TheVariants.{Capacity}
use Rattle.odht.specs.Lists.{HasSizeOf, IsAfterInserts}
use Rattle.odht_tool_core.specs.AnyShapes.{any_format, any_hash, found_any, named_any}
use Rattle.odht_tool_core.specs.InfoNumbers.{least_key_len}
use Rattle.odht_tool_core.specs.ReadyShapes.{hash_of}
use Rattle.odht_tool_core.specs.declared.any.AnyShape.{AnyShape}
use Rattle.odht_tool_core.specs.declared.failure.Failure.{Failure}
use Rattle.odht_tool_core.specs.declared.failure.Failure.TheVariants.{Refused, ShortKeys, Memory}
use Rattle.odht_tool_core.specs.declared.shapes.Hash.{Hash}

-- ---- which table it is to be
abbrev pub new_hash : List ℕ → AnyShape → Option Hash → Result Hash Failure
new_hash B s None = Ok (any_hash s)
new_hash B s (Some h) = result_map_both any_hash (λ failure. failure) (named_any B (Some h))

abbrev pub rehashed : Format → Hash → Format
rehashed F h = format_of F.key_len F.value_len (hash_of h)

abbrev pub refused_by : Option Error → Option Failure
refused_by None = None
refused_by (Some error) = Some (Refused error)

abbrev pub refusal_of_hash : Result Hash Failure → Option Failure → Option Failure
refusal_of_hash (Ok h) later = later
refusal_of_hash (Err failure) later = Some failure

abbrev pub refusal_of_shape : List ℕ → Option Hash → Option ℕ → Result AnyShape Failure → Option Failure
refusal_of_shape B h o (Ok s) = refusal_of_hash (new_hash B s h) (refused_by (check_refusal_by (any_format s) o B))
refusal_of_shape B h o (Err failure) = Some failure

abbrev pub rebuild_refusal : List ℕ → Option Hash → Option ℕ → Option Failure
rebuild_refusal B h o = refusal_of_shape B h o (found_any B None)

-- ---- the new table
pub record IsRebuilt (F : Format) (percent : ℕ) (P : Table) (B : List ℕ) : Type 0 where
  pub start : Table
  pub new : fresh (count P) percent ≡ Some start
  pub inserted : IsAfterInserts F (insert_owned F) start (walk P) B
  pub never_grown : HasSizeOf start inserted.table
  pub same_map : (k : List ℕ) → map_of inserted.table k ≡ map_of P k

pub record IsRebuiltOf (B : List ℕ) (h : Option Hash) (o : Option ℕ) (percent : ℕ) (B' : List ℕ) : Type 0 where
  pub shape : AnyShape
  pub found : found_any B None ≡ Ok shape
  pub hash : Hash
  pub named : new_hash B shape h ≡ Ok hash
  pub checked : check_refusal_by (any_format shape) o B ≡ None
  pub table : Table
  pub image : IsImage (any_format shape) table B
  pub rebuilt : IsRebuilt (rehashed (any_format shape) hash) percent table B'

-- ---- failures
abbrev pub IsNewFailure : ℕ → Format → ℕ → ℕ → Failure → Type 0
IsNewFailure ml F n percent (ShortKeys k) = (F.key_len < ml) × (k ≡ F.key_len)
IsNewFailure ml F n percent (Refused error) = (error ≡ Capacity) × IsTooLarge F n (factor_of percent)
IsNewFailure ml F n percent Memory = ⊤
IsNewFailure ml F n percent _ = ⊥

abbrev pub IsLateFailure : List ℕ → Option Hash → ℕ → Failure → Type 0
IsLateFailure B h percent f =
    (s : AnyShape) × (t : Hash) × (found_any B None ≡ Ok s) × (new_hash B s h ≡ Ok t)
    × IsNewFailure (least_key_len t) (rehashed (any_format s) t) (header_count B) percent f

abbrev pub is_failure : Option Failure → (Failure → Type 0) → Failure → Type 0
is_failure (Some g) late f = f ≡ g
is_failure None late f = late f

abbrev pub IsRebuildFailure : List ℕ → Option Hash → Option ℕ → ℕ → Failure → Type 0
IsRebuildFailure B h o percent f = is_failure (rebuild_refusal B h o) (IsLateFailure B h percent) f
