-- What `delete` makes of a table P, and of keys, which the words ws of the command line are texts of.
--     are_keys f ws s ks   ks are the bytes of the keys of the shape s that the words ws are texts of, in the form f
--     is_fault f ws s g    the failure g tells of the first of the words ws that is a text of no key, or there was no memory
--     is_among ks k        k is one of the keys ks
--     AreNamed ks P        P has values for exactly the keys ks
--     without ks ps        the pairs of ps whose keys are not among ks
--     cleared P            the empty table of the slot count and the load factor of P
--     IsDeleted F ks P B'  B' are the bytes of the cleared P after the pairs of P whose keys are not among ks, in slot order,
--                          are inserted into it in turn. It has not grown. Each of ks has no value in it, and each other key
--                          that of P
--     have_values P ks     each of the keys ks has a value in P
--     absent_lines file P ws ks   the line of each of the words ws, of the keys ks, whose key has no value in P
--     IsLeft F ks P B' status   the same, and the status says whether each of ks had a value
use Rattle.std.specs.Prelude.{◌≡◌, ℕ, Bool, not, List, [], ◌∷◌, ◌++◌, filter, is_some, bytes_eq, None, if◌then◌else◌}
use Rattle.std.specs.List.{AllZip, list_all, list_any}
use Rattle.odht_base.specs.Format.{Format}
use Rattle.odht_base.specs.Insert.{insert_owned}
use Rattle.odht_base.specs.Map.{map_of}
use Rattle.odht_base.specs.Table.{Pair, Table, empty, slot_count, walk}
use Rattle.odht.specs.Lists.{HasSizeOf, IsAfterInserts}
use Rattle.odht_tool_tables.specs.KeyTexts.{found_status}
use Rattle.odht_tool_core.specs.AnyShapes.{any_key}
use Rattle.odht_tool_core.specs.Forms.{bytes_form}
use Rattle.odht_tool_core.specs.Keys.{TellsFault}
use Rattle.odht_tool_core.specs.Misreads.{absent_line}
use Rattle.odht_tool_core.specs.DynTexts.{IsDynamicOf, dynamic_wanted}
use Rattle.odht_tool_core.specs.declared.any.AnyShape.{AnyShape}
use Rattle.odht_tool_core.specs.declared.failure.Failure.{Failure}
use Rattle.odht_tool_core.specs.declared.forms.Form.{Form}
use Rattle.odht_tool_core.specs.declared.status.Status.{Status}

-- ---- the keys of the words
abbrev pub are_keys : Form → List (List ℕ) → AnyShape → List (List ℕ) → Type 0
are_keys f ws s ks = AllZip (IsDynamicOf (bytes_form f (any_key s))) ws ks

abbrev pub is_fault : Form → List (List ℕ) → AnyShape → Failure → Type 0
is_fault f ws s failure =
    let k = bytes_form f (any_key s) in
    TellsFault (IsDynamicOf k) (dynamic_wanted k) ws failure

-- ---- the new table
abbrev pub is_among : List (List ℕ) → List ℕ → Bool
is_among ks k = list_any (bytes_eq k) ks

abbrev pub AreNamed : List (List ℕ) → Table → Type 0
AreNamed ks P = (k : List ℕ) → is_some (map_of P k) ≡ is_among ks k

abbrev pub without : List (List ℕ) → List Pair → List Pair
without ks ps = filter (λ (p : Pair). not (is_among ks p.key)) ps

abbrev pub cleared : Table → Table
cleared P = empty (slot_count P) P.factor

pub record IsDeleted (F : Format) (ks : List (List ℕ)) (P : Table) (B : List ℕ) : Type 0 where
  pub inserted : IsAfterInserts F (insert_owned F) (cleared P) (without ks (walk P)) B
  pub never_grown : HasSizeOf P inserted.table
  pub maps : (k : List ℕ) → map_of inserted.table k ≡ (if is_among ks k then None else map_of P k)

-- ---- keys that are absent
abbrev pub has_value : Table → List ℕ → Bool
has_value P k = is_some (map_of P k)

abbrev pub have_values : Table → List (List ℕ) → Bool
have_values P ks = list_all (has_value P) ks

abbrev pub absent_lines : List ℕ → Table → List (List ℕ) → List (List ℕ) → List ℕ
absent_lines file P [] ks = []
absent_lines file P (w ∷ ws) [] = []
absent_lines file P (w ∷ ws) (k ∷ ks) = (if has_value P k then [] else absent_line file w) ++ absent_lines file P ws ks

abbrev pub IsLeft : Format → List (List ℕ) → Table → List ℕ → Status → Type 0
IsLeft F ks P B status = IsDeleted F ks P B × (status ≡ found_status (have_values P ks))
