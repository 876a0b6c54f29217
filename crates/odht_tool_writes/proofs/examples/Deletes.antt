-- Worked examples: what `delete` makes of a file, and why it fails.
use Rattle.std.proofs.Common.{◌≡◌, ℕ, refl, true, false, List, [], ◌∷◌, Some, None, arith}
use Rattle.std.specs.Prelude.{codes}
use Rattle.odht_base.specs.Bounds.{first_longer}
use Rattle.odht_base.specs.Format.{Format}
use Rattle.odht_base.specs.Image.{image}
use Rattle.odht_base.specs.Map.{map_of}
use Rattle.odht_base.specs.Table.{Table, empty, walk}
use Rattle.odht_base.proofs.lemmas.FreeSlots.{fresh-IsValid}
use Rattle.odht_header.specs.declared.error.Error.TheVariants.{TooShort, SearchTooLong}
use Rattle.odht_header.proofs.examples.Opened.{opened}
use Rattle.odht.proofs.lemmas.ListInserts.{inserted_none}
use Rattle.odht_tool_writes.specs.DeleteLines.{IsFailureBy}
use Rattle.odht_tool_writes.specs.Deletes.{IsDeleted, absent_lines, cleared, have_values, is_among, without}
use Rattle.odht_tool_writes.proofs.Deletions.{deleted_from}
use Rattle.odht_tool_tables.proofs.examples.Openings.{start, made}
use Rattle.odht_tool_core.specs.declared.arguments.Keys.{Keys}
use Rattle.odht_tool_core.specs.declared.failure.Failure.TheVariants.{Refused, OtherKey, Memory}
use Rattle.odht_tool_core.specs.declared.forms.Form.TheVariants.{Own}
use Rattle.odht_tool_core.specs.declared.forms.Kinds.{Kinds}
use Rattle.odht_tool_core.specs.declared.shapes.Part.TheVariants.{U32, U64}
use Rattle.odht_tool_core.proofs.examples.Shapes.{one_bytes}

-- a table of two pairs
abbrev pub two : Table
two = record {
  factor = 57015;
  cells = Some (record { key = 1 ∷ []; value = 9 ∷ [] }) ∷ None ∷ Some (record { key = 2 ∷ []; value = 8 ∷ [] }) ∷ None ∷ [];
}

abbrev pub one : List (List ℕ)
one = (1 ∷ []) ∷ []

-- one key is among one and another, and another is not
pub among : (is_among ((3 ∷ []) ∷ (1 ∷ []) ∷ []) (1 ∷ []) ≡ true) × (is_among one (2 ∷ []) ≡ false)
among = (refl, refl)

-- what is left, in slot order: all but the pair of the key, or all
pub left : (without one (walk two) ≡ record { key = 2 ∷ []; value = 8 ∷ [] } ∷ []) × (without ((3 ∷ []) ∷ []) (walk two) ≡ walk two)
left = (refl, refl)

-- the empty table keeps the slot count and the load factor
pub emptied : cleared two ≡ empty 4 57015
emptied = refl

-- keys that are there, and a key that is not, of which a line tells, with its word
pub there : (have_values two ((2 ∷ []) ∷ one) ≡ true) × (have_values two ((3 ∷ []) ∷ one) ≡ false)
there = (refl, refl)

pub told : absent_lines (codes "f") two (codes "01" ∷ codes "3" ∷ []) ((1 ∷ []) ∷ (3 ∷ []) ∷ []) ≡ codes "odht: f: the key \"3\" is absent\n"
told = refl

-- of a table of no pairs nothing is left but it
pub of_none : (F : Format) (ks : List (List ℕ)) → IsDeleted F ks start (image F start)
of_none F ks =
    let valid = fresh-IsValid 0 87 start made F (omega arith) (omega arith) in
    deleted_from F ks start (image F start) valid (inserted_none F _ start (image F start) (record { valid = valid; bytes = refl }))

-- a key has no value afterwards
pub gone : (F : Format) (P : Table) (B : List ℕ) (deleted : IsDeleted F one P B) → map_of deleted.inserted.table (1 ∷ []) ≡ None
gone F P B deleted = deleted.maps (1 ∷ [])

-- ---- failures
abbrev pub own : Kinds
own = record { key = None; value = None; hash = None }

-- no table, a bound, and a text of another type, whatever names the keys; but not a rule that no bytes break
pub failed : (named : Keys) → IsFailureBy (79 ∷ 68 ∷ []) None own None None (Refused (TooShort 2)) named
unfolding opened
failed named = refl

pub other_rule : (named : Keys) → IsFailureBy (79 ∷ 68 ∷ []) None own None None Memory named → ⊥
unfolding opened
other_rule named h = let both : Memory ≡ Refused (TooShort 2) = h in cc

pub bound : (named : Keys) → IsFailureBy one_bytes None own (Some 0) None (Refused (SearchTooLong 0 0)) named
unfolding opened first_longer
bound named = refl

pub other_text : (named : Keys) → IsFailureBy one_bytes None (record { key = Some (record { part = U64; form = Own }); value = None; hash = None }) None None (OtherKey U32) named
unfolding opened
other_text named = refl
