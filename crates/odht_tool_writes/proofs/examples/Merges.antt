-- Worked examples: which pairs `merge` inserts, and which keys are in two files.
use Rattle.std.proofs.Common.{◌≡◌, refl, List, [], ◌∷◌, Some, None}
use Rattle.odht_base.specs.Table.{Pair}
use Rattle.odht_tool_writes.specs.Merges.{kept, repeat_of, value_by}
use Rattle.odht_tool_core.specs.declared.arguments.duplicates.Duplicates.TheVariants.{Last, First, Error}

abbrev pub one : Pair
one = record { key = 1 ∷ []; value = 7 ∷ [] }

abbrev pub other : Pair
other = record { key = 1 ∷ []; value = 8 ∷ [] }

abbrev pub two : Pair
two = record { key = 2 ∷ []; value = 9 ∷ [] }

-- of a key that three files have the first pair alone is inserted, or each of them
pub inserted : (kept First (one ∷ other ∷ two ∷ one ∷ []) ≡ one ∷ two ∷ [])
    × (kept Last (one ∷ other ∷ two ∷ one ∷ []) ≡ one ∷ other ∷ two ∷ one ∷ [])
inserted = (refl, refl)

-- so it has the first value, or the last
pub values : (value_by First (one ∷ two ∷ other ∷ []) (1 ∷ []) ≡ Some (7 ∷ []))
    × (value_by Last (one ∷ two ∷ other ∷ []) (1 ∷ []) ≡ Some (8 ∷ []))
    × (value_by Error (one ∷ two ∷ []) (3 ∷ []) ≡ None)
values = (refl, refl, refl)

-- the first key of the third file that one before it has, where that is a failure
abbrev pub files : List (List Pair)
files = (one ∷ []) ∷ (two ∷ []) ∷ (record { key = 3 ∷ []; value = [] } ∷ two ∷ other ∷ []) ∷ (one ∷ []) ∷ []

pub repeats : (repeat_of Error files ≡ Some (2, 2 ∷ [])) × (repeat_of First files ≡ None) × (repeat_of Error ((one ∷ []) ∷ [] ∷ (two ∷ []) ∷ []) ≡ None)
repeats = (refl, refl, refl)
