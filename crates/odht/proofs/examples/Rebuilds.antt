-- Worked examples: items that make a table again, and items that do not.
use Rattle.std.proofs.Common.{◌≡◌, ◌∙◌, ℕ, refl, ap, arith, List, [], ◌∷◌, Option, Some, option_map}
use Rattle.std.specs.Prelude.{option_and_then}
use Rattle.std.proofs.lemmas.List.Sorted.{IsPermutation-refl}
use Rattle.std.proofs.lemmas.Option.{none-some}
use Rattle.odht_raw.specs.Words.{empty, le_bytes, map_of, place_all, slot_count, Table}
use Rattle.odht_base.proofs.examples.Configs.{my_config}
use Rattle.odht_base.proofs.lemmas.Options.{some_same}
use Rattle.odht_header.proofs.examples.Apart.{some_unequal_lists}
use Rattle.odht_header.proofs.examples.Opened.{opened}
use Rattle.odht.specs.Lists.{encoded_all}
use Rattle.odht.specs.Rebuilds.{IsNewSizeOf, AreInOrder, IsRebuilding}
use Rattle.odht.proofs.examples.SmallTables.{number_coding, one_pair, one_pair_image}

-- a new table for no item has sixteen slots
pub new_size : IsNewSizeOf (one_pair 2) 0 87
unfolding opened
new_size = refl

-- one for fourteen has more
pub larger_refused : IsNewSizeOf (one_pair 2) 14 87 → ⊥
unfolding opened
larger_refused h = omega (arith, some_same 32 16 (ap (option_map slot_count) h))

-- 1 to 2 is in slot 5
pub the_pair : AreInOrder number_coding (one_pair 2) ((1, 2) ∷ [])
unfolding opened
the_pair = record { order = 5 ∷ []; is_order = record { each_once = IsPermutation-refl (5 ∷ []); gives = refl }; pairs = refl }

-- so they make it again in a new table of its size, and not in a larger one
pub rebuilding : IsRebuilding number_coding ((1, 2) ∷ []) 0 87 (one_pair 2)
rebuilding = record { valid = one_pair_image.0.valid; in_order = the_pair; size = new_size }

pub not_rebuilding : IsRebuilding number_coding ((1, 2) ∷ []) 14 87 (one_pair 2) → ⊥
not_rebuilding h = larger_refused h.size

-- the items make the table
made_of : (P : Table) (items : List (ℕ × ℕ)) → AreInOrder number_coding P items
    → place_all my_config (empty (slot_count P) P.factor) (encoded_all number_coding items) ≡ Some P
made_of P items h = ap (place_all my_config (empty (slot_count P) P.factor)) h.pairs ∙ h.is_order.gives

-- the value of 1
abbrev value_of_one : Option Table → Option (List ℕ)
value_of_one o = option_and_then (λ P. map_of P (le_bytes 8 1)) o

-- another value does not, nor does no item
pub others_refused : (AreInOrder number_coding (one_pair 2) ((1, 3) ∷ []) → ⊥) × (AreInOrder number_coding (one_pair 2) [] → ⊥)
unfolding opened
others_refused = (
  λ h. some_unequal_lists (le_bytes 4 3) (le_bytes 4 2) refl (ap value_of_one (made_of (one_pair 2) ((1, 3) ∷ []) h)),
  λ h. none-some (le_bytes 4 2) (ap value_of_one (made_of (one_pair 2) [] h)),
)
