-- Worked examples: inserts at the maximum.
use Rattle.std.proofs.Common.{◌≡◌, ℕ, refl, sym, List, [], ◌∷◌, Option, Some, None, option_map, option_and_then, map}
use Rattle.std.specs.Prelude.{IfSome}
use Rattle.std.specs.List.{range_with_len}
use Rattle.std.proofs.lemmas.Bool.{false≢true}
use Rattle.std.proofs.lemmas.Option.{none-some}
use Rattle.odht_base.specs.CountRule.{insert_owned_by_count, insert_view_by_count, OverwritesFull, NoneOverwritesFull}
use Rattle.odht_base.specs.Insert.{insert_owned, insert_view}
use Rattle.odht_base.specs.Load.{max_items}
use Rattle.odht_base.specs.Map.{map_of, KeysApart}
use Rattle.odht_base.specs.Numbers.{le_bytes}
use Rattle.odht_base.specs.Search.{search_end}
use Rattle.odht_base.specs.Table.{Table, Pair, count, slot_count}
use Rattle.odht_base.proofs.examples.Configs.{test_config, direct_config, pair32, view_of, owned_of, squares}
use Rattle.odht_base.proofs.examples.Opened.{opened}

-- slot count, item count and maximum of a table
abbrev sizes : Option Table → Option (List ℕ)
sizes = option_map (λ P. slot_count P ∷ count P ∷ max_items (slot_count P) P.factor ∷ [])

-- from a maximum of 0: one insert at 6 percent leaves 32 slots with maximum 1, at 1 percent 128; a second one at 6
-- percent leaves 64, but of the same key it overwrites
pub from_nothing : (sizes (owned_of test_config 0 6 []) ≡ Some (16 ∷ 0 ∷ 0 ∷ []))
    × (sizes (owned_of test_config 0 6 (pair32 1 2 ∷ [])) ≡ Some (32 ∷ 1 ∷ 1 ∷ []))
    × (sizes (owned_of test_config 0 1 (pair32 1 2 ∷ [])) ≡ Some (128 ∷ 1 ∷ 1 ∷ []))
    × (sizes (owned_of test_config 0 6 (pair32 1 2 ∷ pair32 2 3 ∷ [])) ≡ Some (64 ∷ 2 ∷ 3 ∷ []))
    × (sizes (owned_of test_config 0 6 (pair32 1 2 ∷ pair32 1 3 ∷ [])) ≡ Some (32 ∷ 1 ∷ 1 ∷ []))
unfolding opened
from_nothing = (refl, refl, refl, refl, refl)

-- thirteen keys in sixteen slots, and one more insert into the owned table: a new key or one that is there
abbrev full_owned : Pair → Option Table
full_owned p = option_and_then (λ P. insert_owned direct_config P p) (owned_of direct_config 13 87 (squares 13))

pub owned_grows : (sizes (owned_of direct_config 13 87 (squares 13)) ≡ Some (16 ∷ 13 ∷ 13 ∷ []))
    × (sizes (full_owned (pair32 13 7)) ≡ Some (32 ∷ 14 ∷ 27 ∷ []))
    × (sizes (full_owned (pair32 3 7)) ≡ Some (16 ∷ 13 ∷ 13 ∷ []))
    × (option_map (λ P. map_of P (le_bytes 4 3)) (full_owned (pair32 3 7)) ≡ Some (Some (le_bytes 4 7)))
unfolding opened
owned_grows = (refl, refl, refl, refl)

-- and into a view, which answers None for the new key alone
abbrev full_view : Pair → Option Table
full_view p = option_and_then (λ P. insert_view direct_config P p) (view_of direct_config 13 87 (squares 13))

pub view_refuses : (sizes (view_of direct_config 13 87 (squares 13)) ≡ Some (16 ∷ 13 ∷ 13 ∷ []))
    × (full_view (pair32 13 7) ≡ None)
    × (sizes (full_view (pair32 3 7)) ≡ Some (16 ∷ 13 ∷ 13 ∷ []))
    × (option_map (λ P. map_of P (le_bytes 4 3)) (full_view (pair32 3 7)) ≡ Some (Some (le_bytes 4 7)))
unfolding opened
view_refuses = (refl, refl, refl, refl)

-- ---- the rule that asks the count alone
-- at the maximum it grows, or answers None, whatever the key
pub by_count : (sizes (option_and_then (λ P. insert_owned_by_count direct_config P (pair32 3 7)) (owned_of direct_config 13 87 (squares 13))) ≡ Some (32 ∷ 13 ∷ 27 ∷ []))
    × (option_and_then (λ P. insert_view_by_count direct_config P (pair32 3 7)) (view_of direct_config 13 87 (squares 13)) ≡ None)
unfolding opened
by_count = (refl, refl)

-- below it, it overwrites as the other does
pub by_count_below : (sizes (option_and_then (λ P. insert_owned_by_count direct_config P (pair32 3 7)) (owned_of direct_config 13 87 (squares 12))) ≡ Some (16 ∷ 12 ∷ 13 ∷ []))
    × (sizes (option_and_then (λ P. insert_view_by_count direct_config P (pair32 3 7)) (view_of direct_config 13 87 (squares 12))) ≡ Some (16 ∷ 12 ∷ 13 ∷ []))
unfolding opened
by_count_below = (refl, refl)

-- a pair overwrites in a full table where its key is there, and not below the maximum
pub overwrites_full : IfSome (owned_of direct_config 13 87 (squares 13)) (λ P. OverwritesFull P (pair32 3 7))
unfolding opened
overwrites_full = (refl, refl)

pub new_key_refused : IfSome (owned_of direct_config 13 87 (squares 13)) (λ P. OverwritesFull P (pair32 13 7) → ⊥)
unfolding opened
new_key_refused h = false≢true h.1

pub below_refused : IfSome (owned_of direct_config 13 87 (squares 12)) (λ P. OverwritesFull P (pair32 3 7) → ⊥)
unfolding opened
below_refused h = false≢true h.0

-- of a new key and then the same again, none overwrites in a full table: the first has grown it
pub none_overwrites : IfSome (owned_of direct_config 13 87 (squares 13)) (λ P. NoneOverwritesFull (insert_owned direct_config) P (pair32 13 7 ∷ pair32 13 8 ∷ []))
unfolding opened
none_overwrites = (λ h. false≢true h.1, (λ h. false≢true h.0, tt))

pub one_overwrites : IfSome (owned_of direct_config 13 87 (squares 13)) (λ P. NoneOverwritesFull (insert_owned direct_config) P (pair32 3 7 ∷ []) → ⊥)
unfolding opened
one_overwrites h = h.0 (refl, refl)

-- keys are apart where none occurs twice
pub keys_apart : KeysApart (pair32 1 2 ∷ pair32 2 3 ∷ []) × (KeysApart (pair32 1 2 ∷ pair32 1 3 ∷ []) → ⊥)
unfolding opened
keys_apart = ((refl, (refl, tt)), λ h. none-some (le_bytes 4 3) (sym h.0))

-- fifteen items into the owned table for thirteen
pub fifteen_items : sizes (owned_of direct_config 13 87 (squares 15)) ≡ Some (32 ∷ 15 ∷ 27 ∷ [])
unfolding opened
fifteen_items = refl

-- 47 and 15 have home 15 in 16 slots and in 32: inserted first, 47 is in slot 15 and 15 in slot 0
abbrev crossed : Option Table
crossed = owned_of direct_config 13 87 (pair32 47 1 ∷ pair32 15 2 ∷ map (λ i. pair32 i i) (range_with_len 1 11))

-- the slots of the two
abbrev ends : Option Table → Option (List (Option ℕ))
ends = option_map (λ P. map (λ k. search_end direct_config P.cells (le_bytes 4 k)) (47 ∷ 15 ∷ []))

-- a growth places the old pairs in slot order, so then 15 is the first at its home
pub slot_order : (ends crossed ≡ Some (Some 15 ∷ Some 0 ∷ []))
    × (ends (option_and_then (λ P. insert_owned direct_config P (pair32 12 12)) crossed) ≡ Some (Some 16 ∷ Some 15 ∷ []))
unfolding opened
slot_order = (refl, refl)

-- the last pair of a key wins
pub last_pair : (sizes (owned_of test_config 3 87 (pair32 1 10 ∷ pair32 2 20 ∷ pair32 1 30 ∷ [])) ≡ Some (16 ∷ 2 ∷ 13 ∷ []))
    × (option_map (λ P. map_of P (le_bytes 4 1)) (owned_of test_config 3 87 (pair32 1 10 ∷ pair32 2 20 ∷ pair32 1 30 ∷ [])) ≡ Some (Some (le_bytes 4 30)))
unfolding opened
last_pair = (refl, refl)

-- sixteen distinct items at 100 percent fit without growth
pub sixteen_items : sizes (owned_of direct_config 16 100 (squares 16)) ≡ Some (32 ∷ 16 ∷ 31 ∷ [])
unfolding opened
sixteen_items = refl

-- a hundred items into a table for ten
pub a_hundred_items : option_map count (owned_of direct_config 10 87 (squares 100)) ≡ Some 100
unfolding opened
a_hundred_items = refl
