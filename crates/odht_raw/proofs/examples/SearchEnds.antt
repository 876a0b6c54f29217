-- Worked examples: where a search for the key 5 ends in sixteen slots, and what is no end of it.
use Rattle.std.proofs.lemmas.Bool.{cases_lt, false_from_ne_true}
use Rattle.std.proofs.Common.{◌≡◌, ◌<◌, ◌+◌, ◌%◌, ◌==◌, ◌||◌, ℕ, zero, suc, inl, inr, refl, sym, Bool, true, true≢false, List, [], ◌∷◌, replicate, set, slice_index, lit<, arith, eq-eqb}
use Rattle.std.specs.List.{range_with_len, list_all}
use Rattle.odht_raw.specs.Words.{counts_as_free, le_bytes, lists_differ, overwritten_at, slot_key, slot_value}
use Rattle.odht_base.proofs.examples.Configs.{direct_config}
use Rattle.odht_raw.specs.Parts.{EntryBytes}
use Rattle.odht_raw.specs.ControlBytes.{order_slot, Differs, GoesOn, GoesOnTo}
use Rattle.odht_raw.specs.SearchEnds.{IsEnd, IsAfter, IsPlainEnd, IsEndAmong, IsBesideKey}
use Rattle.odht_header.proofs.examples.Opened.{opened}
use Rattle.odht_raw.proofs.examples.Missing.{on_everywhere}
use Rattle.odht_raw.specs.declared.raw_table.search_result.Search.TheVariants.{Found, Free, Neither}
use Rattle.odht_header.proofs.examples.Apart.{unequal, unequal_lists, tested, untrue, neither}
use Rattle.odht_raw.proofs.examples.FrameRefusals.{occupied_controls, slot_five_free, mirror_five_free, counted_as_free, neighbour_not_free, no_free_slots, one_free_slot_refused, none_free, one_free_refused}

-- ---- in any parts
-- the entries of sixteen slots: 5 beside 7 in slot 3, and zeros elsewhere; and the same bytes as entries of three slots
abbrev pub five_in_three : ℕ → EntryBytes
five_in_three slots = record { slots = slots; bytes = overwritten_at (replicate 128 0) 24 (5 ∷ 0 ∷ 0 ∷ 0 ∷ 7 ∷ []) }

abbrev pub five : List ℕ
five = le_bytes 4 5

-- a key is found in its slot
pub found : IsEnd direct_config (five_in_three 16) occupied_controls five (Found 3)
found = (lit< tt, refl)

-- not in the slot of another
pub found_elsewhere_refused : IsEnd direct_config (five_in_three 16) occupied_controls five (Found 4) → ⊥
found_elsewhere_refused (low, same) = unequal_lists (slot_key direct_config (five_in_three 16).bytes 4) five refl same

-- nor behind the last slot
pub found_behind_refused : IsEnd direct_config (five_in_three 3) occupied_controls five (Found 3) → ⊥
found_behind_refused (low, same) = omega (arith, low)

-- a free slot is one that counts as free by its own byte or by its mirror
pub free : IsEnd direct_config (five_in_three 16) slot_five_free five (Free 5) × IsEnd direct_config (five_in_three 16) mirror_five_free five (Free 5)
free = ((lit< tt, counted_as_free.0), (lit< tt, counted_as_free.2))

-- not the slot beside it
pub occupied_refused : IsEnd direct_config (five_in_three 16) slot_five_free five (Free 6) → ⊥
occupied_refused (low, is) = neighbour_not_free is

-- nor one behind the last
pub free_behind_refused : IsEnd direct_config (five_in_three 5) slot_five_free five (Free 5) → ⊥
free_behind_refused (low, is) = omega (arith, low)

-- the search for another key ends nowhere where each slot counts as occupied
abbrev six : List ℕ
six = le_bytes 4 6

six_on : GoesOnTo direct_config (five_in_three 16) occupied_controls six 16
six_on = on_everywhere direct_config (five_in_three 16) occupied_controls six (lit< tt) refl refl

pub nowhere : IsEnd direct_config (five_in_three 16) occupied_controls six Neither
nowhere = (no_free_slots, six_on)

-- and only there
pub nowhere_refused : IsEnd direct_config (five_in_three 16) slot_five_free six Neither → ⊥
nowhere_refused h = one_free_slot_refused h.0

-- and not where the key is found on the way
goes_on_refused : GoesOn direct_config (five_in_three 16) occupied_controls five 3 → ⊥
unfolding opened
goes_on_refused (inl on) = on.1 refl refl
goes_on_refused (inr on) = on.1.1 refl refl

pub nowhere_past_key_refused : IsEnd direct_config (five_in_three 16) occupied_controls five Neither → ⊥
unfolding opened
nowhere_past_key_refused h = goes_on_refused (h.1 14 (lit< tt))

-- ---- before the end
-- 5 is in no slot before that
found_after : (q : ℕ) → q < 14 → Differs direct_config (five_in_three 16) occupied_controls five (order_slot direct_config (five_in_three 16) five q)
unfolding opened
found_after q l =
    inl (λ t e. unequal_lists (slot_key direct_config (five_in_three 16).bytes (order_slot direct_config (five_in_three 16) five q)) five
    (tested (λ j. lists_differ (slot_key direct_config (five_in_three 16).bytes (order_slot direct_config (five_in_three 16) five j)) five) 14 q refl l) e)

-- 5 is found at position 14, and for 6 the search goes on from each
pub after : IsAfter direct_config (five_in_three 16) occupied_controls five (Found 3)
    × IsAfter direct_config (five_in_three 16) occupied_controls six Neither
unfolding opened
after = ((14, lit< tt, refl, (λ q l. absurd (omega (arith, l))), found_after), six_on)

-- sixteen occupied slots, each with the key 0
abbrev zeros : EntryBytes
zeros = record { slots = 16; bytes = replicate 128 0 }

-- a key is not found behind a slot where it could have been found
found_after_found_refused : IsAfter direct_config zeros occupied_controls (le_bytes 4 0) (Found 1) → ⊥
unfolding opened
found_after_found_refused (zero, low, is, on, other) = unequal 0 1 refl is
found_after_found_refused (suc p, low, is, on, other) = elim (other 0 (omega arith)) [ inl d ↦ d refl refl | inr d ↦ d.1 refl refl ]

-- nor is it passed on the way to the last slot
nowhere_after_key_refused : IsAfter direct_config zeros occupied_controls (le_bytes 4 0) Neither → ⊥
unfolding opened
nowhere_after_key_refused on = elim (on 0 (lit< tt)) [ inl g ↦ g.1 refl refl | inr g ↦ g.1.1 refl refl ]

-- a free slot is not where a search ends that could have ended at one before
pub free_after_free_refused : IsAfter direct_config (five_in_three 16) (replicate 32 255) six (Free 7) → ⊥
unfolding opened
free_after_free_refused (zero, low, is, on) = unequal 6 7 refl is
free_after_free_refused (suc p, low, is, on) = elim (on 0 (omega arith)) [ inl g ↦ true≢false g.0 | inr g ↦ true≢false g.1.0 ]

-- ---- slot by slot
-- the end of a search slot by slot, which does not look at the mirror
pub plain : IsPlainEnd direct_config (five_in_three 16) occupied_controls five (Found 3)
    × IsPlainEnd direct_config (five_in_three 16) slot_five_free five (Free 5)
    × IsPlainEnd direct_config (five_in_three 16) occupied_controls six Neither
plain = (
  (lit< tt, refl),
  (lit< tt, refl),
  (
    none_free,
    λ i low e. unequal_lists (slot_key direct_config (five_in_three 16).bytes i) six
        (tested (λ j. lists_differ (slot_key direct_config (five_in_three 16).bytes j) six) 16 i refl low) e,
  ),
)

-- so no slot is free by its mirror alone
pub plain_mirror_refused : IsPlainEnd direct_config (five_in_three 16) mirror_five_free five (Free 5) → ⊥
plain_mirror_refused (low, is) = true≢false (sym is)

-- a key is not found in the slot of another, nor behind the last
pub plain_elsewhere_refused : (IsPlainEnd direct_config (five_in_three 16) occupied_controls five (Found 4) → ⊥)
    × (IsPlainEnd direct_config (five_in_three 3) occupied_controls five (Found 3) → ⊥)
plain_elsewhere_refused =
    (λ h. unequal_lists (slot_key direct_config (five_in_three 16).bytes 4) five refl h.1, λ h. omega (arith, h.0))

-- no free slot is behind the last
pub plain_behind_refused : IsPlainEnd direct_config (five_in_three 5) slot_five_free five (Free 5) → ⊥
plain_behind_refused (low, is) = omega (arith, low)

-- and where one is free the search does not end nowhere
pub plain_nowhere_refused : IsPlainEnd direct_config (five_in_three 16) slot_five_free five Neither → ⊥
plain_nowhere_refused h = one_free_refused h.0

-- nor where a slot has the key
pub plain_nowhere_past_key_refused : IsPlainEnd direct_config (five_in_three 16) occupied_controls five Neither → ⊥
plain_nowhere_past_key_refused h = h.1 3 (lit< tt) refl

-- ---- in one group, here the four slots 14, 15, 0 and 1
-- slot 1 is free by the fourth byte
pub free_in_group : IsEndAmong direct_config (five_in_three 16) (set (replicate 4 0) 3 255) 14 4 five (Free 1)
free_in_group = (
  3,
  lit< tt,
  refl,
  refl,
  λ j l. (
    false_from_ne_true _ (λ t. untrue (λ i. counts_as_free (slice_index (set (replicate 4 0) 3 255) i)) 3 j refl l t),
    λ t e. unequal_lists (slot_key direct_config (five_in_three 16).bytes ((14 + j) % 16)) five
        (tested (λ i. lists_differ (slot_key direct_config (five_in_three 16).bytes ((14 + i) % 16)) five) 3 j refl l) e,
  ),
)

-- not where that byte is beyond those that are looked at
pub free_beyond_refused : IsEndAmong direct_config (five_in_three 16) (set (replicate 4 0) 3 255) 14 3 five (Free 1) → ⊥
free_beyond_refused (j, low, is, counts, on) = untrue (λ i. counts_as_free (slice_index (set (replicate 4 0) 3 255) i)) 3 j refl low counts

-- nor where no byte is free
pub occupied_in_group_refused : IsEndAmong direct_config (five_in_three 16) (replicate 4 0) 14 4 five (Free 1) → ⊥
occupied_in_group_refused (j, low, is, counts, on) = untrue (λ i. counts_as_free (slice_index (replicate 4 0) i)) 4 j refl low counts

-- and no other slot is
pub other_in_group_refused : IsEndAmong direct_config (five_in_three 16) (replicate 4 255) 14 4 five (Free 2) → ⊥
other_in_group_refused (j, low, is, counts, on) = untrue (λ i. 2 == (14 + i) % 16) 4 j refl low (eq-eqb 2 ((14 + j) % 16) is)

-- nor one behind a slot where the key is found, here in the slots 2 to 5
pub free_past_key_refused : IsEndAmong direct_config (five_in_three 16) (set (replicate 4 0) 3 255) 2 4 five (Free 5) → ⊥
unfolding opened
free_past_key_refused (j, low, is, counts, on) = elim (cases_lt 1 j) [
  | inl later ↦ (on 1 later).1 refl refl
  | inr first ↦ untrue (λ i. counts_as_free (slice_index (set (replicate 4 0) 3 255) i)) 2 j refl (omega (arith, first)) counts
]

-- nor is a key found behind a slot where it could have been found
found_past_found_refused : IsEndAmong direct_config zeros (replicate 4 0) 2 4 (le_bytes 4 0) (Found 3) → ⊥
unfolding opened
found_past_found_refused (zero, low, is, same, other) = unequal 3 2 refl is
found_past_found_refused (suc j, low, is, same, other) = other 0 (omega arith) refl refl

-- a group reports a key that was found, here in the slots 2 to 5, and it does not report that there is none
pub found_in_group : IsEndAmong direct_config (five_in_three 16) (replicate 4 0) 2 4 five (Found 3)
    × (IsEndAmong direct_config (five_in_three 16) (replicate 4 0) 2 4 five (Found 4) → ⊥)
    × (IsEndAmong direct_config (five_in_three 16) (replicate 4 0) 2 4 five Neither → ⊥)
found_in_group = (
  (
    1,
    lit< tt,
    refl,
    refl,
    λ j l t e. unequal_lists (slot_key direct_config (five_in_three 16).bytes ((2 + j) % 16)) five
        (tested (λ i. lists_differ (slot_key direct_config (five_in_three 16).bytes ((2 + i) % 16)) five) 1 j refl l) e,
  ),
  λ h. unequal_lists (slot_key direct_config (five_in_three 16).bytes 4) five refl h.3,
  λ h. h,
)

-- ---- the value of a find
-- whether slot i does not hold the key k beside the value v
abbrev is_no_pair : EntryBytes → List ℕ → List ℕ → ℕ → Bool
is_no_pair E k v i = lists_differ (slot_key direct_config E.bytes i) k || lists_differ (slot_value direct_config E.bytes i) v

-- where no slot does, the value is beside no key
not_beside : (k v : List ℕ) → list_all (is_no_pair (five_in_three 16) k v) (range_with_len 0 16) ≡ true
    → IsBesideKey direct_config (λ b. b) (five_in_three 16) k v → ⊥
not_beside k v h (i, low, same, is) =
    neither (lists_differ (slot_key direct_config (five_in_three 16).bytes i) k) (lists_differ (slot_value direct_config (five_in_three 16).bytes i) v)
    (λ t. unequal_lists (slot_key direct_config (five_in_three 16).bytes i) k t same)
    (λ t. unequal_lists (slot_value direct_config (five_in_three 16).bytes i) v t (sym is))
    (tested (is_no_pair (five_in_three 16) k v) 16 i h low)

-- it is beside the key
pub beside : IsBesideKey direct_config (λ b. b) (five_in_three 16) five (le_bytes 4 7)
beside = (3, lit< tt, refl, refl)

-- not beside another, and no key that is in no slot has one
pub not_beside_refused : (IsBesideKey direct_config (λ b. b) (five_in_three 16) five (le_bytes 4 0) → ⊥)
    × (IsBesideKey direct_config (λ b. b) (five_in_three 16) (le_bytes 4 6) (le_bytes 4 0) → ⊥)
    × (IsBesideKey direct_config (λ b. b) (five_in_three 3) five (le_bytes 4 7) → ⊥)
not_beside_refused = (not_beside five (le_bytes 4 0) refl, not_beside (le_bytes 4 6) (le_bytes 4 0) refl, behind)
  where
    behind : IsBesideKey direct_config (λ b. b) (five_in_three 3) five (le_bytes 4 7) → ⊥
    behind (i, low, same, is) =
        unequal_lists (slot_key direct_config (five_in_three 3).bytes i) five
        (tested (λ j. lists_differ (slot_key direct_config (five_in_three 3).bytes j) five) 3 i refl low) same
