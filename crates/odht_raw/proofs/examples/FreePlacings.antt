-- Worked examples: the first free slot of sixteen, and a pair that is written there.
use Rattle.std.proofs.Common.{◌≡◌, ◌<◌, ◌*◌, ◌++◌, ◌||◌, ◌==◌, ◌%◌, ℕ, Bool, true, true≢false, not, refl, inl, inr, sym, set, slice_index, List, [], ◌∷◌, Result, Ok, Err, lit<, arith, eq-eqb}
use Rattle.std.specs.List.{range_with_len, list_all}
use Rattle.odht_raw.proofs.lemmas.Below.{cases_lt, probe_slot-lt}
use Rattle.odht_raw.specs.Words.{counts_as_free, Error, Full, lists_differ, overwritten_at, Pair, probe_slot, tag, tagged}
use Rattle.odht_base.proofs.examples.Configs.{direct_config, pair32}
use Rattle.odht_raw.specs.Frame.{CountsAsOccupied}
use Rattle.odht_raw.specs.FreeSlots.{IsFirstFree, IsFirstFreeByte}
use Rattle.odht_raw.specs.PartsPlacings.{PlacingFrame}
use Rattle.odht_header.proofs.lemmas.FirstErrors.{not-true}
use Rattle.odht_header.proofs.examples.Apart.{unequal_lists, tested, untrue, neither}
use Rattle.odht_raw.proofs.examples.FrameRefusals.{occupied_controls, no_entries, slot_five_free, counted_as_free, neighbour_not_free, free_slot_refused, no_free_slots}
use Rattle.odht_header.proofs.examples.Opened.{opened}

-- ---- the first free slot
-- slots 3 and 4 are occupied
occupied_before : (q : ℕ) → q < 2 → CountsAsOccupied slot_five_free (probe_slot 3 16 q)
occupied_before q l = inl (not-true _ (tested (λ p. not (counts_as_free (slice_index slot_five_free (probe_slot 3 16 p)))) 2 q refl l))

-- so from the home slot 3 on, slot 5 is the first that is free
pub first : IsFirstFree slot_five_free 3 16 5
first = record {
  position = 2;
  in_order = lit< tt;
  slot_is = refl;
  free = counted_as_free.0;
  earlier_occupied = occupied_before;
}

-- an occupied slot is not it
pub occupied_refused : IsFirstFree slot_five_free 3 16 6 → ⊥
occupied_refused h = neighbour_not_free h.free

-- nor is a free slot behind it, here slot 9
abbrev two_free : List ℕ
two_free = set (set slot_five_free 9 255) 25 255

pub second_refused : IsFirstFree two_free 3 16 9 → ⊥
second_refused h = elim (cases_lt h.position 3) [
  | inl early ↦ untrue (λ p. probe_slot 3 16 p == 9) 3 h.position refl early (eq-eqb (probe_slot 3 16 h.position) 9 h.slot_is)
  | inr late ↦ free_slot_refused two_free 5 refl refl (h.earlier_occupied 2 (omega (arith, late)))
]

-- nor a byte behind the last slot
pub behind_refused : IsFirstFree slot_five_free 3 16 21 → ⊥
behind_refused h = omega (arith, h.slot_is, probe_slot-lt (3 % 16) 16 h.position (lit< tt))

-- of no slots none is
pub no_slots_refused : (ctrl : List ℕ) (hash i : ℕ) → IsFirstFree ctrl hash 0 i → ⊥
no_slots_refused ctrl hash i h = omega (arith, h.in_order)

-- ---- the first free byte
-- of four bytes the second, and no other
pub first_byte : IsFirstFreeByte (0 ∷ 255 ∷ 0 ∷ 255 ∷ []) 1
first_byte = record {
  within = lit< tt;
  free = refl;
  earlier_occupied = λ i l. not-true _ (tested (λ j. not (counts_as_free (slice_index (0 ∷ 255 ∷ 0 ∷ 255 ∷ []) j))) 1 i refl l);
}

pub other_bytes_refused : (IsFirstFreeByte (0 ∷ 255 ∷ 0 ∷ 255 ∷ []) 0 → ⊥)
    × (IsFirstFreeByte (0 ∷ 255 ∷ 0 ∷ 255 ∷ []) 3 → ⊥)
    × (IsFirstFreeByte (0 ∷ 255 ∷ 0 ∷ 255 ∷ []) 4 → ⊥)
other_bytes_refused = (λ h. true≢false (sym h.free), λ h. true≢false (h.earlier_occupied 1 (lit< tt)), λ h. omega (arith, h.within))

-- ---- a pair that is written there
-- a key whose home slot is 3 and whose tag is 19
abbrev pair : Pair
pair = pair32 637534211 2

-- its entry in slot 5, beside a value below 256
abbrev entry_beside : ℕ → List ℕ
entry_beside value = overwritten_at no_entries 40 (3 ∷ 0 ∷ 0 ∷ 38 ∷ value ∷ [])

-- it goes there, with its tag and the mirror
pub added : PlacingFrame direct_config no_entries slot_five_free pair (Ok tt) (entry_beside 2) (set (set occupied_controls 5 19) 21 19)
unfolding opened
added = PlacingFrame.added 5 (record { position = 2; in_order = lit< tt; slot_is = refl; free = counted_as_free.0; earlier_occupied = occupied_before })

-- where each slot counts as occupied nothing changes
pub full : PlacingFrame direct_config no_entries occupied_controls pair (Err Full) no_entries occupied_controls
full = PlacingFrame.no_slot no_free_slots

-- whether the pair, written into slot i, leaves other parts than these
abbrev leaves_others : List ℕ → List ℕ → ℕ → Bool
leaves_others es ctrl i =
    lists_differ (overwritten_at no_entries (i * 8) (pair.key ++ pair.value)) es || lists_differ (tagged slot_five_free i (tag direct_config pair.key)) ctrl

-- parts that it leaves in no slot are left by no Ok
left_by_none : (es ctrl : List ℕ) → list_all (leaves_others es ctrl) (range_with_len 0 16) ≡ true
    → PlacingFrame direct_config no_entries slot_five_free pair (Ok tt) es ctrl → ⊥
left_by_none es ctrl others h = go (Ok tt) es ctrl h refl refl refl
  where
    go : (r : Result (Unit {0}) Error) (es' ctrl' : List ℕ) → PlacingFrame direct_config no_entries slot_five_free pair r es' ctrl' → r ≡ Ok tt → es' ≡ es → ctrl' ≡ ctrl → ⊥
    go _ _ _ (PlacingFrame.no_slot none) is e c = absurd cc
    go _ _ _ (PlacingFrame.added i at) is e c =
        let low : i < 16 = omega (arith, at.slot_is, probe_slot-lt (direct_config.hash pair.key % 16) 16 at.position (lit< tt)) in
        neither (lists_differ (overwritten_at no_entries (i * 8) (pair.key ++ pair.value)) es) (lists_differ (tagged slot_five_free i (tag direct_config pair.key)) ctrl)
        (λ t. unequal_lists _ es t e)
        (λ t. unequal_lists _ ctrl t c)
        (tested (leaves_others es ctrl) 16 i others low)

-- with another value, another tag or no mirror, a second entry, or nothing written, they are not
pub others_refused : (PlacingFrame direct_config no_entries slot_five_free pair (Ok tt) (entry_beside 3) (set (set occupied_controls 5 19) 21 19) → ⊥)
    × (PlacingFrame direct_config no_entries slot_five_free pair (Ok tt) (entry_beside 2) (set (set occupied_controls 5 20) 21 20) → ⊥)
    × (PlacingFrame direct_config no_entries slot_five_free pair (Ok tt) (entry_beside 2) (set (set occupied_controls 5 19) 21 255) → ⊥)
    × (PlacingFrame direct_config no_entries slot_five_free pair (Ok tt) (overwritten_at (entry_beside 2) 48 (1 ∷ [])) (set (set occupied_controls 5 19) 21 19) → ⊥)
    × (PlacingFrame direct_config no_entries slot_five_free pair (Ok tt) no_entries slot_five_free → ⊥)
unfolding opened
others_refused = (left_by_none _ _ refl, left_by_none _ _ refl, left_by_none _ _ refl, left_by_none _ _ refl, left_by_none _ _ refl)

-- Full is not answered where slot 5 is free
pub full_with_room_refused : (es' ctrl' : List ℕ) → PlacingFrame direct_config no_entries slot_five_free pair (Err Full) es' ctrl' → ⊥
full_with_room_refused es' ctrl' h = go (Err Full) es' ctrl' h refl
  where
    go : (r : Result (Unit {0}) Error) (es'' ctrl'' : List ℕ) → PlacingFrame direct_config no_entries slot_five_free pair r es'' ctrl'' → r ≡ Err Full → ⊥
    go _ _ _ (PlacingFrame.no_slot none) is = free_slot_refused slot_five_free 5 refl refl (none 5 (lit< tt))
    go _ _ _ (PlacingFrame.added i at) is = absurd cc
