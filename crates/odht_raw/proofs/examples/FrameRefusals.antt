-- Worked examples: what an insert may not do, also to bytes that are not valid.
use Rattle.std.proofs.Common.{◌≡◌, ◌<◌, ◌∙◌, ◌+◌, ◌-◌, ℕ, refl, sym, inl, inr, Bool, true, false, true≢false, ◌||◌, List, [], ◌∷◌, Option, Some, None, Ok, Err, length, replicate, set, slice_index, lit<, arith}
use Rattle.std.specs.List.{range_with_len, list_all}
use Rattle.odht_raw.specs.Words.{controls_of, counts_as_free, Error, Format, Full, key_at, le_bytes, lists_differ, overwritten_at, Pair, slot_key, TooShort, value_at, with_count, with_pair, with_value}
use Rattle.odht_base.proofs.examples.Configs.{test_config, direct_config, pair32}
use Rattle.odht_raw.proofs.examples.Missing.{held_at_home}
use Rattle.odht_raw.specs.Frame.{InsertFrame, PartsFrame, IsAbsent, entries_in, CountsAsFree, CountsAsOccupied, HasNoFree, EachCountsAsOccupied}
use Rattle.odht_header.proofs.examples.Apart.{unequal_lists, tested, untrue, neither}
use Rattle.odht_header.proofs.examples.Opened.{opened}
use Rattle.odht_header.proofs.examples.Refused.{test_bytes}
use Rattle.odht_header.proofs.examples.Invalid.{all_occupied}

-- ---- Full
-- a free slot whose mirror is free too does not count as occupied
pub free_slot_refused : (ctrl : List ℕ) (i : ℕ) → counts_as_free (slice_index ctrl i) ≡ true
    → counts_as_free (slice_index ctrl (length ctrl - 16 + i)) ≡ true → CountsAsOccupied ctrl i → ⊥
free_slot_refused ctrl i own mirror (inl e) = true≢false (sym own ∙ e)
free_slot_refused ctrl i own mirror (inr (low, e)) = true≢false (sym mirror ∙ e)

-- no error at all comes for a fresh table
roomy : (p : Pair) (e : Error) (D : List ℕ) → InsertFrame test_config test_bytes p (Err e) D → ⊥
unfolding opened
roomy p e D (InsertFrame.full full absent) = omega (arith, full)
roomy p e D (InsertFrame.no_slot none absent) = free_slot_refused (controls_of test_config test_bytes) 0 refl refl (none 0 (lit< tt))

-- a fresh table of sixteen slots is not answered with Full
pub full_with_room_refused : (p : Pair) (D : List ℕ) → InsertFrame test_config test_bytes p (Err Full) D → ⊥
full_with_room_refused p D h = roomy p Full D h

-- nor for parts whose slot 0 is free
roomy_parts : (es ctrl : List ℕ) (p : Pair) (e : Error) (es' ctrl' : List ℕ) → 0 < length ctrl - 16
    → counts_as_free (slice_index ctrl 0) ≡ true → counts_as_free (slice_index ctrl (length ctrl - 16 + 0)) ≡ true
    → PartsFrame test_config es ctrl p (Err e) es' ctrl' → ⊥
roomy_parts es ctrl p e es' ctrl' low own mirror (PartsFrame.no_slot none missing) = free_slot_refused ctrl 0 own mirror (none 0 low)

-- nor are sixteen slots of which slot 0 alone is free
pub full_parts_with_room_refused : (es : List ℕ) (p : Pair) (es' ctrl' : List ℕ)
    → PartsFrame test_config es (set (set (replicate 32 0) 0 255) 16 255) p (Err Full) es' ctrl' → ⊥
full_parts_with_room_refused es p es' ctrl' h =
    roomy_parts es (set (set (replicate 32 0) 0 255) 16 255) p Full es' ctrl' (lit< tt) refl refl h

-- nor is a key that is found, also at the maximum by the header: 3 in slot 3 of sixteen occupied ones
three_is_held : IsAbsent direct_config (all_occupied 13) (le_bytes 4 3) → ⊥
unfolding opened
three_is_held absent =
    held_at_home direct_config (entries_in direct_config (all_occupied 13)) (controls_of direct_config (all_occupied 13)) (le_bytes 4 3) (lit< tt) refl refl refl refl refl absent

found_key : (e : Error) (D : List ℕ) → InsertFrame direct_config (all_occupied 13) (pair32 3 7) (Err e) D → ⊥
unfolding opened
found_key e D (InsertFrame.full full absent) = three_is_held absent
found_key e D (InsertFrame.no_slot none absent) = three_is_held absent

pub full_for_found_key_refused : (D : List ℕ) → InsertFrame direct_config (all_occupied 13) (pair32 3 7) (Err Full) D → ⊥
full_for_found_key_refused D h = found_key Full D h

-- ---- a new entry at the maximum
-- a fresh table's bytes with a count of 13
abbrev at_maximum : List ℕ
at_maximum = overwritten_at test_bytes 8 (13 ∷ [])

-- the answer there is not None
unadded_at_maximum : (p : Pair) (o : Option (List ℕ)) (D : List ℕ) → InsertFrame test_config at_maximum p (Ok o) D → o ≡ None → ⊥
unfolding opened
unadded_at_maximum p o D (InsertFrame.overwrote i low same) e = absurd cc
unadded_at_maximum p o D (InsertFrame.added i low free room) e = omega (arith, room)

-- at the maximum by the header no entry is added, though every slot is free
pub entry_at_maximum_refused : (p : Pair) (D : List ℕ) → InsertFrame test_config at_maximum p (Ok None) D → ⊥
entry_at_maximum_refused p D h = unadded_at_maximum p None D h refl

-- ---- a new entry in an occupied slot
-- sixteen control bytes of 0 with their mirror
abbrev pub occupied_controls : List ℕ
occupied_controls = replicate 32 0

-- none of these slots counts as free
occupied_slots : (i : ℕ) → i < 16 → CountsAsFree occupied_controls i → ⊥
occupied_slots i low (inl e) = untrue (λ j. counts_as_free (slice_index occupied_controls j)) 16 i refl low e
occupied_slots i low (inr (small, e)) = untrue (λ j. counts_as_free (slice_index occupied_controls (16 + j))) 16 i refl low e

-- the answer where each slot is occupied is not None
unadded_where_occupied : (p : Pair) (o : Option (List ℕ)) (D : List ℕ) → InsertFrame direct_config (all_occupied 0) p (Ok o) D → o ≡ None → ⊥
unfolding opened
unadded_where_occupied p o D (InsertFrame.overwrote i low same) e = absurd cc
unadded_where_occupied p o D (InsertFrame.added i low free room) e = occupied_slots i low free

-- no entry is added where every slot is occupied, though the header's count is 0
pub entry_in_occupied_slot_refused : (p : Pair) (D : List ℕ) → InsertFrame direct_config (all_occupied 0) p (Ok None) D → ⊥
entry_in_occupied_slot_refused p D h = unadded_where_occupied p None D h refl

-- nor for parts of which each slot is occupied
unadded_parts : (F : Format) (es : List ℕ) (p : Pair) (o : Option (List ℕ)) (es' ctrl' : List ℕ)
    → PartsFrame F es occupied_controls p (Ok o) es' ctrl' → o ≡ None → ⊥
unadded_parts F es p o es' ctrl' (PartsFrame.overwrote i low same) e = absurd cc
unadded_parts F es p o es' ctrl' (PartsFrame.added i low free) e = occupied_slots i low free

-- nor in parts of which every slot is occupied
pub parts_entry_in_occupied_slot_refused : (F : Format) (es : List ℕ) (p : Pair) (es' ctrl' : List ℕ)
    → PartsFrame F es occupied_controls p (Ok None) es' ctrl' → ⊥
parts_entry_in_occupied_slot_refused F es p es' ctrl' h = unadded_parts F es p None es' ctrl' h refl

-- ---- an overwrite of a key that no entry has
absent_key : (o : Option (List ℕ)) (v D : List ℕ) → InsertFrame test_config test_bytes (pair32 1 2) (Ok o) D → o ≡ Some v → ⊥
unfolding opened
absent_key o v D (InsertFrame.overwrote i low same) e =
    unequal_lists (key_at test_config test_bytes i) (le_bytes 4 1)
    (tested (λ j. lists_differ (key_at test_config test_bytes j) (le_bytes 4 1)) 16 i refl low) same
absent_key o v D (InsertFrame.added i low free room) e = absurd cc

-- a key that no entry has is not answered with a value
pub overwrite_of_absent_key_refused : (v D : List ℕ) → InsertFrame test_config test_bytes (pair32 1 2) (Ok (Some v)) D → ⊥
overwrite_of_absent_key_refused v D h = absent_key (Some v) v D h refl

-- ---- another byte
-- the overwrite of 3 by 7, after which the bytes are D
abbrev overwrites_three : Option (List ℕ) → List ℕ → Type 0
overwrites_three o D = InsertFrame direct_config (all_occupied 0) (pair32 3 7) (Ok o) D

-- whether slot j has another key than 3, or its overwrite by 7 leaves other bytes than E, or its value is not v
abbrev is_no_overwrite : List ℕ → List ℕ → ℕ → Bool
is_no_overwrite v E j =
    lists_differ (key_at direct_config (all_occupied 0) j) (le_bytes 4 3)
    || (lists_differ (with_value direct_config (all_occupied 0) j (le_bytes 4 7)) E || lists_differ (value_at direct_config (all_occupied 0) j) v)

-- entries that no overwrite leaves are left by none of slot i
other_overwrite : (o : Option (List ℕ)) (v D E : List ℕ) → list_all (is_no_overwrite v E) (range_with_len 0 16) ≡ true
    → overwrites_three o D → o ≡ Some v → D ≡ E → ⊥
unfolding opened
other_overwrite o v D E h (InsertFrame.overwrote i low same) e is =
    let value : value_at direct_config (all_occupied 0) i ≡ v = cc in
    neither (lists_differ (key_at direct_config (all_occupied 0) i) (le_bytes 4 3))
    (lists_differ (with_value direct_config (all_occupied 0) i (le_bytes 4 7)) E || lists_differ (value_at direct_config (all_occupied 0) i) v)
    (λ k. unequal_lists (key_at direct_config (all_occupied 0) i) (le_bytes 4 3) k same)
    (neither (lists_differ (with_value direct_config (all_occupied 0) i (le_bytes 4 7)) E) (lists_differ (value_at direct_config (all_occupied 0) i) v)
    (λ k. unequal_lists (with_value direct_config (all_occupied 0) i (le_bytes 4 7)) E k is)
    (λ k. unequal_lists (value_at direct_config (all_occupied 0) i) v k value))
    (tested (is_no_overwrite v E) 16 i h low)
other_overwrite o v D E h (InsertFrame.added i low free room) e is = absurd cc

-- so they are left by no overwrite
left_by_none : (v E : List ℕ) → list_all (is_no_overwrite v E) (range_with_len 0 16) ≡ true → overwrites_three (Some v) E → ⊥
left_by_none v E t h = other_overwrite (Some v) v E E t h refl refl

-- the bytes with 3 overwritten by 7, and then the bytes d written from `at` on
abbrev overwritten_and : ℕ → List ℕ → List ℕ
overwritten_and at d = overwritten_at (overwritten_at (all_occupied 0) 60 (7 ∷ [])) at d

-- an overwrite changes no other byte, here the value 4 of slot 4
pub overwrite_of_neighbour_refused : (v : List ℕ) → overwrites_three (Some v) (overwritten_and 68 (7 ∷ [])) → ⊥
unfolding opened
overwrite_of_neighbour_refused v h = left_by_none v (overwritten_and 68 (7 ∷ [])) refl h

-- and it does not take the slot of another key, here of 4
pub overwrite_of_other_key_refused : (v : List ℕ) → overwrites_three (Some v) (overwritten_at (all_occupied 0) 68 (7 ∷ [])) → ⊥
unfolding opened
overwrite_of_other_key_refused v h = left_by_none v (overwritten_at (all_occupied 0) 68 (7 ∷ [])) refl h

-- and it answers the value that was there, not the new one
pub new_value_as_former_refused : overwrites_three (Some (le_bytes 4 7)) (overwritten_at (all_occupied 0) 60 (7 ∷ [])) → ⊥
unfolding opened
new_value_as_former_refused h =
    left_by_none (le_bytes 4 7) (overwritten_at (all_occupied 0) 60 (7 ∷ [])) refl h

-- a fresh table's bytes with 1 to 2 added in slot i and the count n
abbrev with_one : ℕ → ℕ → List ℕ
with_one i n = with_count (with_pair test_config 16 test_bytes i (pair32 1 2)) n

-- whether E is other than what an insert of 1 to 2 leaves, whatever slot it takes
abbrev no_addition : List ℕ → Bool
no_addition E = list_all (λ j. lists_differ (with_one j 1) E) (range_with_len 0 16)

-- bytes that no new entry leaves are left by none in slot i
other_addition : (o : Option (List ℕ)) (D E : List ℕ) → no_addition E ≡ true
    → InsertFrame test_config test_bytes (pair32 1 2) (Ok o) D → o ≡ None → D ≡ E → ⊥
unfolding opened
other_addition o D E h (InsertFrame.overwrote i low same) e is = absurd cc
other_addition o D E h (InsertFrame.added i low free room) e is =
    unequal_lists (with_one i 1) E (tested (λ j. lists_differ (with_one j 1) E) 16 i h low) is

-- so they are left by no insert of 1 and 2
added_by_none : (E : List ℕ) → no_addition E ≡ true → InsertFrame test_config test_bytes (pair32 1 2) (Ok None) E → ⊥
added_by_none E t h = other_addition None E E t h refl refl

-- an added entry is counted
pub uncounted_addition_refused : InsertFrame test_config test_bytes (pair32 1 2) (Ok None) (with_one 5 0) → ⊥
unfolding opened
uncounted_addition_refused h = added_by_none (with_one 5 0) refl h

-- its mirror byte is written too
pub addition_without_mirror_refused : InsertFrame test_config test_bytes (pair32 1 2) (Ok None) (overwritten_at (with_one 5 1) 181 (255 ∷ [])) → ⊥
unfolding opened
addition_without_mirror_refused h = added_by_none (overwritten_at (with_one 5 1) 181 (255 ∷ [])) refl h

-- and no other slot is written
pub addition_in_two_slots_refused : InsertFrame test_config test_bytes (pair32 1 2) (Ok None) (with_count (with_pair test_config 16 (with_one 5 1) 6 (pair32 1 2)) 1) → ⊥
unfolding opened
addition_in_two_slots_refused h =
    added_by_none (with_count (with_pair test_config 16 (with_one 5 1) 6 (pair32 1 2)) 1) refl h

-- an error is Full, and leaves the bytes
unchanged : (F : Format) (B : List ℕ) (p : Pair) (e : Error) (D : List ℕ) → InsertFrame F B p (Err e) D → (e ≡ Full) × (D ≡ B)
unchanged F B p e D (InsertFrame.full full absent) = (refl, refl)
unchanged F B p e D (InsertFrame.no_slot none absent) = (refl, refl)

-- an insert that answers Full writes nothing
pub written_refusal_refused : InsertFrame direct_config (all_occupied 13) (pair32 99 7) (Err Full) (overwritten_at (all_occupied 13) 30 (1 ∷ [])) → ⊥
unfolding opened
written_refusal_refused h =
    unequal_lists (overwritten_at (all_occupied 13) 30 (1 ∷ [])) (all_occupied 13) refl
    (unchanged direct_config (all_occupied 13) (pair32 99 7) Full (overwritten_at (all_occupied 13) 30 (1 ∷ [])) h).1

-- and answers no other error
pub other_error_refused : (F : Format) (B : List ℕ) (p : Pair) (n : ℕ) (D : List ℕ) → InsertFrame F B p (Err (TooShort n)) D → ⊥
other_error_refused F B p n D h = let only = (unchanged F B p (TooShort n) D h).0 in absurd cc

-- entries of zeros
abbrev pub no_entries : List ℕ
no_entries = replicate 128 0

-- no value is overwritten where no slot has the key
absent_from_parts : (o : Option (List ℕ)) (v es' ctrl' : List ℕ)
    → PartsFrame test_config no_entries occupied_controls (pair32 1 2) (Ok o) es' ctrl' → o ≡ Some v → ⊥
absent_from_parts o v es' ctrl' (PartsFrame.overwrote i low same) e =
    unequal_lists (slot_key test_config no_entries i) (le_bytes 4 1)
    (tested (λ j. lists_differ (slot_key test_config no_entries j) (le_bytes 4 1)) 16 i refl low) same
absent_from_parts o v es' ctrl' (PartsFrame.added i low free) e = absurd cc

-- of parts too a key that no entry has is not answered with a value
pub parts_overwrite_of_absent_key_refused : (v es' ctrl' : List ℕ)
    → PartsFrame test_config no_entries occupied_controls (pair32 1 2) (Ok (Some v)) es' ctrl' → ⊥
parts_overwrite_of_absent_key_refused v es' ctrl' h = absent_from_parts (Some v) v es' ctrl' h refl

-- an overwrite leaves the control bytes
kept_controls : (F : Format) (es ctrl : List ℕ) (p : Pair) (o : Option (List ℕ)) (v es' ctrl' : List ℕ)
    → PartsFrame F es ctrl p (Ok o) es' ctrl' → o ≡ Some v → ctrl' ≡ ctrl
kept_controls F es ctrl p o v es' ctrl' (PartsFrame.overwrote i low same) e = refl
kept_controls F es ctrl p o v es' ctrl' (PartsFrame.added i low free) e = absurd cc

-- an overwrite of parts changes no control byte
pub parts_overwrite_of_control_refused : (F : Format) (es : List ℕ) (p : Pair) (v es' : List ℕ)
    → PartsFrame F es occupied_controls p (Ok (Some v)) es' (set occupied_controls 3 1) → ⊥
parts_overwrite_of_control_refused F es p v es' h =
    unequal_lists (set occupied_controls 3 1) occupied_controls refl (kept_controls F es occupied_controls p (Some v) v es' (set occupied_controls 3 1) h refl)

-- an error for parts is Full, and leaves them
parts_unchanged : (F : Format) (es ctrl : List ℕ) (p : Pair) (e : Error) (es' ctrl' : List ℕ)
    → PartsFrame F es ctrl p (Err e) es' ctrl' → (es' ≡ es) × (ctrl' ≡ ctrl)
parts_unchanged F es ctrl p e es' ctrl' (PartsFrame.no_slot none missing) = (refl, refl)

-- a key that is found in parts is not answered with Full: the key 0 of the entries of zeros
zero_key : (e : Error) (es' ctrl' : List ℕ) → PartsFrame direct_config no_entries occupied_controls (pair32 0 7) (Err e) es' ctrl' → ⊥
unfolding opened
zero_key e es' ctrl' (PartsFrame.no_slot none missing) =
    held_at_home direct_config (record { slots = 16; bytes = no_entries }) occupied_controls (le_bytes 4 0) (lit< tt) refl refl refl refl refl missing

pub full_parts_for_found_key_refused : (es' ctrl' : List ℕ) → PartsFrame direct_config no_entries occupied_controls (pair32 0 7) (Err Full) es' ctrl' → ⊥
full_parts_for_found_key_refused es' ctrl' h = zero_key Full es' ctrl' h

-- and an insert that answers Full writes no entry
pub parts_written_refusal_refused : (F : Format) (p : Pair) (ctrl ctrl' : List ℕ)
    → PartsFrame F no_entries ctrl p (Err Full) (set no_entries 3 1) ctrl' → ⊥
parts_written_refusal_refused F p ctrl ctrl' h =
    unequal_lists (set no_entries 3 1) no_entries refl (parts_unchanged F no_entries ctrl p Full (set no_entries 3 1) ctrl' h).0

-- ---- counting one slot and all slots as free or occupied
-- slot 5 alone free, by its own byte and its mirror
abbrev pub slot_five_free : List ℕ
slot_five_free = set (set occupied_controls 5 255) 21 255

-- only the mirror of slot 5 free
abbrev pub mirror_five_free : List ℕ
mirror_five_free = set occupied_controls 21 255

-- a slot counts as free by its own byte, and one below 16 by its mirror
pub counted_as_free : CountsAsFree slot_five_free 5 × CountsAsFree (set occupied_controls 5 255) 5 × CountsAsFree mirror_five_free 5
counted_as_free = (inl refl, inl refl, inr (lit< tt, refl))

-- not by the byte of another slot
pub neighbour_not_free : CountsAsFree slot_five_free 6 → ⊥
neighbour_not_free (inl e) = true≢false (sym e)
neighbour_not_free (inr (low, e)) = true≢false (sym e)

-- a slot counts as occupied by its own byte, and one below 16 by its mirror
pub counted_as_occupied : CountsAsOccupied slot_five_free 6 × CountsAsOccupied mirror_five_free 5 × CountsAsOccupied (set occupied_controls 5 255) 5
counted_as_occupied = (inl refl, inl refl, inr (lit< tt, refl))

-- not where both are free
pub free_slot_not_occupied : CountsAsOccupied slot_five_free 5 → ⊥
free_slot_not_occupied h = free_slot_refused slot_five_free 5 refl refl h

-- each of these control bytes counts as occupied
occupied_bytes : (i : ℕ) → i < 16 → (b : Bool) → counts_as_free (slice_index occupied_controls i) ≡ b → b ≡ false
occupied_bytes i low true e = absurd (untrue (λ j. counts_as_free (slice_index occupied_controls j)) 16 i refl low e)
occupied_bytes i low false e = refl

-- no byte is free where all are 0
pub none_free : HasNoFree occupied_controls 16
none_free i low = occupied_bytes i low (counts_as_free (slice_index occupied_controls i)) refl

-- one of sixteen is free
pub one_free_refused : HasNoFree slot_five_free 16 → ⊥
one_free_refused h = true≢false (h 5 (lit< tt))

-- no slot is free where all control bytes are 0
pub no_free_slots : EachCountsAsOccupied occupied_controls 16
no_free_slots i low = inl (none_free i low)

-- slot 5 of sixteen is free
pub one_free_slot_refused : EachCountsAsOccupied slot_five_free 16 → ⊥
one_free_slot_refused h = free_slot_not_occupied (h 5 (lit< tt))

-- slot 16 of 32 has no mirror: free by its own byte it does not count as occupied
pub free_slot_without_mirror : CountsAsOccupied (set (replicate 48 0) 16 255) 16 → ⊥
free_slot_without_mirror (inl e) = true≢false e
free_slot_without_mirror (inr (low, e)) = omega (arith, low)
