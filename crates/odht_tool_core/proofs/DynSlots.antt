-- What holds of the slots of a table of any sizes, slot by slot.
use Rattle.std.proofs.Common.{◌≡◌, ◌∙◌, ℕ, ◌+◌, ◌<◌, ◌≤◌, ◌&&◌, max, Bool, true, false, not, cond, is_some, is_none, [], ◌∷◌, ◌++◌, Option, Some, None, length, map, refl, ap, ap₂, arith, append-nil, length-append, slice_index, nat_le}
use Rattle.std.proofs.Math.Bool.{and-false}
use Rattle.std.specs.List.{filter, range_with_len}
use Rattle.std.proofs.lemmas.Bool.{le-leb}
use Rattle.std.proofs.lemmas.List.{map-append, length-map}
use Rattle.std.proofs.lemmas.List.Elements.{filter-append}
use Rattle.std.proofs.lemmas.List.FromFn.{length-range_with_len}
use Rattle.std.proofs.lemmas.List.Sums.{length-filter, count_by-le-length}
use Rattle.odht_base.specs.Decoded.{slot_key, counts_as_free}
use Rattle.odht_header.specs.Refusals.{first_slot, control_mismatch}
use Rattle.odht_header.specs.declared.error.Error.{Error}
use Rattle.odht_header.proofs.lemmas.FirstErrors.{first_slot-None, None-first_slot}
use Rattle.odht_tool_core.specs.GroupNumbers.{capped, groups_to, groups_to_free}
use Rattle.odht_tool_core.specs.InfoNumbers.{DynParts, file_format, least_key_len, agrees, occupied, occupied_in, group_numbers, miss_numbers, largest}
use Rattle.odht_tool_core.specs.ReadyShapes.{hash_of}
use Rattle.odht_tool_core.specs.declared.shapes.Hash.{Hash}
use Rattle.odht_tool_core.proofs.Counting.{range_more, slots_more}
use Rattle.odht_tool_core.proofs.Tallies.{largest-more}

module _ (T : DynParts) (h : Hash) where
  abbrev mismatch : ℕ → Option Error
  mismatch = control_mismatch (file_format T h) T.entries T.control

  -- where a slot has another control byte than the tag of its key, the hash function does not agree
  pub disagrees : (i : ℕ) → i < T.slots → is_some (control_mismatch (file_format T h) T.entries T.control i) ≡ true → agrees T h ≡ false
  disagrees i low some = ap (λ t. nat_le (least_key_len h) T.key_len && t) (go (first_slot mismatch T.slots) refl) ∙ and-false _
    where
      go : (o : Option Error) → first_slot mismatch T.slots ≡ o → is_none o ≡ false
      go None e = absurd (let none = first_slot-None mismatch T.slots e i low in cc (none, some))
      go (Some x) e = refl

  -- and where none has, and keys are long enough, it does
  pub all_agree : least_key_len h ≤ T.key_len → ((i : ℕ) → i < T.slots → control_mismatch (file_format T h) T.entries T.control i ≡ None) → agrees T h ≡ true
  all_agree long none =
      ap₂ (λ s t. s && t) (le-leb (least_key_len h) T.key_len long) (ap is_none (None-first_slot mismatch T.slots none))

  -- ---- the occupied slots
  abbrev is_occupied : ℕ → Bool
  is_occupied i = not (counts_as_free (slice_index T.control i))

  abbrev groups_of : Option ℕ → ℕ → ℕ
  groups_of o i = capped o (groups_to (hash_of h (slot_key (file_format T h) T.entries i)) T.slots i)

  pub occupied_more : (n : ℕ) (t : Bool) → is_occupied n ≡ t → occupied T (n + 1) ≡ occupied T n ++ cond t (n ∷ []) []
  occupied_more n t e =
      ap (filter is_occupied) (slots_more n) ∙ filter-append is_occupied (range_with_len 0 n) (n ∷ [])
      ∙ ap (λ b. occupied T n ++ cond b (n ∷ []) []) e

  -- one slot more, which is free
  pub groups_free : (o : Option ℕ) (n : ℕ) → counts_as_free (slice_index T.control n) ≡ true → group_numbers T h o (n + 1) ≡ group_numbers T h o n
  groups_free o n e = ap (map (groups_of o)) (occupied_more n false (ap not e) ∙ append-nil (occupied T n))

  -- or which is occupied
  pub groups_more : (o : Option ℕ) (n : ℕ) → counts_as_free (slice_index T.control n) ≡ false → group_numbers T h o (n + 1) ≡ group_numbers T h o n ++ (groups_of o n ∷ [])
  groups_more o n e = ap (map (groups_of o)) (occupied_more n true (ap not e)) ∙ map-append (groups_of o) (occupied T n) (n ∷ [])

  -- there are no more of them than slots
  pub groups_few : (o : Option ℕ) (n : ℕ) → length (group_numbers T h o n) ≤ n
  groups_few o n =
      let a = length-map (occupied T n) (groups_of o) in
      let b = length-filter is_occupied (range_with_len 0 n) in
      let c = count_by-le-length is_occupied (range_with_len 0 n) in
      let d = length-range_with_len 0 n in
      omega (arith, a, b, c, d)

-- how many slots are occupied, with one slot more
module _ (T : DynParts) (a n : ℕ) where
  in_more : (t : Bool) → not (counts_as_free (slice_index T.control (a + n))) ≡ t → occupied_in T a (n + 1) ≡ occupied_in T a n ++ cond t ((a + n) ∷ []) []
  in_more t e =
      let held : ℕ → Bool = λ i. not (counts_as_free (slice_index T.control i)) in
      ap (filter held) (range_more a n) ∙ filter-append held (range_with_len a n) ((a + n) ∷ [])
      ∙ ap (λ b. occupied_in T a n ++ cond b ((a + n) ∷ []) []) e

  pub count_free : counts_as_free (slice_index T.control (a + n)) ≡ true → length (occupied_in T a (n + 1)) ≡ length (occupied_in T a n)
  count_free e = ap length (in_more false (ap not e) ∙ append-nil (occupied_in T a n))

  pub count_more : counts_as_free (slice_index T.control (a + n)) ≡ false → length (occupied_in T a (n + 1)) ≡ length (occupied_in T a n) + 1
  count_more e = ap length (in_more true (ap not e)) ∙ length-append (occupied_in T a n) ((a + n) ∷ [])

-- the longest search for an absent key, from one home more
pub misses_more : (T : DynParts) (o : Option ℕ) (n : ℕ) → largest (miss_numbers T o (n + 1)) ≡ max (largest (miss_numbers T o n)) (capped o (groups_to_free T.control n))
misses_more T o n =
    let miss : ℕ → ℕ = λ b. capped o (groups_to_free T.control b) in
    ap largest (ap (map miss) (slots_more n) ∙ map-append miss (range_with_len 0 n) (n ∷ [])) ∙ largest-more (miss_numbers T o n) (miss n)
