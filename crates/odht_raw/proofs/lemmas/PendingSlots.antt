-- The search for an insert order from its start, where all slots wait, to its end.
use Rattle.std.proofs.Common.{◌≡◌, ◌<◌, ◌≤◌, ◌+◌, ◌-◌, ◌^◌, ◌∙◌, ◌++◌, ℕ, suc, sym, ap, subst, refl, List, [], ◌∷◌, length, map, take, drop, get_or, arith, All, AllPairs, IsPermutation, is_some}
use Rattle.std.specs.List.{range_with_len}
use Rattle.odht_raw.proofs.lemmas.Below.{AllPairs-filter, append-nil, append_assoc, cell_at-within, Contains-get_or, drop_all, drop_at, get_or-map, get_or-range_with_len, IsPermutation-refl, length-append, length-drop, length-map, length-range_with_len, length-take-le, not_made_if_fewer, occupied-Contains, order_if_all, so_far_none, take-append-drop, take_all, take_at}
use borrow.Rule.Slice.PartMut.{put_mid}
use Rattle.odht_raw.specs.Words.{cell_at, Format, IsInsertOrder, IsMade, IsSoFar, IsStuck, occupied, slot_count, Table}
use Rattle.odht_raw.specs.Parts.{TableParts}
use Rattle.odht_raw.specs.Waiting.{waiting, slot_of, placed_of, IsWaiting, IsPending, AreWholeParts}
use Rattle.odht_raw.proofs.lemmas.PlacedFirst.{none_placed}
use Rattle.odht_raw.proofs.lemmas.WaitingSlots.{slot_of-waiting}

-- ---- the start
module _ (P : Table) (small : slot_count P ≤ 2 ^ 63) where
  -- an occupied slot is one of the table
  occupied-lt : (k : ℕ) → k < length (occupied P) → get_or (occupied P) k 0 < slot_count P
  occupied-lt k l =
      let h = (occupied-Contains P (get_or (occupied P) k 0)).0 (Contains-get_or (occupied P) k 0 l) in
      cell_at-within P.cells (get_or (occupied P) k 0) h.0 h.1

  -- so each is listed as one that waits
  pub all_wait : All (IsWaiting (slot_count P)) (map waiting (occupied P))
  all_wait k d l =
      let low : k < length (occupied P) = omega (arith, l, length-map (occupied P) waiting) in
      let is : get_or (map waiting (occupied P)) k d ≡ waiting (get_or (occupied P) k 0) = get_or-map waiting (occupied P) k 0 d low in
      (omega (arith, is), omega (arith, is, occupied-lt k low))

  -- and its slot is itself
  slots_of_waiting : (xs : List ℕ) → ((k : ℕ) → k < length xs → get_or xs k 0 < 2 ^ 63) → map slot_of (map waiting xs) ≡ xs
  slots_of_waiting [] low = refl
  slots_of_waiting (x ∷ xs) low =
      (λ i. slot_of-waiting x (low 0 (omega arith)) i ∷ slots_of_waiting xs (λ k l. low (suc k) (omega (arith, l))) i)

  -- so the slots of the list are the occupied ones
  all_slots : map slot_of (map waiting (occupied P)) ≡ occupied P
  all_slots = slots_of_waiting (occupied P) (λ k l. omega (arith, occupied-lt k l, small))

  -- the occupied slots rise
  occupied_rise : AllPairs ◌<◌ (occupied P)
  occupied_rise = AllPairs-filter ◌<◌ (λ i. is_some (cell_at P.cells i)) (range_with_len 0 (slot_count P)) (λ i j d lt l.
      let n = length-range_with_len 0 (slot_count P) in
      omega (arith, lt, l, get_or-range_with_len 0 (slot_count P) i d (omega arith), get_or-range_with_len 0 (slot_count P) j d (omega arith)))

  -- all of them are pending
  pub all_pending : (F : Format) → IsPending F P [] (map waiting (occupied P))
  all_pending F = record {
    listed = subst (λ xs. IsPermutation (occupied P) xs) (sym all_slots) (IsPermutation-refl (occupied P));
    rising = subst (AllPairs ◌<◌) (sym all_slots) occupied_rise;
    so_far = subst (IsSoFar F P) (sym (none_placed (map waiting (occupied P)) (λ k d l. (all_wait k d l).0))) (so_far_none F P);
  }

-- ---- a pass over the end of a list
module _ (xs ys : List ℕ) (a : ℕ) (low : a ≤ length xs) where
  -- the list with ys for its end from a on
  pub ended : put_mid a (length xs - a) xs ys ≡ take a xs ++ ys
  ended =
      let none : drop (length xs - a) (drop a xs) ≡ [] = drop_all (length xs - a) (drop a xs) (omega (arith, length-drop a xs)) in
      ap (λ zs. take a xs ++ (ys ++ zs)) none ∙ ap (λ zs. take a xs ++ zs) (append-nil ys)

  front : length (take a xs) ≡ a
  front = length-take-le a xs low

  -- its length is that of the front and of ys
  pub ended-length : length (put_mid a (length xs - a) xs ys) ≡ a + length ys
  ended-length = omega (arith, ap length ended, length-append (take a xs) ys, front)

  module _ (n : ℕ) (few : n ≤ length ys) where
    -- the first n of that end are after the front
    parted : put_mid a (length xs - a) xs ys ≡ (take a xs ++ take n ys) ++ drop n ys
    parted = ended ∙ ap (λ zs. take a xs ++ zs) (sym (take-append-drop n ys)) ∙ sym (append_assoc (take a xs) (take n ys) (drop n ys))

    so_long : length (take a xs ++ take n ys) ≡ a + n
    so_long = omega (arith, length-append (take a xs) (take n ys), front, length-take-le n ys few)

    pub ended-take : take (a + n) (put_mid a (length xs - a) xs ys) ≡ take a xs ++ take n ys
    ended-take = ap (take (a + n)) parted ∙ take_at (take a xs ++ take n ys) (drop n ys) (a + n) so_long

    -- and the others behind them
    pub ended-drop : drop (a + n) (put_mid a (length xs - a) xs ys) ≡ drop n ys
    ended-drop = ap (drop (a + n)) parted ∙ drop_at (take a xs ++ take n ys) (drop n ys) (a + n) so_long

-- ---- the end
module _ (F : Format) (P : Table) (T : TableParts) (out : List ℕ) (n : ℕ) (counted : length out ≡ n) (whole : AreWholeParts F P T n) where
  -- none waits any more: an insert order
  pub order_found : (a : ℕ) → length out ≤ a → IsPending F P (take a out) (drop a out) → IsInsertOrder F P out
  order_found a all h = order_if_all F P whole.parts.placed out (so_far a all h) (counted ∙ whole.counted)
    where
      so_far : (a : ℕ) → length out ≤ a → IsPending F P (take a out) (drop a out) → IsSoFar F P out
      so_far a all h =
          subst (IsSoFar F P) (ap (λ ns. take a out ++ placed_of ns) (drop_all a out all) ∙ append-nil (take a out) ∙ take_all a out all) h.so_far

  -- stuck with slots that wait: no inserts make it
  pub order_missing : (a : ℕ) → a < length out → IsStuck F P (take a out) → IsMade F P → ⊥
  order_missing a few stuck = not_made_if_fewer F P whole.valid (take a out) stuck (omega (arith, few, length-take-le a out (omega (arith, few)), counted, whole.counted))
