-- A look at the slots in turn: what is known of those before slot n, and at the end of all.
use Rattle.std.proofs.Common.{◌≡◌, ◌<◌, ◌≤◌, ◌∙◌, ◌+◌, ◌-◌, ◌==◌, ◌&&◌, inl, inr, ℕ, zero, suc, Bool, true, false, true≢false, not, sym, ap, subst, refl, List, [], ◌∷◌, Option, Some, None, map, length, replicate, slice_index, arith, option_map}
use Rattle.std.specs.List.{range_with_len, filter_map, cons_option, list_all}
use Rattle.std.specs.Option.{option_or}
use Rattle.std.specs.Prelude.{is_some}
use Rattle.odht_raw.proofs.lemmas.Below.{cases_lt, first_slot-at, gives-Some, None-first_slot, None-gives, None-option_or, option_or-first, option_or-second}
use Rattle.odht_raw.specs.Words.{bad_free_control, BadFreeControl, ControlMismatch, counts_as_free, decoded_cell, decoded_cells, differs, entry_len, Error, first_of, Format, hashes_refusal_at, is_at, mirror_refusal, NonZeroEmpty, Pair, reach_refusal, search_end, slot_entry, slot_key, slot_refusal_at, slot_value, slots_refusal, tag, Unreachable, unreachable, ◌gives◌}
use Rattle.odht_raw.specs.Checks.{cells_of, decoded_count, IsFitting}
use Rattle.odht_raw.specs.Parts.{TableParts}
use Rattle.odht_raw.specs.Summaries.{IsSummary, IsFirstUnreachable, occupied_before, HaveNoError, AreRight, AreFree}
use Rattle.odht_raw.proofs.lemmas.SlotChecks.{is_zero, zero_entry_passes}

-- ---- one slot
by_tests : (free zeros stray same : Bool) (e h f : Error)
    → first_of ((free && not zeros gives e) ∷ (free && stray gives h) ∷ (not free && not same gives f) ∷ [])
    ≡ option_or (first_of ((free && not zeros gives e) ∷ (not free && not same gives f) ∷ [])) (free && stray gives h)
by_tests true true true same e h f = refl
by_tests true true false same e h f = refl
by_tests true false stray same e h f = refl
by_tests false zeros stray true e h f = refl
by_tests false zeros stray false e h f = refl

-- its error is that of a view, and then that of a stray control byte
pub slot_refusal_at-is : (F : Format) (es ctrl : List ℕ) (i : ℕ) → slot_refusal_at F es ctrl i ≡ option_or (hashes_refusal_at F es ctrl i) (bad_free_control ctrl i)
slot_refusal_at-is F es ctrl i =
    by_tests (counts_as_free (slice_index ctrl i)) (list_all is_zero (slot_entry F es i)) (differs (slice_index ctrl i) 255) (slice_index ctrl i == tag F (slot_key F es i))
    (NonZeroEmpty i) (BadFreeControl i (slice_index ctrl i)) (ControlMismatch i (tag F (slot_key F es i)) (slice_index ctrl i))

-- an occupied slot has none
bad_free_control-occupied : (ctrl : List ℕ) (i : ℕ) → counts_as_free (slice_index ctrl i) ≡ false → bad_free_control ctrl i ≡ None
bad_free_control-occupied ctrl i e = None-gives _ _ (ap (λ b. b && differs (slice_index ctrl i) 255) e)

-- a free slot of zeros has none either
pub free_slot_passes : (F : Format) (es ctrl : List ℕ) (i n : ℕ) → slice_index ctrl i ≡ 255 → slot_entry F es i ≡ replicate n 0 → slot_refusal_at F es ctrl i ≡ None
free_slot_passes F es ctrl i n byte zeros =
    let free : counts_as_free (slice_index ctrl i) ≡ true = ap counts_as_free byte in
    let right : bad_free_control ctrl i ≡ None = None-gives _ _ (ap (λ c. counts_as_free c && differs c 255) byte) in
    slot_refusal_at-is F es ctrl i ∙ None-option_or _ _ (zero_entry_passes F es ctrl i free n zeros) right

-- so free slots give no error
pub free_slots_pass : (F : Format) (T : TableParts) (b : ℕ) (is : List ℕ) → AreFree F T b is → AreRight F T b is
free_slots_pass F T b is free i m = let at = free i m in free_slot_passes F T.entries.bytes T.control (b + i) (entry_len F) at.0 at.1

-- ---- how many cells hold a pair
abbrev one : Option Pair → ℕ
one None = 0
one (Some p) = 1

count_cons : (c : Option Pair) (ps : List Pair) → length (cons_option c ps) ≡ one c + length ps
count_cons None ps = omega arith
count_cons (Some p) ps = omega arith

-- one cell more
count_next : (f : ℕ → Option Pair) (a n : ℕ) → length (filter_map (λ c. c) (map f (range_with_len a (suc n)))) ≡ length (filter_map (λ c. c) (map f (range_with_len a n))) + one (f (a + n))
count_next f a zero =
    let at : a ≡ a + 0 = omega arith in
    let here = count_cons (f a) [] in
    let same = ap (λ x. one (f x)) at in
    omega (arith, here, same)
count_next f a (suc n) =
    let at : a + 1 + n ≡ a + suc n = omega arith in
    let h = count_next f (a + 1) n in
    let here = count_cons (f a) (filter_map (λ c. c) (map f (range_with_len (a + 1) (suc n)))) in
    let rest = count_cons (f a) (filter_map (λ c. c) (map f (range_with_len (a + 1) n))) in
    let last = ap (λ x. one (f x)) at in
    omega (arith, h, here, rest, last)

-- ---- a slot, and those before it
-- what holds of those before n and of n holds of those before n + 1
pub one_more : (X : ℕ → Type 0) (n : ℕ) → ((i : ℕ) → i < n → X i) → X n → (i : ℕ) → i < n + 1 → X i
one_more X n before here i l = elim (cases_lt i n) [
  | inl low ↦ before i low
  | inr past ↦ let same : n ≡ i = omega arith in subst X same here
]

module _ (F : Format) (T : TableParts) where
  -- it has no error where neither look has one
  pub passes : (i : ℕ) → hashes_refusal_at F T.entries.bytes T.control i ≡ None → bad_free_control T.control i ≡ None → slot_refusal_at F T.entries.bytes T.control i ≡ None
  passes i e f = slot_refusal_at-is F T.entries.bytes T.control i ∙ None-option_or _ _ e f

  -- at the first slot with an error
  module _ (n : ℕ) (before : HaveNoError F T n) (low : n < length T.control - 16) (x : Error) where
    refused : slot_refusal_at F T.entries.bytes T.control n ≡ Some x → slots_refusal F T.entries.bytes T.control ≡ Some x
    unfolding slots_refusal
    refused here = first_slot-at (slot_refusal_at F T.entries.bytes T.control) (length T.control - 16) n x low before here

    -- that of a view
    pub first_refused : hashes_refusal_at F T.entries.bytes T.control n ≡ Some x → slots_refusal F T.entries.bytes T.control ≡ Some x
    first_refused e = refused (slot_refusal_at-is F T.entries.bytes T.control n ∙ option_or-first _ _ x e)

    -- or that of a stray control byte
    pub first_stray : hashes_refusal_at F T.entries.bytes T.control n ≡ None → bad_free_control T.control n ≡ Some x → slots_refusal F T.entries.bytes T.control ≡ Some x
    first_stray e f = refused (slot_refusal_at-is F T.entries.bytes T.control n ∙ option_or-second _ _ e ∙ f)

-- ---- the slots before n: none has an error, m of them are occupied, and where searches are made o is the first of
-- these that is unreachable
module _ (F : Format) (T : TableParts) (searches : Bool) where
  abbrev es : List ℕ
  es = T.entries.bytes

  abbrev ctrl : List ℕ
  ctrl = T.control

  abbrev Summary : ℕ → ℕ → Option ℕ → Type 0
  Summary n m o = IsSummary F T searches n m o

  occupied_next : (n : ℕ) → occupied_before F T (n + 1) ≡ occupied_before F T n + one (decoded_cell F es ctrl (0 + n))
  occupied_next n = let next : n + 1 ≡ suc n = omega arith in ap (occupied_before F T) next ∙ count_next (decoded_cell F es ctrl) 0 n

  -- after a free slot that has no error
  pub summary_right : (n m : ℕ) (o : Option ℕ) → Summary n m o → slot_refusal_at F es ctrl n ≡ None → counts_as_free (slice_index ctrl n) ≡ true → Summary (n + 1) m o
  summary_right n m o summary right free = record {
    passed = one_more (λ i. slot_refusal_at F es ctrl i ≡ None) n summary.passed right;
    counted = let more = occupied_next n in let none = ap one shows in omega (arith, summary.counted, more, none);
    reached = λ made fitting. go o (summary.reached made fitting);
  }
    where
      shows : decoded_cell F es ctrl (0 + n) ≡ None
      shows = let at : 0 + n ≡ n = omega arith in ap (decoded_cell F es ctrl) at ∙ (rw free refl)

      reaches : unreachable F es ctrl n ≡ None
      reaches = None-gives _ _ (ap (λ b. not b && not (is_at n (search_end F (decoded_cells F es ctrl) (slot_key F es n)))) free)

      go : (o : Option ℕ) → IsFirstUnreachable F T n o → IsFirstUnreachable F T (n + 1) o
      go None all = one_more (λ i. unreachable F es ctrl i ≡ None) n all reaches
      go (Some j) first = (omega (arith, first.0), first.1, first.2)

  -- after some of them
  pub summary_run : (d n m : ℕ) (o : Option ℕ) → Summary n m o → ((i : ℕ) → n ≤ i → i < n + d → (slot_refusal_at F es ctrl i ≡ None) × (counts_as_free (slice_index ctrl i) ≡ true)) → Summary (n + d) m o
  summary_run zero n m o summary right = let same : n ≡ n + 0 = omega arith in subst (λ k. Summary k m o) same summary
  summary_run (suc d) n m o summary right =
      let same : n + 1 + d ≡ n + suc d = omega arith in
      let here = right n (omega arith) (omega arith) in
      subst (λ k. Summary k m o) same (summary_run d (n + 1) m o (summary_right n m o summary here.0 here.1) (λ i low high. right i (omega (arith, low)) (omega (arith, high))))

  -- after an occupied one
  module _ (n m : ℕ) (o : Option ℕ) (summary : Summary n m o) (e : hashes_refusal_at F es ctrl n ≡ None) (occupied : counts_as_free (slice_index ctrl n) ≡ false) where
    occupied_passed : (i : ℕ) → i < n + 1 → slot_refusal_at F es ctrl i ≡ None
    occupied_passed = one_more (λ i. slot_refusal_at F es ctrl i ≡ None) n summary.passed (passes F T n e (bad_free_control-occupied ctrl n occupied))

    occupied_counted : m + 1 ≡ occupied_before F T (n + 1)
    occupied_counted = let more = occupied_next n in let some = ap one shows in omega (arith, summary.counted, more, some)
      where
        shows : decoded_cell F es ctrl (0 + n) ≡ Some (record { key = slot_key F es n; value = slot_value F es n })
        shows = let at : 0 + n ≡ n = omega arith in ap (decoded_cell F es ctrl) at ∙ (rw occupied refl)

    abbrev ends : Bool
    ends = is_at n (search_end F (cells_of F T) (slot_key F es n))

    -- which is reached, or is behind one that is not
    pub summary_occupied : (searches ≡ true → is_some o ≡ false → IsFitting F T → true ≡ ends) → Summary (n + 1) (m + 1) o
    summary_occupied known = record { passed = occupied_passed; counted = occupied_counted; reached = λ made fitting. go o (λ h. known made h fitting) (summary.reached made fitting) }
      where
        go : (o : Option ℕ) → (is_some o ≡ false → true ≡ ends) → IsFirstUnreachable F T n o → IsFirstUnreachable F T (n + 1) o
        go None known all = one_more (λ i. unreachable F es ctrl i ≡ None) n all (None-gives _ _ (ap (λ b. not (counts_as_free (slice_index ctrl n)) && not b) (sym (known refl)) ∙ ends_false (not (counts_as_free (slice_index ctrl n)))))
          where
            ends_false : (b : Bool) → (b && false) ≡ false
            ends_false true = refl
            ends_false false = refl
        go (Some j) known first = (omega (arith, first.0), first.1, first.2)

    -- or is the first that is not reached
    pub summary_unreachable : is_some o ≡ false → (IsFitting F T → false ≡ ends) → Summary (n + 1) (m + 1) (Some n)
    summary_unreachable none known = record { passed = occupied_passed; counted = occupied_counted; reached = λ made fitting. (omega arith, go o none (summary.reached made fitting), gives-Some _ _ (here fitting)) }
      where
        go : (o : Option ℕ) → is_some o ≡ false → IsFirstUnreachable F T n o → (i : ℕ) → i < n → unreachable F es ctrl i ≡ None
        go None h all = all
        go (Some j) h first = absurd (true≢false h)

        here : IsFitting F T → (not (counts_as_free (slice_index ctrl n)) && not ends) ≡ true
        here fitting = rw (occupied, sym (known fitting)) refl

  -- ---- at the end
  module _ (n m : ℕ) (o : Option ℕ) (summary : Summary n m o) (all : length ctrl - 16 ≡ n) where
    -- no slot has an error
    pub all_passed : slots_refusal F es ctrl ≡ None
    unfolding slots_refusal
    all_passed = None-first_slot (slot_refusal_at F es ctrl) (length ctrl - 16) (subst (λ k. (i : ℕ) → i < k → slot_refusal_at F es ctrl i ≡ None) (sym all) summary.passed)

    -- all pairs are counted
    pub all_counted : m ≡ decoded_count F T
    unfolding decoded_cells
    all_counted = summary.counted ∙ ap (occupied_before F T) (sym all)

    -- and the first unreachable slot is known
    pub all_reached : searches ≡ true → mirror_refusal ctrl ≡ None → option_map Unreachable o ≡ reach_refusal F es ctrl
    unfolding reach_refusal
    all_reached made mirror = go o (summary.reached made (record { slots = all_passed; mirror = mirror }))
      where
        go : (o : Option ℕ) → IsFirstUnreachable F T n o → option_map Unreachable o ≡ reach_refusal F es ctrl
        go None none = sym (None-first_slot (unreachable F es ctrl) (length ctrl - 16) (subst (λ k. (i : ℕ) → i < k → unreachable F es ctrl i ≡ None) (sym all) none))
        go (Some j) first = sym (first_slot-at (unreachable F es ctrl) (length ctrl - 16) j (Unreachable j) (subst (λ k. j < k) (sym all) first.0) first.1 first.2)

  -- no more are occupied than were looked at
  pub summary_few : (n m : ℕ) (o : Option ℕ) → Summary n m o → m ≤ n
  summary_few n m o summary = omega (arith, summary.counted, few n)
    where
      at_most : (c : Option Pair) → one c ≤ 1
      at_most None = omega arith
      at_most (Some p) = omega arith

      few : (n : ℕ) → occupied_before F T n ≤ n
      few zero = omega arith
      few (suc n) = let h = count_next (decoded_cell F es ctrl) 0 n in let l = at_most (decoded_cell F es ctrl (0 + n)) in omega (arith, h, l, few n)
