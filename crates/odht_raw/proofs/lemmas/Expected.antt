-- Where a search is expected to end: in the group at the home slot, and still after other keys were placed.
use Rattle.std.proofs.Common.{◌≡◌, ◌∙◌, ◌+◌, ◌-◌, ◌%◌, ◌<◌, ◌≤◌, ◌||◌, inl, inr, ℕ, Bool, true, false, true≢false, sym, ap, subst, refl, arith, bytes_eq, List, [], ◌∷◌, length, slice_get, slice_index, get_or, Option, Some, None, All}
use Rattle.std.specs.Prelude.{is_none, is_some, if◌then◌else◌}
use Rattle.std.specs.Option.{option_map_or}
use Rattle.odht_raw.proofs.lemmas.Below.{All-head, All-tail, and_then_some, cases_eq, dvd_of_mod-eq-zero, find-order_some, index-bytes_at, key_pair, le_of_dvd, length-bytes_at, or_from, or_parts, place-IsPlaced, place-written, search_end-at, slot_count-place_all, some_same, written, written_here, written_other}
use Rattle.odht_raw.specs.Words.{bytes_at, cell_at, counts_as_free, first_free, Format, has_key, HoldsPair, home, is_free, IsFormat, IsPairOf, IsPartsOf, IsPlaced, IsReport, IsSlotCount, Pair, place, place_all, probe_slot, search_end, slot_count, stops_at, Table, tag}
use Rattle.odht_raw.specs.SearchResults.{answer}
use Rattle.odht_raw.specs.DynParts.{AreWhole, DynParts}
use Rattle.odht_raw.specs.Expected.{IsExpected, EndsIfFree, IsAhead}
use Rattle.odht_raw.specs.Parts.{EntryBytes}
use Rattle.odht_raw.specs.SearchSteps.{IsGroupAt}
use Rattle.odht_raw.specs.declared.raw_table.search_result.Search.TheVariants.{Found, Free, Neither}
use Rattle.odht_raw.proofs.lemmas.GroupLooks.{taken-all, look_free}
use Rattle.odht_raw.proofs.lemmas.GroupSearches.{IsGroupAt-group}
use Rattle.odht_raw.proofs.lemmas.PartCells.{slots_are, byte_is}
use Rattle.odht_raw.proofs.lemmas.ProbeSteps.{at_home}

-- ---- at the home slot
-- a group search's size
pub size_fits : (g : ℕ) → 16 % g ≡ 0 → g ≤ 16
size_fits g e = le_of_dvd (omega arith) (dvd_of_mod-eq-zero g e)

-- without a first match there is none
pub no_match : (xs : List ℕ) (o : Option ℕ) (b : Bool) → o ≡ slice_get xs 0 → b ≡ is_some o → b ≡ false → None ≡ slice_get xs 0
no_match xs None b e is none = e
no_match xs (Some x) b e is none = absurd (true≢false (sym is ∙ none))

-- the first position of the order
first_position : (b s : ℕ) → IsSlotCount s → probe_slot (b % s) s 0 ≡ b % s
first_position b s count =
    let few = count.least in
    let same : s ≡ s - 1 + 1 = omega arith in
    ap (λ n. probe_slot (b % s) n 0) same ∙ sym (at_home 16 (b % s) (s - 1) (subst IsSlotCount same count) refl (omega arith)).slot_is

module _ (F : Format) (P : Table) (es ctrl k : List ℕ) (f : IsFormat F) (h : IsPartsOf F P es ctrl) (count : IsSlotCount (length ctrl - 16)) where
  abbrev stored : EntryBytes
  stored = record { slots = length ctrl - 16; bytes = es }

  mirrored : length ctrl ≡ length ctrl - 16 + 16
  mirrored = let few = count.least in omega arith

  -- a search begins at the first bytes of the group at the home slot
  group_at_home : (n : ℕ) → n ≤ 16 → IsGroupAt F P stored k 0 (home F k (length ctrl - 16)) (bytes_at ctrl (home F k (length ctrl - 16)) n)
  group_at_home n l =
      let b : ℕ = home F k (length ctrl - 16) in
      let few = count.least in
      let s = IsGroupAt-group F P stored ctrl k f h mirrored 0 b refl (omega arith) (sym (first_position (F.hash k) (length ctrl - 16) count)) (λ q low. absurd (omega arith)) in
      let low : b < length ctrl - 16 = omega arith in
      let long : length (bytes_at ctrl b n) ≡ n = length-bytes_at ctrl b n (omega arith) in
      let sixteen : length (bytes_at ctrl b 16) ≡ 16 = length-bytes_at ctrl b 16 (omega arith) in
      record {
        placed = s.placed;
        slots = s.slots;
        entries_are = s.entries_are;
        passed = s.passed;
        within = omega (arith, s.within, long, sixteen);
        slots_are = λ i lt. s.slots_are i (omega (arith, lt, long, sixteen));
        bytes_are = λ i lt.
            index-bytes_at ctrl b n i (omega (arith, lt, long)) ∙ sym (index-bytes_at ctrl b 16 i (omega (arith, lt, long))) ∙ s.bytes_are i (omega (arith, lt, long, sixteen));
      }

  -- without a match, the first free byte there ends the search
  pub home_free : (n i : ℕ) (xs : List ℕ) → n ≤ 16 → IsReport (bytes_at ctrl (home F k (length ctrl - 16)) n) (tag F k) xs → None ≡ slice_get xs 0
      → first_free (bytes_at ctrl (home F k (length ctrl - 16)) n) ≡ Some i → Free ((home F k (length ctrl - 16) + i) % (length ctrl - 16)) ≡ answer F P.cells k
  home_free n i xs l report none e =
      (look_free F P stored k 0 (home F k (length ctrl - 16)) _ f (group_at_home n l) xs report
      (λ j c same. taken-all xs xs (λ x. ⊥) (record { part = λ x m. m; others = λ x m. inl m }) none j c) i e).0

  -- the slot count is no slot
  pub no_slot : IsExpected F P k (length ctrl - 16)
  no_slot l = let same = slots_are F f P es ctrl h (length ctrl - 16) mirrored in absurd (omega arith)

  -- a slot whose control byte counts as free is free
  pub ends_here : (i : ℕ) → i < length ctrl - 16 → counts_as_free (slice_index ctrl i) ≡ true → EndsIfFree F P k i → Free i ≡ answer F P.cells k
  ends_here i l free ends =
      let same = slots_are F f P es ctrl h (length ctrl - 16) mirrored in
      let low : i < slot_count P = omega arith in
      ends low (sym (byte_is F f P es ctrl h i low) ∙ free)

-- ---- after other keys
-- the pairs of P are in the same slots of Q by their keys, whatever their values
abbrev pub IsKeptIn : Table → Table → Type 0
IsKeptIn P Q = (i : ℕ) (p : Pair) → HoldsPair P i p → (q : Pair) × HoldsPair Q i q × (q.key ≡ p.key)

module _ (F : Format) (P Q : Table) (p : Pair) (ok : IsPlaced F P) (e : place F P p ≡ Some Q) where
  -- placing a pair keeps them
  kept_place : IsKeptIn P Q
  kept_place j r h =
      let w = place-written F P p ok Q e in
      let i = w.0 in
      let into = subst (λ (x : Table). (q : Pair) × HoldsPair x j q × (q.key ≡ r.key)) w.2 in
      elim (cases_eq j i) [
        | inl here ↦
            let at : HoldsPair P i r = ap (cell_at P.cells) (sym here) ∙ h in
            into (p, ap (cell_at (written P i p).cells) here ∙ written_here P i p w.1.within, same_key (cell_at P.cells i) r at w.1.stops)
        | inr other ↦ into (r, written_other P i p w.1.within j other ∙ h, refl)
      ]
    where
      same_key : (c : Option Pair) (r : Pair) → c ≡ Some r → (is_none c || has_key p.key c) ≡ true → p.key ≡ r.key
      same_key None r is stops = absurd (true≢false (ap is_none is))
      same_key (Some x) r is stops = let q = key_pair p.key (Some x) stops in q.2 ∙ ap (λ (y : Pair). y.key) (some_same _ _ (sym q.1 ∙ is))

-- and so does placing pairs in turn
kept_run : (F : Format) (P Q : Table) (ps : List Pair) → IsPlaced F P → All (IsPairOf F) ps → place_all F P ps ≡ Some Q → IsKeptIn P Q
kept_run F P Q [] ok fit e i p h = (p, ap (λ (x : Table). cell_at x.cells i) (sym (some_same P Q e)) ∙ h, refl)
kept_run F P Q (x ∷ ps) ok fit e i p h =
    let t = and_then_some (λ R. place_all F R ps) (place F P x) Q e in
    let one = kept_place F P t.0 x ok t.1 i p h in
    let placed = place-IsPlaced F P t.0 x ok t.1 (All-head (IsPairOf F) x ps fit) in
    let rest = kept_run F t.0 Q ps placed (All-tail (IsPairOf F) x ps fit) t.2 i one.0 one.1 in
    (rest.0, rest.1, rest.2 ∙ one.2)

module _ (F : Format) (P Q : Table) (k : List ℕ) (same : slot_count Q ≡ slot_count P) (kept : IsKeptIn P Q) where
  -- a slot that a search passed in P it passes in Q
  passed_still : (j : ℕ) → stops_at P.cells k j ≡ false → stops_at Q.cells k j ≡ false
  passed_still j e = let f = or_parts _ _ e in go (cell_at P.cells j) refl f.0 f.1
    where
      go : (c : Option Pair) → cell_at P.cells j ≡ c → is_none c ≡ false → has_key k c ≡ false → stops_at Q.cells k j ≡ false
      go None is occupied other = absurd (true≢false occupied)
      go (Some p) is occupied other =
          let q = kept j p is in
          or_from _ _ (ap is_none q.1) (ap (has_key k) q.1 ∙ ap (bytes_eq k) q.2 ∙ other)

  -- so it ends at the same slot, if this is free
  ends_still : (i : ℕ) → search_end F P.cells k ≡ Some i → is_free Q.cells i ≡ true → search_end F Q.cells k ≡ Some i
  unfolding search_end
  ends_still i e free =
      let first = find-order_some (stops_at P.cells k) (home F k (slot_count P)) (slot_count P) i e in
      let at = λ (m : ℕ). ap (λ s. probe_slot (home F k s) s m) same in
      let here = at first.position ∙ first.slot_is in
      search_end-at F Q.cells k first.position (omega (arith, first.within, same))
      (λ m l. ap (stops_at Q.cells k) (at m) ∙ passed_still _ (first.before m l))
      (ap (stops_at Q.cells k) here ∙ ap (λ b. b || has_key k (cell_at Q.cells i)) free)
      ∙ ap Some here

  answer_still : (i : ℕ) → Free i ≡ answer F P.cells k → is_free Q.cells i ≡ true → Free i ≡ answer F Q.cells k
  unfolding answer
  answer_still i e free = go (search_end F P.cells k) refl e
    where
      at : (j : ℕ) (b : Bool) → search_end F P.cells k ≡ Some j → Free i ≡ (if b then Free j else Found j) → Free i ≡ option_map_or (λ x. if is_free Q.cells x then Free x else Found x) (search_end F Q.cells k) Neither
      at j true s g =
          let is : j ≡ i = cc in
          rw (ends_still i (s ∙ ap Some is) free, free) refl
      at j false s g = cc

      go : (o : Option ℕ) → search_end F P.cells k ≡ o → Free i ≡ option_map_or (λ j. if is_free P.cells j then Free j else Found j) o Neither
          → Free i ≡ option_map_or (λ x. if is_free Q.cells x then Free x else Found x) (search_end F Q.cells k) Neither
      go None s g = cc
      go (Some j) s g = at j (is_free P.cells j) s g

-- a slot expected of P ends the search in what P is after pairs are placed in turn, if it is still free
pub expected_run : (F : Format) (P Q : Table) (ps : List Pair) (k : List ℕ) (i : ℕ) → IsPlaced F P → All (IsPairOf F) ps → place_all F P ps ≡ Some Q → IsExpected F P k i → EndsIfFree F Q k i
expected_run F P Q ps k i ok fit e expected low free =
    let same = slot_count-place_all F P Q ps ok fit e in
    answer_still F P Q k same (kept_run F P Q ps ok fit e) i (expected (omega (arith, low, same))) free

-- ---- several keys
-- the numbers before n are those of their items
abbrev pub AreAheadBefore : (ℕ → Type 0) → Format → List ℕ → List (List ℕ × List ℕ) → ℕ → ℕ → List (ℕ × ℕ) → Type 0
AreAheadBefore fits F ctrl items from n ahead =
    (i : ℕ) (k v : List ℕ) → i < n → slice_get items (from + i) ≡ Some (k, v) → fits (from + i) → IsAhead F ctrl k (get_or ahead i (0, 0))

-- the control bytes have as many slots as the parts
pub whole_slots : (ml : ℕ) (S : DynParts) → AreWhole ml S → length S.parts.control - 16 ≡ S.parts.entries.slots
whole_slots ml S whole = omega (arith, whole.mirrored)
