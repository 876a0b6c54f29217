-- The occupied slots of a table while one pass goes through those that wait, and the list that is sorted after it.
use Rattle.std.proofs.Common.{◌≡◌, ◌<◌, ◌≤◌, ◌+◌, ◌-◌, ◌*◌, ◌^◌, ◌∙◌, inl, inr, ℕ, zero, suc, Bool, true, false, not, cond, nat_lt, sym, ap, subst, refl, List, [], ◌∷◌, ◌++◌, length, get_or, take, drop, set, map, filter, arith, All, AllPairs, Contains, IsPermutation, below_more, ltb-true, ltb-false, lt-ltb, le-ltb}
use Rattle.odht_raw.proofs.lemmas.Below.{All-drop, All-filter, All-from_get_or, All-head, All-set, All-tail, AllPairs-filter, append-nil, append_assoc, cases_order, Contains-append_cases, Contains-append_right, Contains-permutation, drop-drop, drop-set-lt, drop_at, drop_more, filter_passes, get_or-append-add, get_or-drop, get_or-map, get_or_append_left, get_or_default, IsPermutation-append_right, IsPermutation-filter_both, IsPermutation-map, IsPermutation-sym, IsPermutation-trans, length-append, length-map, length_push, map-append, map-set, mod_low, nil_from_length, occupied-Contains, set-get_or, so_far_push, stuck_if_none, take_at}
use Rattle.std.proofs.lemmas.Bool.{not-true}
use Rattle.odht_raw.specs.Words.{Format, HoldsPair, IsReady, IsSoFar, IsStuck, occupied, Pair, Table}
use Rattle.odht_raw.specs.Waiting.{slot_of, placed_of, IsWaiting, AreRising, IsPending}
use Rattle.odht_raw.proofs.lemmas.ReadyPositions.{placed_listed, pending_apart}
use Rattle.odht_raw.proofs.lemmas.WaitingSlots.{SlotsRise, slots_rise}
use Rattle.odht_raw.proofs.lemmas.RisingLists.{rising_append, rising_same}

-- ---- listed slots
-- the slots of the list that wait, as they are listed
abbrev pub waiting_of : List ℕ → List ℕ
waiting_of ns = filter (λ n. not (nat_lt n (2 ^ 63))) ns

-- the slot of an item below 2 ^ 63 is the item itself
pub slot_of_placed : (i : ℕ) → i < 2 ^ 63 → slot_of i ≡ i
slot_of_placed i l = let e : i ≡ 0 * 2 ^ 63 + i = omega arith in ap slot_of e ∙ mod_low 0 63 i l

-- and that of an item from 2 ^ 63 on is the item less 2 ^ 63
pub slot_of_waiting : (n : ℕ) → 2 ^ 63 ≤ n → n < 2 ^ 64 → slot_of n ≡ n - 2 ^ 63
slot_of_waiting n high fits =
    let e : n ≡ 1 * 2 ^ 63 + (n - 2 ^ 63) = omega (arith, high) in
    ap slot_of e ∙ mod_low 1 63 (n - 2 ^ 63) (omega (arith, high, fits))

-- an item that is written over by another with the same slot keeps the slots of the list
pub kept_slots : (ns : List ℕ) (at i : ℕ) → at < length ns → slot_of (get_or ns at 0) ≡ slot_of i → map slot_of (set ns at i) ≡ map slot_of ns
kept_slots ns at i l same = map-set slot_of ns at i ∙ ap (set (map slot_of ns) at) (sym same ∙ sym (get_or-map slot_of ns at 0 0 l)) ∙ set-get_or (map slot_of ns) at 0

-- of a list that waits none is placed
pub none_placed : (ns : List ℕ) → All (λ n. 2 ^ 63 ≤ n) ns → placed_of ns ≡ []
none_placed [] w = refl
none_placed (n ∷ ns) w = rw (le-ltb n (2 ^ 63) (All-head (λ m. 2 ^ 63 ≤ m) n ns w)) (none_placed ns (All-tail (λ m. 2 ^ 63 ≤ m) n ns w))

-- where it and all behind it wait, a slot that is placed is the last that is
pub placed_one : (ns : List ℕ) (at i : ℕ) → at < length ns → i < 2 ^ 63 → All (λ n. 2 ^ 63 ≤ n) (drop at ns) → placed_of (set ns at i) ≡ placed_of ns ++ i ∷ []
placed_one [] at i l low w = absurd (omega (arith, l))
placed_one (n ∷ ns) zero i l low w =
    rw (lt-ltb i (2 ^ 63) low, le-ltb n (2 ^ 63) (All-head (λ m. 2 ^ 63 ≤ m) n ns w), none_placed ns (All-tail (λ m. 2 ^ 63 ≤ m) n ns w)) refl
placed_one (n ∷ ns) (suc at) i l low w = go (nat_lt n (2 ^ 63)) (placed_one ns at i (omega (arith, l)) low w)
  where
    go : (b : Bool) → placed_of (set ns at i) ≡ placed_of ns ++ i ∷ [] → cond b (n ∷ placed_of (set ns at i)) (placed_of (set ns at i)) ≡ cond b (n ∷ placed_of ns) (placed_of ns) ++ i ∷ []
    go true behind = ap (λ ys. n ∷ ys) behind
    go false behind = behind

-- each that is placed is below 2 ^ 63
pub placed_low : (ns : List ℕ) → All (λ n. n < 2 ^ 63) (placed_of ns)
placed_low ns k d l = ltb-true _ _ (filter_passes (λ n. nat_lt n (2 ^ 63)) ns k d l)

-- and each that waits is not
pub waiting_high : (ns : List ℕ) → All (λ n. 2 ^ 63 ≤ n) (waiting_of ns)
waiting_high ns k d l = ltb-false _ _ (not-true _ (filter_passes (λ n. not (nat_lt n (2 ^ 63))) ns k d l))

-- ---- the order of the sorted list
-- a list whose slots rise as its items do rises
pub are_rising : (ns : List ℕ) → SlotsRise ns → AreRising ns
are_rising ns rise i j d lt l =
    let m : j < length ns = omega (arith, l, length-map ns slot_of) in
    omega (arith, rise i j 0 lt m, get_or-map slot_of ns i 0 d (omega (arith, lt, m)), get_or-map slot_of ns j 0 d m)

-- each item of a list is placed or waits
pub placed_and_waiting : (ns : List ℕ) → IsPermutation ns (placed_of ns ++ waiting_of ns)
placed_and_waiting ns = IsPermutation-filter_both (λ n. nat_lt n (2 ^ 63)) (λ n. not (nat_lt n (2 ^ 63))) (λ n. refl) ns

module _ (ns : List ℕ) (rise : AreRising ns) (fit : All (λ n. n < 2 ^ 64) ns) where
  -- those that wait rise
  waiting_rise : AllPairs (λ a b. a < b) (waiting_of ns)
  waiting_rise i j d lt l =
      let up = AllPairs-filter (λ a b. slot_of a < slot_of b) (λ n. not (nat_lt n (2 ^ 63))) ns (slots_rise ns rise) i j d lt l in
      let k : i < length (waiting_of ns) = omega (arith, lt, l) in
      let fits = All-filter (λ n. not (nat_lt n (2 ^ 63))) (λ n. n < 2 ^ 64) ns fit in
      let first = slot_of_waiting (get_or (waiting_of ns) i d) (waiting_high ns i d k) (fits i d k) in
      let second = slot_of_waiting (get_or (waiting_of ns) j d) (waiting_high ns j d l) (fits j d l) in
      omega (arith, up, first, second, waiting_high ns i d k, waiting_high ns j d l)

  -- and so do those that are placed
  placed_rise : AllPairs (λ a b. a < b) (placed_of ns)
  placed_rise i j d lt l =
      let up = AllPairs-filter (λ a b. slot_of a < slot_of b) (λ n. nat_lt n (2 ^ 63)) ns (slots_rise ns rise) i j d lt l in
      let k : i < length (placed_of ns) = omega (arith, lt, l) in
      let first = slot_of_placed (get_or (placed_of ns) i d) (placed_low ns i d k) in
      let second = slot_of_placed (get_or (placed_of ns) j d) (placed_low ns j d l) in
      omega (arith, up, first, second)

  -- in the order of its items, the list is those that are placed, and behind them those that wait
  pub placed_first : (ss : List ℕ) → IsPermutation ns ss → AllPairs (λ a b. a < b) ss → ss ≡ placed_of ns ++ waiting_of ns
  placed_first ss moved up =
      let same = IsPermutation-trans _ _ _ (IsPermutation-sym _ _ (placed_and_waiting ns)) moved in
      rising_same ss (placed_of ns ++ waiting_of ns) up
      (rising_append (placed_of ns) (waiting_of ns) (2 ^ 63) placed_rise waiting_rise (placed_low ns) (waiting_high ns))
      (λ z. Contains-permutation _ _ z (IsPermutation-sym _ _ same)) (λ z. Contains-permutation _ _ z same)

-- of those that wait each is below the slot count, where that is so for the list
pub waiting_below : (s : ℕ) (ns : List ℕ) → All (λ n. 2 ^ 63 ≤ n → n - 2 ^ 63 < s) ns → All (IsWaiting s) (waiting_of ns)
waiting_below s ns below k d l = (waiting_high ns k d l, All-filter (λ n. not (nat_lt n (2 ^ 63))) (λ n. 2 ^ 63 ≤ n → n - 2 ^ 63 < s) ns below k d l (waiting_high ns k d l))

-- ---- occupied slots of which some wait
module _ (F : Format) (P : Table) (done ns : List ℕ) (pending : IsPending F P done ns) where
  -- each slot of the list holds a pair
  pub pending_holds : (k : ℕ) → k < length ns → (p : Pair) × HoldsPair P (slot_of (get_or ns k 0)) p
  pending_holds k l =
      (occupied-Contains P (slot_of (get_or ns k 0))).0
      (Contains-permutation (done ++ map slot_of ns) (occupied P) (slot_of (get_or ns k 0)) (IsPermutation-sym _ _ pending.listed)
      (Contains-append_right done (map slot_of ns) (slot_of (get_or ns k 0)) (k, omega (arith, l, length-map ns slot_of), get_or-map slot_of ns k 0 (slot_of (get_or ns k 0)) l)))

  -- a slot that holds a pair is taken before the pass, or is in the list
  pub pending_has : (i : ℕ) (p : Pair) → HoldsPair P i p → (Contains done i → ⊥) → (k : ℕ) × (k < length ns) × (slot_of (get_or ns k 0) ≡ i)
  pending_has i p holds out = elim (Contains-append_cases done (map slot_of ns) i (Contains-permutation (occupied P) (done ++ map slot_of ns) i pending.listed ((occupied-Contains P i).1 (p, holds)))) [
    | inl taken ↦ absurd (out taken)
    | inr h ↦
        let l : h.0 < length ns = omega (arith, h.1, length-map ns slot_of) in
        (h.0, l, sym (get_or-map slot_of ns h.0 0 i l) ∙ h.2)
  ]

  -- a slot that waits is not taken
  not_taken : (at i : ℕ) → at < length ns → 2 ^ 63 ≤ get_or ns at 0 → i < 2 ^ 63 → slot_of (get_or ns at 0) ≡ i → Contains (done ++ placed_of ns) i → ⊥
  not_taken at i l waits low is h = elim (Contains-append_cases done (placed_of ns) i h) [
    | inl taken ↦
        let here : length done + at < length (done ++ map slot_of ns) = omega (arith, l, length-append done (map slot_of ns), length-map ns slot_of) in
        pending_apart F P done ns pending taken.0 (length done + at) i (omega (arith, taken.1)) here
        (get_or_append_left done (map slot_of ns) i taken.0 taken.1 ∙ taken.2 ∙ sym is ∙ sym (get_or-map slot_of ns at 0 i l) ∙ sym (get_or-append-add done (map slot_of ns) at i))
    | inr placed ↦
        let other = (placed_listed ns i placed).0 in
        let same : slot_of (get_or ns other.0 i) ≡ i = ap slot_of other.2 ∙ slot_of_placed i low in
        let item : get_or ns at i ≡ get_or ns at 0 = get_or_default ns at i 0 l in
        let at_is : slot_of (get_or ns at i) ≡ i = ap slot_of item ∙ is in
        elim (cases_order other.0 at) [
          | inl e ↦ omega (arith, waits, low, other.2, item, ap (λ k. get_or ns k i) e)
          | inr differ ↦ elim differ [
            | inl below ↦ omega (arith, slots_rise ns pending.rising other.0 at i below l, same, at_is)
            | inr above ↦ omega (arith, slots_rise ns pending.rising at other.0 i above other.1, same, at_is)
          ]
        ]
  ]

  -- it is placed, where it is ready
  pub place_one : (at i : ℕ) → at < length ns → All (λ n. 2 ^ 63 ≤ n) (drop at ns) → i < 2 ^ 63 → slot_of (get_or ns at 0) ≡ i → IsReady F P (done ++ placed_of ns) i → IsPending F P done (set ns at i)
  place_one at i l wait low is ready =
      let waits = All-head (λ n. 2 ^ 63 ≤ n) (get_or ns at 0) (drop (at + 1) ns) (subst (All (λ n. 2 ^ 63 ≤ n)) (drop_more ns at 0 l) wait) in
      let same = kept_slots ns at i l (is ∙ sym (slot_of_placed i low)) in
      let more = append_assoc done (placed_of ns) (i ∷ []) ∙ ap (λ ys. done ++ ys) (sym (placed_one ns at i l low wait)) in
      record {
        listed = subst (λ ms. IsPermutation (occupied P) (done ++ ms)) (sym same) pending.listed;
        rising = subst (AllPairs (λ a b. a < b)) (sym same) pending.rising;
        so_far = subst (IsSoFar F P) more (so_far_push F P (done ++ placed_of ns) i pending.so_far (not_taken at i l waits low is) ready);
      }

  -- after the pass those that are placed are taken, and the others wait
  pub pass_taken : IsPending F P (done ++ placed_of ns) (waiting_of ns)
  pass_taken = record {
    listed =
        let parts = IsPermutation-map slot_of ns (placed_of ns ++ waiting_of ns) (placed_and_waiting ns) in
        let is = map-append slot_of (placed_of ns) (waiting_of ns) ∙ ap (λ ys. ys ++ map slot_of (waiting_of ns)) (themselves (placed_of ns) (placed_low ns)) in
        subst (IsPermutation (occupied P)) (ap (λ ys. done ++ ys) is ∙ sym (append_assoc done (placed_of ns) (map slot_of (waiting_of ns))))
        (IsPermutation-trans _ _ _ pending.listed (IsPermutation-append_right done _ _ parts));
    rising = are_rising (waiting_of ns) (AllPairs-filter (λ a b. slot_of a < slot_of b) (λ n. not (nat_lt n (2 ^ 63))) ns (slots_rise ns pending.rising));
    so_far = subst (IsSoFar F P) (sym (append-nil _) ∙ ap (λ ys. (done ++ placed_of ns) ++ ys) (sym (none_placed (waiting_of ns) (waiting_high ns)))) pending.so_far;
  }
    where
      themselves : (ms : List ℕ) → All (λ n. n < 2 ^ 63) ms → map slot_of ms ≡ ms
      themselves [] low = refl
      themselves (m ∷ ms) low = ap (λ x. x ∷ map slot_of ms) (slot_of_placed m (All-head (λ n. n < 2 ^ 63) m ms low)) ∙ ap (λ ys. m ∷ ys) (themselves ms (All-tail (λ n. n < 2 ^ 63) m ms low))

  -- where none of the list was ready, the search is stuck
  pub stuck_if_idle : ((k : ℕ) → k < length ns → IsReady F P done (slot_of (get_or ns k 0)) → ⊥) → IsStuck F P done
  stuck_if_idle idle = stuck_if_none F P done (λ i l out r.
      let h = pending_has i r.pair r.holds out in
      idle h.0 h.1 (subst (IsReady F P done) (sym h.2) r))

-- ---- the pass, which has gone through the slots before `at`
-- each slot of the old list waits; those from `at` on still do, `placed` of the list are placed, and its slots are
-- those of the old list
pub record IsGone (s : ℕ) (old ns : List ℕ) (at placed : ℕ) : Type 0 where
  pub waited : All (IsWaiting s) old
  pub same : map slot_of ns ≡ map slot_of old
  pub rest : drop at ns ≡ drop at old
  pub counted : placed ≡ length (placed_of ns)
  pub few : placed ≤ at
  pub fit : All (λ n. n < 2 ^ 64) ns
  pub below : All (λ n. 2 ^ 63 ≤ n → n - 2 ^ 63 < s) ns

-- the list is pending, and where none is placed, none of those before `at` was ready
pub record IsPassed (F : Format) (P : Table) (done old ns : List ℕ) (at placed : ℕ) : Type 0 where
  pub pending : IsPending F P done ns
  pub idle : placed ≡ 0 → (k : ℕ) → k < at → IsReady F P done (slot_of (get_or old k 0)) → ⊥

-- before the first
pub gone_none : (s : ℕ) (old : List ℕ) → All (IsWaiting s) old → ((k : ℕ) → get_or old k 0 < 2 ^ 64) → IsGone s old old 0 0
gone_none s old wait fits = record {
  waited = wait;
  same = refl;
  rest = refl;
  counted = ap (λ ys. length ys) (sym (none_placed old (λ k d l. (wait k d l).0)));
  few = omega arith;
  fit = All-from_get_or (λ n. n < 2 ^ 64) old 0 (λ k l. fits k);
  below = λ k d l high. (wait k d l).1;
}

-- and so for a table
pub passed_none : (F : Format) (P : Table) (done old : List ℕ) → IsPending F P done old → IsPassed F P done old old 0 0
passed_none F P done old pending = record { pending = pending; idle = λ none k b r. absurd (omega (arith, b)) }

module _ {s : ℕ} {old ns : List ℕ} {at placed : ℕ} (gone : IsGone s old ns at placed) where
  -- those from `at` on wait
  pub rest_waits : All (IsWaiting s) (drop at ns)
  rest_waits = subst (All (IsWaiting s)) (sym gone.rest) (All-drop (IsWaiting s) at old gone.waited)

  -- so each is listed as one that waits
  pub rest_high : All (λ n. 2 ^ 63 ≤ n) (drop at ns)
  rest_high k d l = (rest_waits k d l).0

  -- those behind the one at `at` are the old ones
  rest_more : drop (at + 1) ns ≡ drop (at + 1) old
  rest_more = sym (drop-drop 1 at ns) ∙ ap (drop 1) gone.rest ∙ drop-drop 1 at old

  -- and so is that one
  next_old : get_or ns at 0 ≡ get_or old at 0
  next_old =
      let e : at ≡ at + 0 = omega arith in
      ap (λ k. get_or ns k 0) e ∙ sym (get_or-drop at ns 0 0) ∙ ap (λ ys. get_or ys 0 0) gone.rest ∙ get_or-drop at old 0 0 ∙ ap (λ k. get_or old k 0) (sym e)

  -- it is left
  pub gone_left : IsGone s old ns (at + 1) placed
  gone_left = record {
    waited = gone.waited;
    same = gone.same;
    rest = rest_more;
    counted = gone.counted;
    few = omega (arith, gone.few);
    fit = gone.fit;
    below = gone.below;
  }

  module _ (l : at < length ns) where
    -- it waits
    pub next_waits : IsWaiting s (get_or ns at 0)
    next_waits = All-head (IsWaiting s) (get_or ns at 0) (drop (at + 1) ns) (subst (All (IsWaiting s)) (drop_more ns at 0 l) rest_waits)

    -- the slot that it lists
    abbrev next : ℕ
    next = get_or ns at 0 - 2 ^ 63

    -- it is below 2 ^ 63
    next_low : next < 2 ^ 63
    next_low = omega (arith, gone.fit at 0 l)

    -- and the slot of what is listed
    next_is : slot_of (get_or ns at 0) ≡ next
    next_is = slot_of_waiting (get_or ns at 0) next_waits.0 (gone.fit at 0 l)

    -- it holds a pair
    pub next_holds : {F : Format} {P : Table} {done : List ℕ} → IsPending F P done ns → (p : Pair) × HoldsPair P next p
    next_holds {F} {P} {done} pending = subst (λ i. (p : Pair) × HoldsPair P i p) next_is (pending_holds F P done ns pending at l)

    -- it is placed
    pub gone_placed : IsGone s old (set ns at next) (at + 1) (placed + 1)
    gone_placed = record {
      waited = gone.waited;
      same = kept_slots ns at next l (next_is ∙ sym (slot_of_placed next next_low)) ∙ gone.same;
      rest = drop-set-lt (at + 1) ns at next (omega arith) ∙ rest_more;
      counted = omega (arith, gone.counted, length_push (placed_of ns) next, ap (λ ys. length ys) (placed_one ns at next l next_low rest_high));
      few = omega (arith, gone.few);
      fit = All-set (λ n. n < 2 ^ 64) ns at next (omega (arith, next_low)) gone.fit;
      below = All-set (λ n. 2 ^ 63 ≤ n → n - 2 ^ 63 < s) ns at next (λ high. absurd (omega (arith, high, next_low))) gone.below;
    }

    -- so are the slots that are ready
    pub passed_placed : {F : Format} {P : Table} {done : List ℕ} → IsPassed F P done old ns at placed → IsReady F P (done ++ placed_of ns) next → IsPassed F P done old (set ns at next) (at + 1) (placed + 1)
    passed_placed {F} {P} {done} passed ready = record {
      pending = place_one F P done ns passed.pending at next l rest_high next_low next_is ready;
      idle = λ none k b r. absurd (omega (arith, none));
    }

    -- and those that are not are left
    pub passed_left : {F : Format} {P : Table} {done : List ℕ} → IsPassed F P done old ns at placed → (IsReady F P (done ++ placed_of ns) next → ⊥) → IsPassed F P done old ns (at + 1) placed
    passed_left {F} {P} {done} passed not_ready = record {
      pending = passed.pending;
      idle = λ none. below_more _ _ (passed.idle none) (λ r.
          let here : slot_of (get_or old at 0) ≡ next = ap slot_of (sym next_old) ∙ next_is in
          let nothing : done ≡ done ++ placed_of ns = sym (append-nil done) ∙ ap (λ ys. done ++ ys) (sym (nil_from_length (placed_of ns) (sym gone.counted ∙ none))) in
          not_ready (subst (λ xs. IsReady F P xs next) nothing (subst (IsReady F P done) here r)));
    }

-- ---- the list that is sorted after the pass
module _ {s : ℕ} {old ns : List ℕ} {at placed : ℕ} (gone : IsGone s old ns at placed) (rise : AreRising ns) {ss : List ℕ} (moved : IsPermutation ns ss) (up : AllPairs (λ a b. a < b) ss) where
  -- its first are those that are placed
  front : take placed ss ≡ placed_of ns
  front = ap (take placed) (placed_first ns rise gone.fit ss moved up) ∙ take_at (placed_of ns) (waiting_of ns) placed (sym gone.counted)

  -- and the others those that wait
  back : drop placed ss ≡ waiting_of ns
  back = ap (drop placed) (placed_first ns rise gone.fit ss moved up) ∙ drop_at (placed_of ns) (waiting_of ns) placed (sym gone.counted)

  -- no more are placed than there are
  pub sorted_few : placed ≤ length ss
  sorted_few = omega (arith, gone.counted, ap (λ ys. length ys) (placed_first ns rise gone.fit ss moved up), length-append (placed_of ns) (waiting_of ns))

  -- the others wait
  pub sorted_waiting : All (IsWaiting s) (drop placed ss)
  sorted_waiting = subst (All (IsWaiting s)) (sym back) (waiting_below s ns gone.below)

  -- and are pending, with the first ones taken
  pub sorted_pending : {F : Format} {P : Table} {done : List ℕ} → IsPending F P done ns → IsPending F P (done ++ take placed ss) (drop placed ss)
  sorted_pending {F} {P} {done} pending =
      subst (λ ys. IsPending F P (done ++ ys) (drop placed ss)) (sym front)
      (subst (IsPending F P (done ++ placed_of ns)) (sym back) (pass_taken F P done ns pending))

-- a pass that has gone through all and placed none is stuck
pub passed_stuck : {F : Format} {P : Table} {done old ns : List ℕ} {at placed : ℕ} → IsPending F P done old → IsPassed F P done old ns at placed → length old ≤ at → placed ≡ 0 → IsStuck F P done
passed_stuck {F} {P} {done} {old} pending passed all none = stuck_if_idle F P done old pending (λ k l. passed.idle none k (omega (arith, l, all)))
