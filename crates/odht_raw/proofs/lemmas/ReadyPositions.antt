-- When a slot is ready, by the slots that wait: no slot before it in the probe order of its key waits.
use Rattle.std.proofs.Common.{◌≡◌, ◌<◌, ◌≤◌, ◌+◌, ◌^◌, ◌%◌, ◌∙◌, ◌++◌, inl, inr, ℕ, true, false, true≢false, sym, ap, subst, refl, List, length, map, get_or, arith, All, Contains, nat_lt, lt-ltb, ltb-true, Option, None, Some, is_none}
use Rattle.odht_raw.proofs.lemmas.Below.{All-contains, All-filter, cases_lt, cases_order, Contains-append_cases, Contains-append_left, Contains-append_right, Contains-get_or, Contains-permutation, contains_filter, filter_passes, get_or-append-add, get_or-map, get_or_append_left, get_or_default, IsApart, length-append, length-map, occupied-apart, occupied-Contains, probe_slot-lt}
use Rattle.odht_raw.specs.Words.{cell_at, Format, HoldsPair, home, IsFormat, IsPartsOf, IsPlaced, IsReady, occupied, Pair, probe_slot, slot_count, slot_key, Table}
use Rattle.odht_raw.proofs.lemmas.PartCells.{slots_are, key_is}
use Rattle.odht_raw.proofs.lemmas.RisingLists.{apart_moved}
use Rattle.odht_raw.specs.Waiting.{waiting, slot_of, placed_of, AreRising, IsPending, IsUnblocked}

-- ---- items of lists
-- no number is in both halves of such a list
apart_halves : (xs ys : List ℕ) (i : ℕ) → IsApart (xs ++ ys) → Contains xs i → Contains ys i → ⊥
apart_halves xs ys i apart h g =
    apart h.0 (length xs + g.0) i (omega (arith, h.1)) (omega (arith, g.1, length-append xs ys))
    (get_or_append_left xs ys i h.0 h.1 ∙ h.2 ∙ sym (get_or-append-add xs ys g.0 i ∙ g.2))

-- ---- a list of placed and waiting slots
-- a slot that is placed in its turn is listed as itself
pub placed_listed : (ns : List ℕ) (i : ℕ) → Contains (placed_of ns) i → Contains ns i × (i < 2 ^ 63)
placed_listed ns i h =
    let low = All-contains (λ n. nat_lt n (2 ^ 63) ≡ true) (placed_of ns) i (filter_passes (λ n. nat_lt n (2 ^ 63)) ns) h in
    (All-contains (Contains ns) (placed_of ns) i (All-filter (λ n. nat_lt n (2 ^ 63)) (Contains ns) ns (λ k d l. Contains-get_or ns k d l)) h, ltb-true i (2 ^ 63) low)

-- a listed slot that does not wait is placed
placed_or_waiting : (ns : List ℕ) (i : ℕ) → All (λ n. n < 2 ^ 64) ns → Contains (map slot_of ns) i → (Contains ns (waiting i) → ⊥) → Contains (placed_of ns) i
placed_or_waiting ns i fit h none =
    let k = h.0 in
    let l : k < length ns = omega (arith, h.1, length-map ns slot_of) in
    let n = get_or ns k 0 in
    let is : slot_of n ≡ i = sym (get_or-map slot_of ns k 0 i l) ∙ h.2 in
    let here : Contains ns n = Contains-get_or ns k 0 l in
    elim (cases_lt n (2 ^ 63)) [
      | inl low ↦
          let same : n ≡ i = omega (arith, is, low) in
          subst (Contains (placed_of ns)) same (contains_filter (λ m. nat_lt m (2 ^ 63)) ns n here (lt-ltb n (2 ^ 63) low))
      | inr high ↦
          let same : n ≡ waiting i = omega (arith, is, high, fit k 0 l) in
          absurd (none (subst (Contains ns) same here))
    ]

-- a slot is not listed twice
listed_once : (ns : List ℕ) (m n : ℕ) → AreRising ns → Contains ns m → Contains ns n → slot_of m ≡ slot_of n → m ≡ n
listed_once ns m n rising h g same = elim (cases_order h.0 g.0) [
  | inl at ↦ sym h.2 ∙ ap (λ k. get_or ns k m) at ∙ get_or_default ns g.0 m n g.1 ∙ g.2
  | inr differ ↦ elim differ [
    | inl before ↦ absurd (omega (arith, below h.0 m h.1 h.2 g.0 n g.1 g.2 before, same))
    | inr after ↦ absurd (omega (arith, below g.0 n g.1 g.2 h.0 m h.1 h.2 after, same))
  ]
]
  where
    below : (k a : ℕ) → k < length ns → get_or ns k a ≡ a → (l b : ℕ) → l < length ns → get_or ns l b ≡ b → k < l → slot_of a < slot_of b
    below k a low is l b high are before =
        let first : get_or (map slot_of ns) k 0 ≡ slot_of a = get_or-map slot_of ns k a 0 low ∙ ap slot_of is in
        let second : get_or (map slot_of ns) l 0 ≡ slot_of b = get_or-map slot_of ns l b 0 high ∙ ap slot_of are in
        omega (arith, rising k l 0 before (omega (arith, high, length-map ns slot_of)), first, second)

module _ (F : Format) (P : Table) (done ns : List ℕ) (h : IsPending F P done ns) where
  -- no slot is listed twice, of those that are placed and the others
  pub pending_apart : IsApart (done ++ map slot_of ns)
  pending_apart = apart_moved (occupied P) (done ++ map slot_of ns) h.listed (occupied-apart P)

  -- a slot that waits is not placed
  pub not_placed_if_waiting : (i : ℕ) → i < 2 ^ 63 → Contains ns (waiting i) → Contains (done ++ placed_of ns) i → ⊥
  not_placed_if_waiting i low w g = elim (Contains-append_cases done (placed_of ns) i g) [
    | inl old ↦
        let listed : Contains (map slot_of ns) i =
        (w.0, omega (arith, w.1, length-map ns slot_of), (get_or-map slot_of ns w.0 (waiting i) i w.1 ∙ ap slot_of w.2) ∙ omega (arith, low)) in
        apart_halves done (map slot_of ns) i pending_apart old listed
    | inr new ↦
        let p = placed_listed ns i new in
        omega (arith, listed_once ns i (waiting i) h.rising p.0 w (omega (arith, low)))
  ]

  -- an occupied slot that does not wait is placed
  pub placed_if_not_waiting : All (λ n. n < 2 ^ 64) ns → (i : ℕ) (p : Pair) → HoldsPair P i p → (Contains ns (waiting i) → ⊥) → Contains (done ++ placed_of ns) i
  placed_if_not_waiting fit i p holds none =
      elim (Contains-append_cases done (map slot_of ns) i (Contains-permutation (occupied P) (done ++ map slot_of ns) i h.listed ((occupied-Contains P i).1 (p, holds)))) [
        | inl old ↦ Contains-append_left done (placed_of ns) i old
        | inr new ↦ Contains-append_right done (placed_of ns) i (placed_or_waiting ns i fit new none)
      ]

  module _ (ok : IsPlaced F P) (i : ℕ) (p : Pair) (holds : HoldsPair P i p) where
    -- the slot at a position of the order of its key
    abbrev slot : ℕ → ℕ
    slot q = probe_slot (home F p.key (slot_count P)) (slot_count P) q

    -- a walk through that order has met neither slot i nor one that waits
    abbrev pub Walked : ℕ → Type 0
    Walked n = (q : ℕ) → q < n → (slot q ≡ i → ⊥) × (Contains ns (waiting (slot q)) → ⊥)

    -- the positions that it has passed are occupied
    passed_occupied : (n : ℕ) → Walked n → (q : ℕ) → q < n → (d : Pair) × HoldsPair P (slot q) d
    passed_occupied n walked q l =
        let r = ok.reached i p holds in
        let late : q < r.position = elim (cases_lt q r.position) [
          | inl before ↦ before
          | inr not ↦ let low : r.position < n = omega (arith, not, l) in absurd ((walked r.position low).0 r.slot_is)
        ] in
        some (cell_at P.cells (slot q)) (r.earlier_occupied q late)
      where
        some : (c : Option Pair) → is_none c ≡ false → (d : Pair) × (c ≡ Some d)
        some None e = absurd (true≢false e)
        some (Some d) e = (d, refl)

    -- where it then meets slot i, that is ready
    pub ready_if_met : All (λ n. n < 2 ^ 64) ns → (n : ℕ) → n < slot_count P → Walked n → slot n ≡ i → IsReady F P (done ++ placed_of ns) i
    ready_if_met fit n low walked met = record {
      pair = p;
      holds = holds;
      position = n;
      in_order = low;
      slot_is = met;
      earlier_taken = λ q l. let d = passed_occupied n walked q l in placed_if_not_waiting fit (slot q) d.0 d.1 (walked q l).1;
    }

-- the same walk, as code sees it in the parts of s slots
module _ (F : Format) (f : IsFormat F) (P : Table) (es ctrl : List ℕ) (parts : IsPartsOf F P es ctrl) (s : ℕ) (long : length ctrl ≡ s + 16)
    (done ns : List ℕ) (h : IsPending F P done ns) (fit : All (λ n. n < 2 ^ 64) ns) (i : ℕ) (p : Pair) (holds : HoldsPair P i p) where
  -- the slot at a position of the order of the key in slot i
  abbrev pub probed_slot : ℕ → ℕ
  probed_slot q = probe_slot (F.hash (slot_key F es i) % s) s q

  -- is that of the pair there
  probed_is : (q : ℕ) → probed_slot q ≡ probe_slot (home F p.key (slot_count P)) (slot_count P) q
  probed_is q =
      ap (λ k. probe_slot (F.hash k % s) s q) (key_is F f P es ctrl parts i p holds)
      ∙ ap (λ n. probe_slot (F.hash p.key % n) n q) (slots_are F f P es ctrl parts s long)

  -- where none of the slots before it waits, it is ready
  pub ready_unblocked : Contains ns (waiting i) → IsUnblocked ns (F.hash (slot_key F es i) % s) s i → IsReady F P (done ++ placed_of ns) i
  ready_unblocked waits u =
      ready_if_met F P done ns h parts.placed i p holds fit u.position (omega (arith, u.in_order, slots_are F f P es ctrl parts s long))
      (λ q l. (
        λ e. u.free q l (subst (λ j. Contains ns (waiting j)) (sym (probed_is q ∙ e)) waits),
        λ w. u.free q l (subst (λ j. Contains ns (waiting j)) (sym (probed_is q)) w),
      ))
      (sym (probed_is u.position) ∙ u.slot_is)

-- and where it is ready, none of them waits
pub unblocked_if_ready : (F : Format) → IsFormat F → (P : Table) (es ctrl : List ℕ) → IsPartsOf F P es ctrl → (s : ℕ) → length ctrl ≡ s + 16 → s ≤ 2 ^ 63 → 0 < s
    → (done ns : List ℕ) → IsPending F P done ns → All (λ n. n < 2 ^ 64) ns → (i : ℕ) → IsReady F P (done ++ placed_of ns) i → IsUnblocked ns (F.hash (slot_key F es i) % s) s i
unblocked_if_ready F f P es ctrl parts s long small some done ns h fit i r =
    let is = probed_is F f P es ctrl parts s long done ns h fit i r.pair r.holds in
    record {
      position = r.position;
      in_order = omega (arith, r.in_order, slots_are F f P es ctrl parts s long);
      slot_is = is r.position ∙ r.slot_is;
      free = λ q l w. not_placed_if_waiting F P done ns h (probe_slot (F.hash (slot_key F es i) % s) s q) (omega (arith, small, probe_slot-lt (F.hash (slot_key F es i) % s) s q some)) w
          (subst (Contains (done ++ placed_of ns)) (sym (is q)) (r.earlier_taken q l));
    }
