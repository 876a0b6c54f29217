-- A list of placed and waiting slots whose placed ones are moved to its front, in their order, and whose others are
-- sorted behind them.
use Rattle.std.proofs.Common.{◌≡◌, ◌≢◌, ◌<◌, ◌≤◌, ◌+◌, ◌-◌, ◌^◌, ◌∙◌, inl, inr, ℕ, sym, ap, subst, refl, List, ◌++◌, ◌∷◌, [], length, get_or, set, take, drop, arith, All, AllPairs, IsPermutation, IsSorted}
use Rattle.std.specs.Ordering.{nat_cmp}
use Rattle.odht_raw.proofs.lemmas.Below.{All-contains, cases_lt, Contains-append_cases, Contains-get_or, Contains-permutation, get_or-drop, get_or-set_other, get_or-set_same, get_or-take, get_or_default, IsApart, IsPermutation-refl, IsPermutation-sym, IsPermutation-trans, length-append, length-drop, length-set, length-take-le, length_permutation, swap_is}
use Rattle.odht_raw.specs.Waiting.{slot_of, placed_of, AreRising}
use Rattle.odht_raw.proofs.lemmas.PlacedFirst.{waiting_of, slot_of_placed, placed_low, placed_and_waiting}
use Rattle.odht_raw.proofs.lemmas.RisingLists.{apart_moved, rising_append, rising_if_sorted}
use Rattle.odht_raw.proofs.lemmas.WaitingSlots.{slots_rise}

-- where as many are placed as there are, a list whose slots rise rises
pub all_placed : (ns : List ℕ) → length ns ≤ length (placed_of ns) → AreRising ns → AllPairs (λ a b. a < b) ns
all_placed ns many rise i j d lt l =
    omega (arith, slots_rise ns rise i j d lt l, slot_of_placed (get_or ns i d) (low i (omega (arith, lt, l))), slot_of_placed (get_or ns j d) (low j l))
  where
    none : length (waiting_of ns) ≡ 0
    none = omega (arith, many, length_permutation ns (placed_of ns ++ waiting_of ns) (placed_and_waiting ns), length-append (placed_of ns) (waiting_of ns))

    low : (k : ℕ) → k < length ns → get_or ns k d < 2 ^ 63
    low k m =
        let n = get_or ns k d in
        elim (Contains-append_cases (placed_of ns) (waiting_of ns) n (Contains-permutation ns (placed_of ns ++ waiting_of ns) n (placed_and_waiting ns) (Contains-get_or ns k d m))) [
          | inl placed ↦ All-contains (λ x. x < 2 ^ 63) (placed_of ns) n (placed_low ns) placed
          | inr waits ↦ absurd (omega (arith, none, waits.1))
        ]

-- the items before `at` of the list `old` are moved in `ns`: its first `front` items are placed, in their order, and
-- those from there to `at` wait
pub record IsParted (old ns : List ℕ) (at front : ℕ) : Type 0 where
  pub moved : IsPermutation old ns
  pub few : front ≤ at
  pub low : (k : ℕ) → k < front → get_or ns k 0 < 2 ^ 63
  pub high : (k : ℕ) → front ≤ k → k < at → 2 ^ 63 ≤ get_or ns k 0
  pub rest : (k : ℕ) → at ≤ k → get_or ns k 0 ≡ get_or old k 0
  pub rise : AreRising old → (j k : ℕ) → j < k → k < front → get_or ns j 0 < get_or ns k 0
  pub before : AreRising old → (j k : ℕ) → j < front → at ≤ k → k < length old → get_or ns j 0 < slot_of (get_or old k 0)

-- none is moved yet
pub parted_none : (old : List ℕ) → IsParted old old 0 0
parted_none old = record {
  moved = IsPermutation-refl old;
  few = omega arith;
  low = λ k l. absurd (omega (arith, l));
  high = λ k f l. absurd (omega (arith, l));
  rest = λ k l. refl;
  rise = λ r j k l f. absurd (omega (arith, f));
  before = λ r j k f l m. absurd (omega (arith, f));
}

module _ {old ns : List ℕ} {at front : ℕ} (parted : IsParted old ns at front) (l : at < length ns) where
  as_long : length ns ≡ length old
  as_long = length_permutation old ns parted.moved

  -- one that waits is left where it is
  pub parted_waiting : 2 ^ 63 ≤ get_or ns at 0 → IsParted old ns (at + 1) front
  parted_waiting waits = record {
    moved = parted.moved;
    few = omega (arith, parted.few);
    low = parted.low;
    high = λ k f m. elim (cases_lt k at) [
      | inl below ↦ parted.high k f below
      | inr past ↦ let same : at ≡ k = omega (arith, past, m) in subst (λ i. 2 ^ 63 ≤ get_or ns i 0) same waits
    ];
    rest = λ k m. parted.rest k (omega (arith, m));
    rise = parted.rise;
    before = λ r j k f m n. parted.before r j k f (omega (arith, m)) n;
  }

  -- one that is placed changes places with the first that waits
  abbrev pub exchanged : List ℕ
  exchanged = set (set ns at (get_or ns front 0)) front (get_or ns at 0)

  pub parted_placed : get_or ns at 0 < 2 ^ 63 → IsParted old exchanged (at + 1) (front + 1)
  parted_placed placed = record {
    moved = IsPermutation-trans _ _ _ parted.moved once;
    few = omega (arith, parted.few);
    low = λ k m. elim (cases_lt k front) [
      | inl below ↦ omega (arith, parted.low k below, kept k below)
      | inr past ↦ let same : front ≡ k = omega (arith, past, m) in subst (λ i. get_or exchanged i 0 < 2 ^ 63) same (omega (arith, at_front, placed))
    ];
    high = λ k f m. elim (cases_lt k at) [
      | inl below ↦ omega (arith, others k (omega (arith, f)) (omega (arith, below)), parted.high k (omega (arith, f)) below)
      | inr past ↦
          let same : at ≡ k = omega (arith, past, m) in
          subst (λ i. 2 ^ 63 ≤ get_or exchanged i 0) same (omega (arith, at_last (omega (arith, f, same)), parted.high front (omega arith) (omega (arith, f, same))))
    ];
    rest = λ k m. others k (omega (arith, m, parted.few)) (omega (arith, m)) ∙ parted.rest k (omega (arith, m));
    rise = λ r j k m f. elim (cases_lt k front) [
      | inl below ↦ omega (arith, kept j (omega (arith, m, below)), kept k below, parted.rise r j k m below)
      | inr past ↦
          let same : front ≡ k = omega (arith, past, f) in
          subst (λ i. get_or exchanged j 0 < get_or exchanged i 0) same
          (omega (arith, kept j (omega (arith, m, same)), at_front, parted.before r j at (omega (arith, m, same)) (omega arith) (omega (arith, l, as_long)), its))
    ];
    before = λ r j k f m n. elim (cases_lt j front) [
      | inl below ↦ omega (arith, kept j below, parted.before r j k below (omega (arith, m)) n)
      | inr past ↦
          let same : front ≡ j = omega (arith, past, f) in
          subst (λ i. get_or exchanged i 0 < slot_of (get_or old k 0)) same
          (omega (arith, at_front, its, slots_rise old r at k 0 (omega (arith, m)) n))
    ];
  }
    where
      inside : front < length ns
      inside = omega (arith, parted.few, l)

      once : IsPermutation ns exchanged
      once = record { moves = (at, front) ∷ []; below = (l, inside, tt); is = swap_is ns at front 0 l inside }

      at_front : get_or exchanged front 0 ≡ get_or ns at 0
      at_front = get_or-set_same (set ns at (get_or ns front 0)) front (get_or ns at 0) 0 (omega (arith, inside, length-set ns at (get_or ns front 0)))

      at_last : front < at → get_or exchanged at 0 ≡ get_or ns front 0
      at_last apart =
          get_or-set_other (set ns at (get_or ns front 0)) front at (get_or ns at 0) 0 (λ e. omega (arith, apart, e))
          ∙ get_or-set_same ns at (get_or ns front 0) 0 l

      others : (k : ℕ) → k ≢ front → k ≢ at → get_or exchanged k 0 ≡ get_or ns k 0
      others k f a =
          get_or-set_other (set ns at (get_or ns front 0)) front k (get_or ns at 0) 0 f ∙ get_or-set_other ns at k (get_or ns front 0) 0 a

      kept : (k : ℕ) → k < front → get_or exchanged k 0 ≡ get_or ns k 0
      kept k below = others k (omega (arith, below)) (omega (arith, below, parted.few))

      -- its slot is the item itself
      its : slot_of (get_or old at 0) ≡ get_or ns at 0
      its = ap slot_of (sym (parted.rest at (omega arith))) ∙ omega (arith, placed)

-- the others are sorted behind those that are placed
module _ {old ns : List ℕ} {at front : ℕ} (parted : IsParted old ns at front) (all : length ns ≤ at) (few : front ≤ length ns)
    (ss : List ℕ) (moved : IsPermutation (drop front ns) ss) (sorted : IsSorted nat_cmp ss) where
  -- they rise
  pub parted_rises : AreRising old → AllPairs (λ a b. a < b) (take front ns ++ ss)
  parted_rises r = rising_append (take front ns) ss (2 ^ 63) front_rises (rising_if_sorted ss (apart_moved _ _ moved rest_apart) sorted) front_low rest_high
    where
      size : length (take front ns) ≡ front
      size = length-take-le front ns few

      at_front : (k d : ℕ) → k < front → get_or (take front ns) k d ≡ get_or ns k 0
      at_front k d l = get_or-take front ns k d l ∙ get_or_default ns k d 0 (omega (arith, l, few))

      front_rises : AllPairs (λ a b. a < b) (take front ns)
      front_rises i j d lt l =
          let m : j < front = omega (arith, l, size) in
          omega (arith, at_front i d (omega (arith, lt, m)), at_front j d m, parted.rise r i j lt m)

      front_low : All (λ n. n < 2 ^ 63) (take front ns)
      front_low k d l = let m : k < front = omega (arith, l, size) in omega (arith, at_front k d m, parted.low k m)

      old_apart : IsApart old
      old_apart i j d lt l same = omega (arith, slots_rise old r i j d lt l, ap slot_of same)

      ns_apart : IsApart ns
      ns_apart = apart_moved old ns parted.moved old_apart

      long : length (drop front ns) ≡ length ns - front
      long = length-drop front ns

      rest_apart : IsApart (drop front ns)
      rest_apart i j d lt l same =
          ns_apart (front + i) (front + j) d (omega (arith, lt)) (omega (arith, l, long))
          (sym (get_or-drop front ns i d) ∙ same ∙ get_or-drop front ns j d)

      rest_high : All (λ n. 2 ^ 63 ≤ n) ss
      rest_high k d l =
          let h = Contains-permutation ss (drop front ns) (get_or ss k d) (IsPermutation-sym _ _ moved) (Contains-get_or ss k d l) in
          let m : front + h.0 < length ns = omega (arith, h.1, long) in
          omega (arith, h.2, get_or-drop front ns h.0 (get_or ss k d), get_or_default ns (front + h.0) (get_or ss k d) 0 m, parted.high (front + h.0) (omega arith) (omega (arith, m, all)))
