-- Slots that are placed in their order, as long as each is near its home: then it is ready.
use Rattle.std.proofs.Common.{◌≡◌, ◌<◌, ◌≤◌, ◌+◌, ◌-◌, ◌%◌, ◌^◌, ◌∙◌, inl, inr, ℕ, zero, suc, sym, ap, subst, refl, List, [], ◌∷◌, ◌++◌, length, get_or, take, drop, arith, All, Contains, lt-ltb, le-ltb}
use Rattle.odht_raw.proofs.lemmas.Below.{All-head, All-tail, cases_lt, few_slots, get_or-take, get_or_default, length-take-le}
use Rattle.odht_raw.specs.Words.{Format, HoldsPair, IsFormat, IsPartsOf, IsReady, IsSlotCount, Pair, slot_key, Table}
use Rattle.odht_raw.specs.Parts.{TableParts}
use Rattle.odht_raw.specs.Waiting.{waiting, placed_of, IsPending, IsLeft, IsUnblocked}
use Rattle.odht_raw.proofs.lemmas.Frontiers.{unblocked_near, blocked_near}
use Rattle.odht_raw.proofs.lemmas.LeftSlots.{IsLeftBefore}
use Rattle.odht_raw.proofs.lemmas.PlacedFirst.{waiting_of, none_placed, pass_taken}
use Rattle.odht_raw.proofs.lemmas.ReadyPositions.{ready_unblocked, unblocked_if_ready}

-- ---- a slot that waits, on the parts of a table
module _ (F : Format) (f : IsFormat F) (T : TableParts) (count : IsSlotCount T.entries.slots) (long : length T.control ≡ T.entries.slots + 16) (ns : List ℕ)
    (fit : All (λ n. n < 2 ^ 64) ns) (i : ℕ) (waits : Contains ns (waiting i)) where
  abbrev s : ℕ
  s = T.entries.slots

  -- the home of its key
  abbrev home : ℕ
  home = F.hash (slot_key F T.entries.bytes i) % s

  module _ (P : Table) (done : List ℕ) (p : Pair) (parts : IsPartsOf F P T.entries.bytes T.control) (h : IsPending F P done ns) (holds : HoldsPair P i p) where
    -- it is ready exactly where none before it waits
    pub ready_if_free : IsUnblocked ns home s i → IsReady F P (done ++ placed_of ns) i
    ready_if_free u = ready_unblocked F f P T.entries.bytes T.control parts s long done ns h fit i p holds waits u

    pub free_if_ready : IsReady F P (done ++ placed_of ns) i → IsUnblocked ns home s i
    free_if_ready r =
        unblocked_if_ready F f P T.entries.bytes T.control parts s long (few_slots s count) (let n = count.least in omega arith) done ns h fit i r

    -- near its home that is so exactly where those below it that wait end before its home
    module _ (m : ℕ) (left : IsLeft ns i m) (low : i < s) (after : home ≤ i) (near : i < home + 16) where
      whole : s - 1 + 1 ≡ s
      whole = omega (arith, count.least)

      counted : IsSlotCount (s - 1 + 1)
      counted = subst IsSlotCount (sym whole) count

      pub near_ready : m ≤ home → IsReady F P (done ++ placed_of ns) i
      near_ready ends =
          ready_if_free (subst (λ n. IsUnblocked ns home n i) whole
          (unblocked_near ns (s - 1) home i m counted left (omega (arith, whole, low)) after (omega (arith, near, after)) waits ends))

      pub near_free : IsReady F P (done ++ placed_of ns) i → m ≤ home
      near_free r = elim (cases_lt home m) [
        | inl past ↦ absurd (blocked_near ns (s - 1) home i m counted left (omega (arith, whole, low)) after (omega (arith, near, after)) waits past
            (subst (λ n. IsUnblocked ns home n i) (sym whole) (free_if_ready r)))
        | inr ends ↦ ends
      ]

-- ---- a list whose first n are placed, and whose others wait
-- those that are placed are the first n, and those that wait the others
parted : (n : ℕ) (ns : List ℕ) → All (λ x. x < 2 ^ 63) (take n ns) → All (λ x. 2 ^ 63 ≤ x) (drop n ns) → (placed_of ns ≡ take n ns) × (waiting_of ns ≡ drop n ns)
parted zero ns low high = (none_placed ns high, all_wait ns high)
  where
    all_wait : (ms : List ℕ) → All (λ x. 2 ^ 63 ≤ x) ms → waiting_of ms ≡ ms
    all_wait [] w = refl
    all_wait (m ∷ ms) w = rw (le-ltb m (2 ^ 63) (All-head (λ x. 2 ^ 63 ≤ x) m ms w)) (ap (λ ys. m ∷ ys) (all_wait ms (All-tail (λ x. 2 ^ 63 ≤ x) m ms w)))
parted (suc n) [] low high = (refl, refl)
parted (suc n) (x ∷ ns) low high =
    let rest = parted n ns (All-tail (λ y. y < 2 ^ 63) x (take n ns) low) high in
    rw (lt-ltb x (2 ^ 63) (All-head (λ y. y < 2 ^ 63) x (take n ns) low)) (ap (λ ys. x ∷ ys) rest.0, rest.1)

-- where a pass has left none to wait, those before `at` are placed
front_placed : (ns : List ℕ) (at : ℕ) → at ≤ length ns → IsLeftBefore ns at 0 → All (λ x. x < 2 ^ 63) (take at ns)
front_placed ns at few left k d l =
    let here : k < at = omega (arith, l, length-take-le at ns few) in
    let is : get_or (take at ns) k d ≡ get_or ns k 0 = get_or-take at ns k d here ∙ get_or_default ns k d 0 (omega (arith, here, few)) in
    elim (cases_lt (get_or ns k 0) (2 ^ 63)) [
      | inl low ↦ omega (arith, is, low)
      | inr high ↦ absurd (omega (arith, left.below k here high, high))
    ]

-- so with these taken the others are pending
pub front_taken : (F : Format) (P : Table) (done ns : List ℕ) (at : ℕ) → at ≤ length ns → IsLeftBefore ns at 0 → All (λ x. 2 ^ 63 ≤ x) (drop at ns) → IsPending F P done ns
    → IsPending F P (done ++ take at ns) (drop at ns)
front_taken F P done ns at few left high pending =
    let is = parted at ns (front_placed ns at few left) high in
    subst (λ ys. IsPending F P (done ++ ys) (drop at ns)) is.0 (subst (IsPending F P (done ++ placed_of ns)) is.1 (pass_taken F P done ns pending))
