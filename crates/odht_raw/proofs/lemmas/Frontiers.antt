-- The slots before a slot that waits, in the probe order of its home, a group at a time.
use Rattle.std.proofs.Common.{◌≡◌, ◌<◌, ◌≤◌, ◌+◌, ◌-◌, ◌*◌, ◌/◌, ◌%◌, ◌∙◌, inl, inr, ℕ, sym, ap, subst, List, arith, Contains}
use Rattle.odht_raw.proofs.lemmas.Below.{add-mod_right, cases_lt, mod-eq_of_lt, probe_slot-lt, sixteens}
use Rattle.odht_raw.specs.Words.{IsSlotCount, probe_slot}
use Rattle.odht_raw.specs.Waiting.{waiting, WaitsBehind, IsLeft, IsFrontier, IsUnblocked}
use Rattle.odht_raw.proofs.lemmas.KeyPositions.{behind-slot, behind-only, group_position, later_position}
use Rattle.odht_raw.proofs.lemmas.WaitingRanges.{behind_left}
use Rattle.odht_raw.proofs.lemmas.ProbeSteps.{at_home, next_group}

-- none is passed at the home
pub frontier_home : (ns : List ℕ) (m h : ℕ) → IsSlotCount (m + 1) → h < m + 1 → IsFrontier ns (m + 1) h h 0
frontier_home ns m h count low = record {
  home_within = low;
  aligned = (at_home 16 h m count (let e : 16 % 16 ≡ 0 = omega arith in e) low).aligned;
  within = count.least;
  base_is = (at_home 16 h m count (let e : 16 % 16 ≡ 0 = omega arith in e) low).slot_is;
  free = λ q l. absurd (omega (arith, l));
}

-- the slot that it is at is one of the table
pub base_low : {ns : List ℕ} {s h b p : ℕ} → IsFrontier ns s h b p → IsSlotCount s → b < s
base_low {s = s} {h = h} {p = p} f count = subst (λ x. x < s) (sym f.base_is) (probe_slot-lt h s p (let n = count.least in omega arith))

module _ {ns : List ℕ} {s h b p : ℕ} (f : IsFrontier ns s h b p) (count : IsSlotCount s) (i : ℕ) (low : i < s) (waits : Contains ns (waiting i)) where
  itself : h % s ≡ h
  itself = mod-eq_of_lt {n = h} {m = s} f.home_within

  at : b ≡ probe_slot (h % s) s p
  at = f.base_is ∙ ap (λ k. probe_slot k s p) (sym itself)

  -- how far it is behind the first slot of the group
  abbrev behind : ℕ
  behind = (i + s - b) % s

  -- the slots of the group are at the positions from p on
  position_is : (j : ℕ) → j < 16 → (b + j) % s ≡ probe_slot h s (p + j)
  position_is j l = group_position h s b p i count f.aligned f.within at low j l ∙ ap (λ k. probe_slot k s (p + j)) itself

  -- the slot is not before the group
  others : (q : ℕ) → q < p → probe_slot h s q ≡ i → ⊥
  others q l e = f.free q l (subst (λ j. Contains ns (waiting j)) (sym e) waits)

  -- where the first n slots of the group do not wait either, none of that many more positions has one that does
  free_more : (n : ℕ) → n ≤ 16 → (WaitsBehind ns s b n → ⊥) → (q : ℕ) → q < p + n → Contains ns (waiting (probe_slot h s q)) → ⊥
  free_more n few none q l w = elim (cases_lt q p) [
    | inl before ↦ f.free q before w
    | inr later ↦
        let j : ℕ = q - p in
        let sum : q ≡ p + j = omega (arith, later) in
        let is : probe_slot h s q ≡ (b + j) % s = ap (probe_slot h s) sum ∙ sym (position_is j (omega (arith, l, later, few))) in
        none (j, omega (arith, l, later), subst (λ k. Contains ns (waiting k)) is w)
  ]

  -- one of those before it in its group waits
  pub blocked : (n : ℕ) → n ≤ 16 → n ≤ behind → WaitsBehind ns s b n → IsUnblocked ns h s i → ⊥
  blocked n few near w u = elim (cases_lt (p + w.0) u.position) [
    | inl before ↦ u.free (p + w.0) before (subst (λ k. Contains ns (waiting k)) (position_is w.0 (omega (arith, w.1, few))) w.2)
    | inr not ↦ elim (cases_lt u.position p) [
      | inl early ↦ others u.position early u.slot_is
      | inr here ↦
          let j : ℕ = u.position - p in
          let sum : p + j ≡ u.position = omega (arith, here) in
          let small : j < 16 = omega (arith, not, w.1, few) in
          let is : behind ≡ j = behind-only s b i j (base_low f count) (omega (arith, small, count.least)) (position_is j small ∙ ap (probe_slot h s) sum ∙ u.slot_is) in
          omega (arith, is, near, not, w.1)
    ]
  ]

  -- none does, and the slot is in the group
  pub unblocked : behind < 16 → (WaitsBehind ns s b behind → ⊥) → IsUnblocked ns h s i
  unblocked near none = record {
    position = p + behind;
    in_order = omega (arith, near, f.within);
    slot_is = sym (position_is behind near) ∙ behind-slot s b i (base_low f count) low;
    free = free_more behind (omega (arith, near)) none;
  }

  -- it is behind the group, none of whose slots waits
  pub frontier_next : (behind < 16 → ⊥) → (WaitsBehind ns s b 16 → ⊥) → (c : ℕ) → c ≡ (b + (p + 16)) % s → IsFrontier ns s h c (p + 16)
  frontier_next far none c is = record {
    home_within = f.home_within;
    aligned = omega (arith, f.aligned);
    within =
        let later = later_position h s b p i count f.aligned f.within at low far (λ q l e. others q l (ap (λ k. probe_slot k s q) (sym itself) ∙ e)) in
        let sixteen = sixteens s count in
        omega (arith, f.aligned, sixteen.2, later.1, later.3);
    base_is =
        let whole : 16 * (p / 16) ≡ p = omega (arith, f.aligned) in
        let next : 16 * (p / 16 + 1) ≡ p + 16 = omega (arith, whole) in
        is ∙ ap (λ x. (x + (p + 16)) % s) f.base_is
        ∙ ap (λ x. (probe_slot h s x + (x + 16)) % s) (sym whole)
        ∙ next_group h s (p / 16) ∙ ap (probe_slot h s) next;
    free = free_more 16 (omega arith) none;
  }

-- ---- a slot in the first group of its home, of which those below it that wait end before m
module _ (ns : List ℕ) (m h i n : ℕ) (count : IsSlotCount (m + 1)) (left : IsLeft ns i n) (low : i < m + 1) (after : h ≤ i) (near : i - h < 16) (waits : Contains ns (waiting i)) where
  home_low : h < m + 1
  home_low = omega arith

  distance : (i + (m + 1) - h) % (m + 1) ≡ i - h
  distance =
      let turn : i + (m + 1) - h ≡ i - h + (m + 1) = omega arith in
      ap (λ x. x % (m + 1)) turn ∙ add-mod_right (i - h) (m + 1) ∙ mod-eq_of_lt {n = i - h} {m = m + 1} (omega arith)

  -- where they end at its home or before
  pub unblocked_near : n ≤ h → IsUnblocked ns h (m + 1) i
  unblocked_near ends =
      unblocked (frontier_home ns m h count home_low) count i low waits (omega (arith, distance))
      (behind_left ns (m + 1) h ((i + (m + 1) - h) % (m + 1)) i n left low ends (omega (arith, distance)))

  -- otherwise
  pub blocked_near : h < n → IsUnblocked ns h (m + 1) i → ⊥
  blocked_near ends =
      let j : ℕ = n - 1 - h in
      let is : (h + j) % (m + 1) ≡ n - 1 = (let sum : h + j ≡ n - 1 = omega arith in ap (λ x. x % (m + 1)) sum) ∙ mod-eq_of_lt {n = n - 1} {m = m + 1} (omega (arith, left.low)) in
      blocked (frontier_home ns m h count home_low) count i low waits ((i + (m + 1) - h) % (m + 1)) (omega (arith, distance)) (omega arith)
      (j, omega (arith, distance, left.low, ends), subst (λ k. Contains ns (waiting k)) (sym is) (left.last (omega arith)))
