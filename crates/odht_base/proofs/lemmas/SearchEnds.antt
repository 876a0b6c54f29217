-- Where the search for a key ends in a placed table, and that a pair with the key goes there.
use Rattle.std.proofs.Common.{◌≡◌, ◌<◌, ◌∙◌, inl, inr, ℕ, true, false, true≢false, sym, ap, subst, refl, arith, List, Option, Some, None, position, find}
use Rattle.std.proofs.lemmas.Bool.{cases_order, or_parts, or_cases, false_from_ne_true}
use Rattle.std.specs.Option.{option_or}
use Rattle.odht_base.specs.Format.{Format, home}
use Rattle.odht_base.specs.Insert.{target}
use Rattle.odht_base.specs.Probe.{probe_slot}
use Rattle.odht_base.specs.Search.{search_end, search_order, stops_at}
use Rattle.odht_base.specs.Table.{Pair, Table, slot_count, cell_at, is_free, has_key}
use Rattle.odht_base.specs.Valid.{HoldsPair, IsReached, IsPlaced}
use Rattle.odht_base.proofs.lemmas.FirstMatch.{position_is, position_none}
use Rattle.odht_base.proofs.lemmas.Keys.{key_pair, pair_key, no_key_free}
use Rattle.odht_base.proofs.lemmas.Orders.{probe_slot-lt, probe_slot-onto, find-order, find-order_none, find-order_some, find-order_all}
use Rattle.odht_base.proofs.lemmas.SlotCounts.{slots_pos}

-- a slot that holds a pair has its key
pub has_key-holds : (P : Table) (i : ℕ) (p : Pair) → HoldsPair P i p → has_key p.key (cell_at P.cells i) ≡ true
has_key-holds P i p h = pair_key p.key (cell_at P.cells i) p h refl

-- Slot i is where a search for k ends: reached, free or with the key, and no other slot has the key.
pub record IsTarget (F : Format) (P : Table) (k : List ℕ) (i : ℕ) : Type 0 where
  pub reached : IsReached F P k i
  pub within : i < slot_count P
  pub stops : stops_at P.cells k i ≡ true
  pub others : (j : ℕ) → has_key k (cell_at P.cells j) ≡ true → j ≡ i

module _ (F : Format) (P : Table) (k : List ℕ) (ok : IsPlaced F P) where
  abbrev slot_of : ℕ → ℕ
  slot_of q = probe_slot (home F k (slot_count P)) (slot_count P) q

  -- each slot with a key is reached for it
  reached_key : (j : ℕ) → has_key k (cell_at P.cells j) ≡ true → IsReached F P k j
  reached_key j h =
      let p = key_pair k (cell_at P.cells j) h in
      subst (λ (x : List ℕ). IsReached F P x j) (sym p.2) (ok.reached j p.0 p.1)

  -- one slot at most has a key
  pub has_key-one : (i j : ℕ) → has_key k (cell_at P.cells i) ≡ true → has_key k (cell_at P.cells j) ≡ true → i ≡ j
  has_key-one i j h g =
      let p = key_pair k (cell_at P.cells i) h in
      let q = key_pair k (cell_at P.cells j) g in
      ok.distinct i j p.0 q.0 p.1 q.1 (sym p.2 ∙ q.2)

  -- where a search ends is such a slot
  pub search_end-IsTarget : (i : ℕ) → search_end F P.cells k ≡ Some i → IsTarget F P k i
  unfolding search_end
  search_end-IsTarget i e =
      let f = find-order_some (stops_at P.cells k) (home F k (slot_count P)) (slot_count P) i e in
      record {
        reached = record { position = f.position; in_order = f.within; slot_is = f.slot_is; earlier_occupied = λ q l. (or_parts _ _ (f.before q l)).0 };
        within = subst (λ x. x < slot_count P) f.slot_is (probe_slot-lt (home F k (slot_count P)) (slot_count P) f.position (slots_pos (slot_count P) ok.slots));
        stops = f.passes;
        others = λ j h.
            let r = reached_key j h in
            elim (cases_order r.position f.position) [
              | inl same ↦ sym r.slot_is ∙ ap slot_of same ∙ f.slot_is
              | inr other ↦ elim other [
                | inl below ↦
                    let no = (or_parts _ _ (f.before r.position below)).1 in
                    absurd (true≢false (sym h ∙ ap (λ x. has_key k (cell_at P.cells x)) (sym r.slot_is) ∙ no))
                | inr above ↦
                    let occupied : is_free P.cells i ≡ false = ap (is_free P.cells) (sym f.slot_is) ∙ r.earlier_occupied f.position above in
                    elim (or_cases _ _ f.passes) [
                      | inl free ↦ absurd (true≢false (sym free ∙ occupied))
                      | inr here ↦ has_key-one j i h here
                    ]
              ]
            ];
      }

  -- no slot is free or has the key where a search does not end
  pub search_end-None : search_end F P.cells k ≡ None → (i : ℕ) → i < slot_count P → stops_at P.cells k i ≡ false
  unfolding search_end
  search_end-None e i l =
      let at = probe_slot-onto (home F k (slot_count P)) (slot_count P) i ok.slots l in
      subst (λ x. stops_at P.cells k x ≡ false) at.2 (find-order_all (stops_at P.cells k) (home F k (slot_count P)) (slot_count P) e at.0 at.1)

  -- a search ends nowhere where no slot is free or has the key
  pub search_end-none : ((i : ℕ) → i < slot_count P → stops_at P.cells k i ≡ false) → search_end F P.cells k ≡ None
  unfolding search_end
  search_end-none all = find-order_none (stops_at P.cells k) (home F k (slot_count P)) (slot_count P) (λ q l. all (slot_of q) (probe_slot-lt _ _ q (slots_pos (slot_count P) ok.slots)))

  -- the slot with the key is what is found among the cells
  position-key : (i : ℕ) → IsTarget F P k i → has_key k (cell_at P.cells i) ≡ true → position (has_key k) P.cells ≡ Some i
  position-key i t here =
      position_is (has_key k) P.cells i None t.within
      (λ j l. false_from_ne_true _ (λ h. let same = t.others j h in omega arith))
      here

  -- none is found where the search ends at a free slot
  position-free : (i : ℕ) → IsTarget F P k i → is_free P.cells i ≡ true → position (has_key k) P.cells ≡ None
  position-free i t free = position_none (has_key k) P.cells None (λ j l. false_from_ne_true _ (λ h.
      true≢false (sym h ∙ ap (λ x. has_key k (cell_at P.cells x)) (t.others j h) ∙ no_key_free k (cell_at P.cells i) free)))

  -- which is then the first free slot of the order
  find-free : (i : ℕ) → IsTarget F P k i → is_free P.cells i ≡ true → find (is_free P.cells) (search_order F P.cells k) ≡ Some i
  find-free i t free =
      find-order (is_free P.cells) (home F k (slot_count P)) (slot_count P) t.reached.position t.reached.in_order
      (ap (is_free P.cells) t.reached.slot_is ∙ free)
      t.reached.earlier_occupied
      ∙ ap Some t.reached.slot_is

  -- a pair with the key goes where the search ends
  pub target-search_end : target F P.cells k ≡ search_end F P.cells k
  unfolding target
  target-search_end = go (search_end F P.cells k) refl
    where
      at : (i : ℕ) → IsTarget F P k i → option_or (position (has_key k) P.cells) (find (is_free P.cells) (search_order F P.cells k)) ≡ Some i
      at i t = elim (or_cases _ _ t.stops) [
        | inl free ↦ ap (λ o. option_or o (find (is_free P.cells) (search_order F P.cells k))) (position-free i t free) ∙ find-free i t free
        | inr here ↦ ap (λ o. option_or o (find (is_free P.cells) (search_order F P.cells k))) (position-key i t here)
      ]

      go : (o : Option ℕ) → search_end F P.cells k ≡ o → option_or (position (has_key k) P.cells) (find (is_free P.cells) (search_order F P.cells k)) ≡ o
      go (Some i) e = at i (search_end-IsTarget i e)
      go None e =
          let stops = search_end-None e in
          let pos = slots_pos (slot_count P) ok.slots in
          ap (λ o. option_or o (find (is_free P.cells) (search_order F P.cells k))) (position_none (has_key k) P.cells None (λ j l. (or_parts _ _ (stops j l)).1))
          ∙ find-order_none (is_free P.cells) (home F k (slot_count P)) (slot_count P) (λ q l. (or_parts _ _ (stops (slot_of q) (probe_slot-lt _ _ q pos))).0)
