-- What `place` does to a placed table.
use Rattle.std.proofs.Common.{◌≡◌, ◌≢◌, ◌<◌, ◌≤◌, ◌+◌, ◌∙◌, ◌⊎◌, inl, inr, ℕ, Bool, true, false, true≢false, cond, sym, ap, subst, refl, List, ◌∷◌, Option, Some, None, set, arith, bytes_eq, IsPermutation, length-set, get_or-set_same, get_or-set_other}
use Rattle.std.specs.Prelude.{◌↔◌, is_none, option_map, if◌then◌else◌}
use Rattle.std.proofs.lemmas.Bool.{cases_eq, or_parts, or_from, or_cases, false_from_ne_true}
use Rattle.std.proofs.lemmas.Option.{none-some}
use Rattle.odht_base.specs.Format.{Format, home}
use Rattle.odht_base.specs.Insert.{place}
use Rattle.odht_base.specs.Load.{IsSlotCount}
use Rattle.odht_base.specs.Map.{map_of}
use Rattle.odht_base.specs.Probe.{probe_slot}
use Rattle.odht_base.specs.Search.{search_end}
use Rattle.odht_base.specs.Table.{Pair, Table, slot_count, cell_at, is_free, has_key, walk, count}
use Rattle.odht_base.specs.Valid.{IsPairOf, HoldsPair, IsReached, IsPlaced, IsFullWithout}
use Rattle.odht_base.proofs.lemmas.Counts.{count_set}
use Rattle.odht_base.proofs.lemmas.Fits.{HasPairsOf-set}
use Rattle.odht_base.proofs.lemmas.Keys.{pair_key}
use Rattle.odht_base.proofs.lemmas.Options.{some_same}
use Rattle.odht_base.proofs.lemmas.Pairs.{value_in-set, pairs-set, has_key-None, value_in-Some}
use Rattle.odht_base.proofs.lemmas.SearchEnds.{IsTarget, has_key-holds, search_end-IsTarget, search_end-None, search_end-none, target-search_end}

-- the table with the pair p in slot i
abbrev pub written : Table → ℕ → Pair → Table
written P i p = record P { cells = set P.cells i (Some p) }

module _ (F : Format) (P : Table) (p : Pair) (ok : IsPlaced F P) where
  -- a pair goes where the search for its key ends, if it does
  pub place-search_end : (o : Option ℕ) → search_end F P.cells p.key ≡ o → place F P p ≡ option_map (λ i. written P i p) o
  unfolding place
  place-search_end None e = rw (target-search_end F P p.key ok ∙ e) refl
  place-search_end (Some i) e = rw (target-search_end F P p.key ok ∙ e) refl

  -- a pair is placed where the search for its key ends
  pub place-at : (i : ℕ) → search_end F P.cells p.key ≡ Some i → place F P p ≡ Some (written P i p)
  place-at i e = place-search_end (Some i) e

  -- place answers None exactly where every slot is occupied and none has the key
  pub place-None : (place F P p ≡ None) ↔ IsFullWithout P p.key
  place-None = (λ e. full (search_end F P.cells p.key) refl e, λ all. place-search_end None (search_end-none F P p.key ok (λ i l. or_from _ _ (all i l).0 (all i l).1)))
    where
      full : (o : Option ℕ) → search_end F P.cells p.key ≡ o → place F P p ≡ None → IsFullWithout P p.key
      full None e h i l = or_parts _ _ (search_end-None F P p.key ok e i l)
      full (Some x) e h i l = absurd (none-some _ (sym h ∙ place-at x e))

  -- what is placed is one cell written, where the search ends
  pub place-written : (Q : Table) → place F P p ≡ Some Q → (i : ℕ) × IsTarget F P p.key i × (written P i p ≡ Q)
  place-written Q e = go (search_end F P.cells p.key) refl
    where
      go : (o : Option ℕ) → search_end F P.cells p.key ≡ o → (i : ℕ) × IsTarget F P p.key i × (written P i p ≡ Q)
      go None s = absurd (none-some _ (sym (place-search_end None s) ∙ e))
      go (Some i) s = (i, search_end-IsTarget F P p.key ok i s, some_same _ _ (sym (place-at i s) ∙ e))

-- the slot where a search for k ends is free exactly where the map has no k
pub is_free-target : (F : Format) (P : Table) (k : List ℕ) (i : ℕ) → IsTarget F P k i → is_free P.cells i ≡ is_none (map_of P k)
is_free-target F P k i t = go (map_of P k) refl
  where
    free : has_key k (cell_at P.cells i) ≡ false → is_free P.cells i ≡ true
    free h = elim (or_cases _ _ t.stops) [ inl f ↦ f | inr g ↦ absurd (true≢false (sym g ∙ h)) ]

    go : (o : Option (List ℕ)) → map_of P k ≡ o → is_free P.cells i ≡ is_none o
    go None e = free (has_key-None P.cells k e i)
    go (Some v) e =
        let h = value_in-Some P.cells k v e in
        let j = t.others h.0 (ap (λ x. has_key x (cell_at P.cells h.0)) h.3 ∙ has_key-holds P h.0 h.1 h.2) in
        ap is_none (ap (cell_at P.cells) (sym j) ∙ h.2)

-- the map has at an occupied slot's key that slot's value
pub map_of-holds : (F : Format) (P : Table) (i : ℕ) (p : Pair) → IsPlaced F P → HoldsPair P i p → map_of P p.key ≡ Some p.value
map_of-holds F P i p ok h = go (map_of P p.key) refl
  where
    go : (o : Option (List ℕ)) → map_of P p.key ≡ o → o ≡ Some p.value
    go None e = absurd (true≢false (sym (has_key-holds P i p h) ∙ has_key-None P.cells p.key e i))
    go (Some v) e =
        let g = value_in-Some P.cells p.key v e in
        let j = ok.distinct i g.0 p g.1 h g.2 g.3 in
        let same : p ≡ g.1 = some_same _ _ (sym h ∙ ap (cell_at P.cells) j ∙ g.2) in
        ap Some (sym g.4 ∙ sym (ap (λ (x : Pair). x.value) same))

-- ---- a placed table with a pair written where the search for its key ends
module _ (P : Table) (i : ℕ) (p : Pair) (within : i < slot_count P) where
  -- slot i holds the pair
  pub written_here : cell_at (written P i p).cells i ≡ Some p
  written_here = get_or-set_same P.cells i (Some p) None within

  -- every other slot what it held
  pub written_other : (j : ℕ) → j ≢ i → cell_at (written P i p).cells j ≡ cell_at P.cells j
  written_other j ne = get_or-set_other P.cells i j (Some p) None ne

  -- an occupied slot stays occupied
  written_occupied : (j : ℕ) → is_free P.cells j ≡ false → is_free (written P i p).cells j ≡ false
  written_occupied j f = elim (cases_eq j i) [
    | inl here ↦ ap (is_free (written P i p).cells) here ∙ ap is_none written_here
    | inr ne ↦ ap is_none (written_other j ne) ∙ f
  ]

  -- a held pair is the written one or was held
  pub written_holds : (j : ℕ) (q : Pair) → HoldsPair (written P i p) j q → ((j ≡ i) × (q ≡ p)) ⊎ HoldsPair P j q
  written_holds j q h = elim (cases_eq j i) [
    | inl here ↦ inl (here, some_same _ _ (sym h ∙ ap (cell_at (written P i p).cells) here ∙ written_here))
    | inr ne ↦ inr (sym (written_other j ne) ∙ h)
  ]

-- a slot stays reached in a table of as many slots where no occupied slot was freed
IsReached-occupied : (F : Format) (P Q : Table) (k : List ℕ) (i : ℕ) → slot_count P ≡ slot_count Q → ((j : ℕ) → is_free P.cells j ≡ false → is_free Q.cells j ≡ false) → IsReached F P k i → IsReached F Q k i
IsReached-occupied F P Q k i len occupied r =
    let at = λ (q : ℕ). ap (λ s. probe_slot (home F k s) s q) len in
    record {
      position = r.position;
      in_order = subst (λ s. r.position < s) len r.in_order;
      slot_is = sym (at r.position) ∙ r.slot_is;
      earlier_occupied = λ q l. ap (is_free Q.cells) (sym (at q)) ∙ occupied _ (r.earlier_occupied q l);
    }

-- so the table stays placed
written-IsPlaced : (F : Format) (P : Table) (i : ℕ) (p : Pair) → IsPlaced F P → IsPairOf F p → IsTarget F P p.key i → IsPlaced F (written P i p)
written-IsPlaced F P i p ok fits t =
    let len = length-set P.cells i (Some p) in
    let reached = λ (k : List ℕ) (j : ℕ). IsReached-occupied F P (written P i p) k j (sym len) (written_occupied P i p t.within) in
    record {
      slots = subst IsSlotCount (sym len) ok.slots;
      pairs = HasPairsOf-set F P.cells i p ok.pairs fits;
      distinct = λ x y q r hx hy same. distinct x y q r (written_holds P i p t.within x q hx) (written_holds P i p t.within y r hy) same;
      reached = λ x q h. elim (written_holds P i p t.within x q h) [
        | inl new ↦ subst (λ (d : Pair). IsReached F (written P i p) d.key x) (sym new.1) (subst (λ j. IsReached F (written P i p) p.key j) (sym new.0) (reached p.key i t.reached))
        | inr old ↦ reached q.key x (ok.reached x q old)
      ];
    }
  where
    -- a slot that held the key is the target
    met : (x : ℕ) (q : Pair) → HoldsPair P x q → p.key ≡ q.key → x ≡ i
    met x q h same = t.others x (pair_key p.key (cell_at P.cells x) q h same)

    distinct : (x y : ℕ) (q r : Pair) → ((x ≡ i) × (q ≡ p)) ⊎ HoldsPair P x q → ((y ≡ i) × (r ≡ p)) ⊎ HoldsPair P y r → q.key ≡ r.key → x ≡ y
    distinct x y q r (inl a) (inl b) same = a.0 ∙ sym b.0
    distinct x y q r (inl a) (inr b) same = a.0 ∙ sym (met y r b (ap (λ (d : Pair). d.key) (sym a.1) ∙ same))
    distinct x y q r (inr a) (inl b) same = met x q a (ap (λ (d : Pair). d.key) (sym b.1) ∙ sym same) ∙ sym b.0
    distinct x y q r (inr a) (inr b) same = ok.distinct x y q r a b same

module _ (F : Format) (P Q : Table) (p : Pair) (ok : IsPlaced F P) (e : place F P p ≡ Some Q) where
  -- what placing leaves is placed
  pub place-IsPlaced : IsPairOf F p → IsPlaced F Q
  place-IsPlaced fits =
      let w = place-written F P p ok Q e in
      subst (IsPlaced F) w.2 (written-IsPlaced F P w.0 p ok fits w.1)

  -- the slot count stays
  pub slot_count-place : slot_count Q ≡ slot_count P
  slot_count-place = let w = place-written F P p ok Q e in ap slot_count (sym w.2) ∙ length-set P.cells w.0 (Some p)

  -- the factor stays
  pub factor-place : Q.factor ≡ P.factor
  factor-place = let w = place-written F P p ok Q e in ap (λ (x : Table). x.factor) (sym w.2)

  -- one pair more where the key is new
  pub count-place : count Q ≡ (if is_none (map_of P p.key) then count P + 1 else count P)
  count-place =
      let w = place-written F P p ok Q e in
      ap count (sym w.2) ∙ count_set P.cells w.0 p w.1.within
      ∙ ap (λ b. cond b (count P + 1) (count P)) (is_free-target F P p.key w.0 w.1)

  -- one pair more at most
  pub count-place_le : count Q ≤ count P + 1
  count-place_le = go (is_none (map_of P p.key)) count-place
    where
      go : (b : Bool) → count Q ≡ cond b (count P + 1) (count P) → count Q ≤ count P + 1
      go true h = omega arith
      go false h = omega arith

  -- the map changes at the key alone
  pub map_of-place : (k : List ℕ) → map_of Q k ≡ (if bytes_eq k p.key then Some p.value else map_of P k)
  map_of-place k =
      let w = place-written F P p ok Q e in
      ap (λ x. map_of x k) (sym w.2)
      ∙ value_in-set P.cells w.0 p k w.1.within
      (λ j l. false_from_ne_true _ (λ h. let z = w.1.others j h in omega arith))
      w.1.stops

  -- the pair of a new key is added to the walk
  pub walk-place : map_of P p.key ≡ None → IsPermutation (walk Q) (p ∷ walk P)
  walk-place none =
      let w = place-written F P p ok Q e in
      subst (λ (x : Table). IsPermutation (walk x) (p ∷ walk P)) w.2
      (pairs-set P.cells w.0 p w.1.within (is_free-target F P p.key w.0 w.1 ∙ ap is_none none))
