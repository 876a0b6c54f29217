-- Each table that inserts make has its occupied slots in an order in which each is ready after those before it.
use Rattle.std.proofs.Common.{◌≡◌, ◌<◌, ◌∙◌, ◌++◌, inl, inr, ℕ, false, true≢false, sym, ap, subst, refl, List, [], ◌∷◌, Option, Some, None, take, slice_index, Contains, All, length-set}
use Rattle.std.specs.Prelude.{is_none}
use Rattle.std.proofs.lemmas.Bool.{cases_eq, or_cases}
use Rattle.std.proofs.lemmas.Option.{none-some}
use Rattle.std.proofs.lemmas.List.Elements.{Contains-append_left, Contains-push}
use Rattle.odht_base.specs.Format.{Format, home}
use Rattle.odht_base.specs.Insert.{place, place_all, grown, grown_slots, run}
use Rattle.odht_base.specs.Load.{IsSlotCount}
use Rattle.odht_base.specs.Probe.{probe_slot}
use Rattle.odht_base.specs.Ready.{IsReady, IsSoFar}
use Rattle.odht_base.specs.Table.{Pair, Table, slot_count, cell_at, is_free, empty, walk}
use Rattle.odht_base.specs.Valid.{IsPairOf, HoldsPair, IsPlaced, IsValid}
use Rattle.odht_base.proofs.lemmas.DistinctKeys.{walk-IsPairOf}
use Rattle.odht_base.proofs.lemmas.Counts.{cell_at-free}
use Rattle.odht_base.proofs.lemmas.Grown.{place-IsInsert}
use Rattle.odht_base.proofs.lemmas.Keys.{key_pair}
use Rattle.odht_base.proofs.lemmas.Least.{slots_for-IsLeastSlots}
use Rattle.odht_base.proofs.lemmas.Options.{and_then_some, some_same}
use Rattle.odht_base.proofs.lemmas.Places.{written, written_here, written_other, written_holds, place-written}
use Rattle.odht_base.proofs.lemmas.TableInserts.{IsBased, IsBased-IsInsert}
use Rattle.odht_base.proofs.lemmas.FreeSlots.{empty-IsPlaced}
use Rattle.odht_base.proofs.lemmas.InsertRuns.{IsInsert, run-keeps}
use Rattle.odht_base.proofs.lemmas.SoFar.{so_far_none, so_far_push, so_far_holds}
use Rattle.odht_base.proofs.lemmas.SearchEnds.{IsTarget}

-- all occupied slots can be taken in some order
pub record IsOrdered (F : Format) (P : Table) : Type 0 where
  pub order : List ℕ
  pub so_far : IsSoFar F P order
  pub all : (i : ℕ) (p : Pair) → HoldsPair P i p → Contains order i

-- an empty table has none
pub empty-IsOrdered : (F : Format) (s f : ℕ) → IsOrdered F (empty s f)
empty-IsOrdered F s f = record { order = []; so_far = so_far_none F (empty s f); all = λ i p h. absurd (none-some p (sym (cell_at-free s i) ∙ h)) }

-- ---- one pair more
-- each slot that holds a pair of P holds one of the same key in Q, which has as many slots
record KeepsKeys (P Q : Table) : Type 0 where
  slots : slot_count P ≡ slot_count Q
  keys : (i : ℕ) (p : Pair) → HoldsPair P i p → (q : Pair) × HoldsPair Q i q × (p.key ≡ q.key)

-- so a ready slot is ready in Q
keeps_ready : (F : Format) (P Q : Table) (xs : List ℕ) (i : ℕ) → KeepsKeys P Q → IsReady F P xs i → IsReady F Q xs i
keeps_ready F P Q xs i keep r =
    let q = keep.keys i r.pair r.holds in
    let at = λ (n : ℕ). ap (λ k. probe_slot (home F k (slot_count P)) (slot_count P) n) (sym q.2) in
    let same = λ (n : ℕ). ap (λ s. probe_slot (home F q.0.key s) s n) (sym keep.slots) ∙ at n in
    record {
      pair = q.0;
      holds = q.1;
      position = r.position;
      in_order = subst (λ s. r.position < s) keep.slots r.in_order;
      slot_is = same r.position ∙ r.slot_is;
      earlier_taken = λ n l. subst (Contains xs) (sym (same n)) (r.earlier_taken n l);
    }

-- and so are slots taken so far
keeps_so_far : (F : Format) (P Q : Table) (xs : List ℕ) → KeepsKeys P Q → IsSoFar F P xs → IsSoFar F Q xs
keeps_so_far F P Q xs keep s = record { apart = s.apart; ready = λ n l. keeps_ready F P Q (take n xs) (slice_index xs n) keep (s.ready n l) }

module _ (F : Format) (P : Table) (i : ℕ) (p : Pair) (t : IsTarget F P p.key i) where
  -- the table with the pair in its target
  abbrev Q : Table
  Q = written P i p

  -- a slot that holds a pair holds one of the same key with it
  keeps_keys : KeepsKeys P Q
  keeps_keys = record {
    slots = sym (length-set P.cells i (Some p));
    keys = λ j q h. elim (cases_eq j i) [
      | inl here ↦ (p, ap (cell_at Q.cells) here ∙ written_here P i p t.within, at_target q (sym (ap (cell_at P.cells) here) ∙ h))
      | inr ne ↦ (q, written_other P i p t.within j ne ∙ h, refl)
    ];
  }
    where
      -- the target holds no other key
      at_target : (q : Pair) → HoldsPair P i q → q.key ≡ p.key
      at_target q h = elim (or_cases _ _ t.stops) [
        | inl free ↦ absurd (true≢false (sym free ∙ ap is_none h))
        | inr here ↦ let d = key_pair p.key (cell_at P.cells i) here in ap (λ (x : Pair). x.key) (some_same _ _ (sym h ∙ d.1)) ∙ sym d.2
      ]

  -- the order stays where the slot was occupied, and has the slot at its end where it was free
  written-IsOrdered : IsOrdered F P → IsOrdered F Q
  written-IsOrdered o = go (cell_at P.cells i) refl
    where
      old : IsSoFar F Q o.order
      old = keeps_so_far F P Q o.order keeps_keys o.so_far

      -- each earlier position of the key's order is taken
      ready : IsReady F Q o.order i
      ready =
          let r = t.reached in
          let same = λ (n : ℕ). ap (λ s. probe_slot (home F p.key s) s n) (sym keeps_keys.slots) in
          record {
            pair = p;
            holds = written_here P i p t.within;
            position = r.position;
            in_order = subst (λ s. r.position < s) keeps_keys.slots r.in_order;
            slot_is = same r.position ∙ r.slot_is;
            earlier_taken = λ n l. subst (Contains o.order) (sym (same n)) (taken _ (r.earlier_occupied n l));
          }
        where
          held : (c : Option Pair) → is_none c ≡ false → (d : Pair) × (c ≡ Some d)
          held None e = absurd (true≢false e)
          held (Some d) e = (d, refl)

          taken : (j : ℕ) → is_free P.cells j ≡ false → Contains o.order j
          taken j f = let d = held (cell_at P.cells j) f in o.all j d.0 d.1

      go : (c : Option Pair) → cell_at P.cells i ≡ c → IsOrdered F Q
      go (Some d) e = record {
        order = o.order;
        so_far = old;
        all = λ j q h. elim (written_holds P i p t.within j q h) [ inl new ↦ subst (Contains o.order) (sym new.0) (o.all i d e) | inr was ↦ o.all j q was ];
      }
      go None e = record {
        order = o.order ++ i ∷ [];
        so_far = so_far_push F Q o.order i old (λ h. let d = so_far_holds F P o.order o.so_far i h in none-some d.0 (sym e ∙ d.1)) ready;
        all = λ j q h. elim (written_holds P i p t.within j q h) [
          | inl new ↦ subst (Contains (o.order ++ i ∷ [])) (sym new.0) (Contains-push o.order i)
          | inr was ↦ Contains-append_left o.order (i ∷ []) j (o.all j q was)
        ];
      }

-- so a placed pair leaves an order
pub place-IsOrdered : (F : Format) (P Q : Table) (p : Pair) → IsPlaced F P → place F P p ≡ Some Q → IsOrdered F P → IsOrdered F Q
place-IsOrdered F P Q p ok e o = let w = place-written F P p ok Q e in subst (IsOrdered F) w.2 (written-IsOrdered F P w.0 p w.1 o)

-- ---- inserts in turn
-- an insert that keeps a property J of tables with I keeps both
with_more : (F : Format) (I J : Table → Type 0) (insert : Table → Pair → Option Table) → IsInsert F I insert → ((P Q : Table) (p : Pair) → I P → insert P p ≡ Some Q → J P → J Q) → IsInsert F (λ P. I P × J P) insert
with_more F I J insert is keeps = record {
  keeps = λ P Q p both fit e. (is.keeps P Q p both.0 fit e, keeps P Q p both.0 e both.1);
  factor = λ P Q p both. is.factor P Q p both.0;
  counts = λ P Q p both. is.counts P Q p both.0;
  maps = λ P Q p both. is.maps P Q p both.0;
}

-- pairs placed in turn in an empty table leave an order
pub place_all-IsOrdered : (F : Format) (s f : ℕ) (Q : Table) (ps : List Pair) → IsSlotCount s → All (IsPairOf F) ps → place_all F (empty s f) ps ≡ Some Q → IsOrdered F Q
place_all-IsOrdered F s f Q ps count fit e =
    let is = with_more F (IsPlaced F) (IsOrdered F) (place F) (place-IsInsert F) (place-IsOrdered F) in
    (run-keeps F (λ R. IsPlaced F R × IsOrdered F R) (place F) is (empty s f) Q ps (empty-IsPlaced s f F count, empty-IsOrdered F s f) fit e).1

-- so does a growth, which places them in slot order
grown-IsOrdered : (F : Format) (P Q : Table) → IsValid F P → grown F P ≡ Some Q → IsOrdered F Q
unfolding grown
grown-IsOrdered F P Q ok e =
    let t = and_then_some (λ s. place_all F (empty s P.factor) (walk P)) (grown_slots P) Q e in
    place_all-IsOrdered F t.0 P.factor Q (walk P) (slots_for-IsLeastSlots _ _ t.0 t.1).is_count (walk-IsPairOf F P ok.placed) t.2

-- an accepted insert leaves one where there was one
based-IsOrdered : (F : Format) (insert : Table → Pair → Option Table) → IsBased F insert → (P Q : Table) (p : Pair) → IsValid F P → insert P p ≡ Some Q → IsOrdered F P → IsOrdered F Q
based-IsOrdered F insert based P Q p ok e o =
    let b = based P Q p ok e in
    place-IsOrdered F b.0 Q p b.1.valid.placed b.3 (elim b.1.is [ inl same ↦ subst (IsOrdered F) (sym same) o | inr grew ↦ grown-IsOrdered F P b.0 ok grew ])

-- and so do inserts in turn
pub run-IsOrdered : (F : Format) (insert : Table → Pair → Option Table) → IsBased F insert → (P Q : Table) (ps : List Pair) → IsValid F P → IsOrdered F P → All (IsPairOf F) ps → run insert P ps ≡ Some Q → IsOrdered F Q
run-IsOrdered F insert based P Q ps ok o fit e =
    (run-keeps F (λ R. IsValid F R × IsOrdered F R) insert (with_more F (IsValid F) (IsOrdered F) insert (IsBased-IsInsert F insert based) (based-IsOrdered F insert based)) P Q ps (ok, o) fit e).1
