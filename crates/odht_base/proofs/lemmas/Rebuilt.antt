-- The pairs of slots that are each ready in turn, placed in an empty table, occupy just these slots.
use Rattle.std.proofs.Common.{◌≡◌, ◌<◌, ◌≤◌, ◌+◌, ◌∙◌, ◌++◌, inl, inr, ℕ, zero, suc, false, sym, ap, subst, refl, List, [], ◌∷◌, Option, Some, None, length, take, slice_index, arith, Contains, length-set}
use Rattle.std.specs.Prelude.{is_none, option_and_then}
use Rattle.std.specs.List.{cons_option}
use Rattle.std.proofs.lemmas.Bool.{cases_eq, or_from, or_left, false_from_ne_true}
use Rattle.std.proofs.lemmas.List.{take_all, take_more, ext_get_or}
use Rattle.std.proofs.lemmas.List.Elements.{Contains-append_left, Contains-push, Contains-push_cases, filter_map-append}
use Rattle.odht_base.specs.Format.{Format, home}
use Rattle.odht_base.specs.Insert.{place, place_all}
use Rattle.odht_base.specs.Made.{pairs_of}
use Rattle.odht_base.specs.Probe.{probe_slot}
use Rattle.odht_base.specs.Ready.{IsReady, IsSoFar}
use Rattle.odht_base.specs.Search.{search_end, stops_at}
use Rattle.odht_base.specs.Table.{Pair, Table, slot_count, empty, cell_at, has_key}
use Rattle.odht_base.specs.Valid.{HoldsPair, IsPlaced}
use Rattle.odht_base.proofs.lemmas.Counts.{cell_at-free}
use Rattle.odht_base.proofs.lemmas.Keys.{cell_at-within}
use Rattle.odht_base.proofs.lemmas.Lookups.{search_end-at}
use Rattle.odht_base.proofs.lemmas.Orders.{probe_slot-apart}
use Rattle.odht_base.proofs.lemmas.Places.{written, written_here, written_other, place-at, place-IsPlaced}
use Rattle.odht_base.proofs.lemmas.ReadySlots.{contains_or_not}
use Rattle.odht_base.proofs.lemmas.FreeSlots.{slot_count-empty, empty-IsPlaced}
use Rattle.odht_base.proofs.lemmas.InsertRuns.{run-push}
use Rattle.odht_base.proofs.lemmas.SoFar.{so_far_holds, so_far_new, Contains-take}
use Rattle.odht_base.proofs.lemmas.SearchEnds.{has_key-holds, has_key-one}

-- R is P with only the slots xs occupied
pub record IsPart (P R : Table) (xs : List ℕ) : Type 0 where
  pub factor : R.factor ≡ P.factor
  pub slots : slot_count R ≡ slot_count P
  pub taken : (i : ℕ) → Contains xs i → cell_at R.cells i ≡ cell_at P.cells i
  pub others : (i : ℕ) → (Contains xs i → ⊥) → cell_at R.cells i ≡ None

-- an empty table is the part of no slots
part_none : (P : Table) → IsPart P (empty (slot_count P) P.factor) []
part_none P = record {
  factor = refl;
  slots = slot_count-empty (slot_count P) P.factor;
  taken = λ i h. absurd (omega (arith, h.1));
  others = λ i out. cell_at-free (slot_count P) i;
}

-- with a pair of P written to its slot it is the part of one slot more
part_push : (P R : Table) (xs : List ℕ) (i : ℕ) (p : Pair) → IsPart P R xs → HoldsPair P i p → IsPart P (written R i p) (xs ++ i ∷ [])
part_push P R xs i p part holds =
    let low : i < slot_count R = omega (arith, part.slots, cell_at-within P.cells i p holds) in
    record {
      factor = part.factor;
      slots = length-set R.cells i (Some p) ∙ part.slots;
      taken = λ j h. elim (cases_eq j i) [
        | inl here ↦ ap (cell_at (written R i p).cells) here ∙ written_here R i p low ∙ sym (ap (cell_at P.cells) here ∙ holds)
        | inr ne ↦ written_other R i p low j ne ∙ elim (Contains-push_cases xs i j h) [ inl old ↦ part.taken j old | inr new ↦ absurd (ne (sym new)) ]
      ];
      others = λ j out. elim (cases_eq j i) [
        | inl here ↦ absurd (out (subst (Contains (xs ++ i ∷ [])) (sym here) (Contains-push xs i)))
        | inr ne ↦ written_other R i p low j ne ∙ part.others j (λ h. out (Contains-append_left xs (i ∷ []) j h))
      ];
    }

-- the part of all occupied slots is the table
part_all : (P R : Table) (xs : List ℕ) → IsPart P R xs → ((i : ℕ) (p : Pair) → HoldsPair P i p → Contains xs i) → R ≡ P
part_all P R xs part all = λ k. record { factor = part.factor k; cells = same k }
  where
    cell : (i : ℕ) → (c : Option Pair) → cell_at P.cells i ≡ c → cell_at R.cells i ≡ cell_at P.cells i
    cell i (Some p) e = part.taken i (all i p e)
    cell i None e = elim (contains_or_not xs i) [ inl here ↦ part.taken i here | inr out ↦ part.others i out ∙ sym e ]

    same : R.cells ≡ P.cells
    same = ext_get_or None R.cells P.cells part.slots (λ i l. cell i (cell_at P.cells i) refl)

module _ (F : Format) (P : Table) (ok : IsPlaced F P) where
  -- in the part of the slots taken so far, the pair of a ready slot goes to that slot
  ready_place : (R : Table) (xs : List ℕ) (i : ℕ) → IsPart P R xs → IsPlaced F R → ((j : ℕ) → Contains xs j → (p : Pair) × HoldsPair P j p) → (Contains xs i → ⊥) → (r : IsReady F P xs i)
      → place F R r.pair ≡ Some (written R i r.pair)
  ready_place R xs i part placed held out r = place-at F R r.pair placed i ends
    where
      -- the slot at a position of its order, in P and in R
      slot : ℕ → ℕ
      slot q = probe_slot (home F r.pair.key (slot_count P)) (slot_count P) q

      in_part : (q : ℕ) → probe_slot (home F r.pair.key (slot_count R)) (slot_count R) q ≡ slot q
      in_part q = ap (λ s. probe_slot (home F r.pair.key s) s q) part.slots

      -- an earlier position is taken, and by another key
      passed : (q : ℕ) → q < r.position → stops_at R.cells r.pair.key (slot q) ≡ false
      passed q l =
          let there = r.earlier_taken q l in
          let same = part.taken (slot q) there in
          or_from _ _ (ap is_none (same ∙ (held (slot q) there).1)) (false_from_ne_true _ (λ h.
          let one = has_key-one F P r.pair.key ok (slot q) i (sym (ap (has_key r.pair.key) same) ∙ h) (has_key-holds P i r.pair r.holds) in
          let z = probe_slot-apart (home F r.pair.key (slot_count P)) (slot_count P) q r.position ok.slots (omega (arith, r.in_order)) r.in_order (one ∙ sym r.slot_is) in
          omega arith))

      ends : search_end F R.cells r.pair.key ≡ Some i
      ends =
          search_end-at F R.cells r.pair.key r.position (omega (arith, part.slots, r.in_order))
          (λ q l. ap (stops_at R.cells r.pair.key) (in_part q) ∙ passed q l)
          (ap (stops_at R.cells r.pair.key) (in_part r.position ∙ r.slot_is) ∙ or_left _ _ (ap is_none (part.others i out)))
          ∙ ap Some (in_part r.position ∙ r.slot_is)

  -- the pairs of a list and one more slot
  pairs_push : (xs : List ℕ) (i : ℕ) (p : Pair) → HoldsPair P i p → pairs_of P (xs ++ i ∷ []) ≡ pairs_of P xs ++ p ∷ []
  pairs_push xs i p holds = filter_map-append (cell_at P.cells) xs (i ∷ []) ∙ ap (λ c. pairs_of P xs ++ cons_option c []) holds

  -- the pairs of the first n slots make the part of these
  first_make : (xs : List ℕ) → IsSoFar F P xs → (n : ℕ) → n ≤ length xs
      → (R : Table) × (place_all F (empty (slot_count P) P.factor) (pairs_of P (take n xs)) ≡ Some R) × IsPart P R (take n xs) × IsPlaced F R
  first_make xs s zero l = (empty (slot_count P) P.factor, refl, part_none P, empty-IsPlaced (slot_count P) P.factor F ok.slots)
  first_make xs s (suc n) l =
      let before = first_make xs s n (omega arith) in
      let i = slice_index xs n in
      let r = s.ready n (omega arith) in
      let more : take (suc n) xs ≡ take n xs ++ i ∷ [] = let e : suc n ≡ n + 1 = omega arith in ap (λ m. take m xs) e ∙ take_more xs n 0 (omega arith) in
      let held = λ (j : ℕ) (h : Contains (take n xs) j). so_far_holds F P xs s j (Contains-take n xs j h) in
      let one = ready_place before.0 (take n xs) i before.2 before.3 held (so_far_new F P xs s n (omega arith)) r in (
        written before.0 i r.pair,
        ap (λ ys. place_all F (empty (slot_count P) P.factor) (pairs_of P ys)) more
            ∙ ap (place_all F (empty (slot_count P) P.factor)) (pairs_push (take n xs) i r.pair r.holds)
            ∙ run-push (place F) (empty (slot_count P) P.factor) (pairs_of P (take n xs)) r.pair
            ∙ ap (option_and_then (λ Q. place F Q r.pair)) before.1
            ∙ one,
        subst (IsPart P (written before.0 i r.pair)) (sym more) (part_push P before.0 (take n xs) i r.pair before.2 r.holds),
        place-IsPlaced F before.0 (written before.0 i r.pair) r.pair before.3 one (ok.pairs i r.pair r.holds),
      )

  -- so where all occupied slots are taken, their pairs make the table
  pub so_far_gives : (xs : List ℕ) → IsSoFar F P xs → ((i : ℕ) (p : Pair) → HoldsPair P i p → Contains xs i) → place_all F (empty (slot_count P) P.factor) (pairs_of P xs) ≡ Some P
  so_far_gives xs s all =
      let made = first_make xs s (length xs) (omega arith) in
      let whole = take_all (length xs) xs (omega arith) in
      ap (λ ys. place_all F (empty (slot_count P) P.factor) (pairs_of P ys)) (sym whole) ∙ made.1
      ∙ ap Some (part_all P made.0 xs (subst (IsPart P made.0) whole made.2) all)
