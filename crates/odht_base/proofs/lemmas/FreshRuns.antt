-- Inserts into a table that has room for them all neither grow it nor answer None.
use Rattle.std.proofs.Common.{inl, ◌≡◌, ◌<◌, ◌≤◌, ◌+◌, ◌∙◌, ℕ, sym, ap, subst, refl, List, [], ◌∷◌, Option, Some, length, arith, All}
use Rattle.std.specs.Prelude.{option_and_then}
use Rattle.std.specs.Option.{option_or}
use Rattle.std.proofs.lemmas.List.Elements.{All-head, All-tail}
use Rattle.odht_base.specs.Format.{Format}
use Rattle.odht_base.specs.Insert.{place, run, place_all, insert_owned, insert_view}
use Rattle.odht_base.specs.Load.{max_items}
use Rattle.odht_base.specs.Map.{map_of, last}
use Rattle.odht_base.specs.Table.{Pair, Table, slot_count, count, fresh}
use Rattle.odht_base.specs.Valid.{IsPairOf, IsValid}
use Rattle.odht_base.proofs.lemmas.Grown.{place_all-fits, slot_count-place_all}
use Rattle.odht_base.proofs.lemmas.Options.{option_or-none_right}
use Rattle.odht_base.proofs.lemmas.Places.{slot_count-place, factor-place, count-place_le}
use Rattle.odht_base.proofs.lemmas.TableInserts.{place-IsValid, insert_owned-takes, insert_view-takes}
use Rattle.odht_base.proofs.lemmas.FreeSlots.{max_items-lt, place-IsValid_fits, count-fresh, max_items-fresh, fresh-IsValid, map_of-fresh}
use Rattle.odht_base.proofs.lemmas.InsertRuns.{IsInsert, run-keeps, map_of-run}
use Rattle.odht_base.proofs.lemmas.SlotCounts.{slots_pos}

-- below the maximum the insert places its pair
abbrev pub PlacesBelow : Format → (Table → Pair → Option Table) → Type 0
PlacesBelow F insert = (P : Table) (p : Pair) → IsValid F P → count P < max_items (slot_count P) P.factor → insert P p ≡ place F P p

module _ (F : Format) where
  -- the owned table
  pub insert_owned-PlacesBelow : PlacesBelow F (insert_owned F)
  insert_owned-PlacesBelow P p ok l = insert_owned-takes F P p (inl l)

  -- the view
  pub insert_view-PlacesBelow : PlacesBelow F (insert_view F)
  insert_view-PlacesBelow P p ok l = insert_view-takes F P p (inl l)

module _ (F : Format) (insert : Table → Pair → Option Table) (places : PlacesBelow F insert) where
  -- where the table has room for the pairs, the inserts place them in its slots
  pub run-place_all : (P : Table) (ps : List Pair) → IsValid F P → All (IsPairOf F) ps → count P + length ps ≤ max_items (slot_count P) P.factor → run insert P ps ≡ place_all F P ps
  run-place_all P [] ok fit room = refl
  run-place_all P (p ∷ ps) ok fit room =
      let t = place-IsValid_fits F P p ok in
      let len = slot_count-place F P t.0 p ok.placed t.1 in
      let factor = factor-place F P t.0 p ok.placed t.1 in
      let more = count-place_le F P t.0 p ok.placed t.1 in
      let valid = place-IsValid F P t.0 p ok (inl (omega arith)) (All-head (IsPairOf F) p ps fit) t.1 in
      let room' : count t.0 + length ps ≤ max_items (slot_count t.0) t.0.factor =
      subst (λ n. count t.0 + length ps ≤ max_items n t.0.factor) (sym len) (subst (λ f. count t.0 + length ps ≤ max_items (slot_count P) f) (sym factor) (omega arith)) in
      ap (option_and_then (λ Q. run insert Q ps)) (places P p ok (omega arith) ∙ t.1)
      ∙ run-place_all t.0 ps valid (All-tail (IsPairOf F) p ps fit) room'
      ∙ ap (option_and_then (λ Q. place_all F Q ps)) (sym t.1)

  -- and none of them answers None
  pub run-fits : (P : Table) (ps : List Pair) → IsValid F P → All (IsPairOf F) ps → count P + length ps ≤ max_items (slot_count P) P.factor → (Q : Table) × (run insert P ps ≡ Some Q) × (slot_count Q ≡ slot_count P)
  run-fits P ps ok fit room =
      let below = max_items-lt (slot_count P) P.factor (slots_pos (slot_count P) ok.placed.slots) ok.factor_high in
      let q = place_all-fits F P ps ok.placed fit (omega arith) in
      (q.0, run-place_all P ps ok fit room ∙ q.1, slot_count-place_all F P q.0 ps ok.placed fit q.1)

-- the first n inserts into the fresh table for n items
module _ (F : Format) (insert : Table → Pair → Option Table) (is : IsInsert F (IsValid F) insert) (places : PlacesBelow F insert) where
  pub run-fresh : (n p : ℕ) (P : Table) (ps : List Pair) → 1 ≤ p → p ≤ 100 → fresh n p ≡ Some P → All (IsPairOf F) ps → length ps ≤ n
      → (Q : Table) × (run insert P ps ≡ Some Q) × (slot_count Q ≡ slot_count P) × IsValid F Q × ((k : List ℕ) → map_of Q k ≡ last ps k)
  run-fresh n p P ps low high e fit few =
      let ok = fresh-IsValid n p P e F low high in
      let q = run-fits F insert places P ps ok fit (omega (arith, count-fresh n p P e, max_items-fresh n p P e)) in (
        q.0,
        q.1,
        q.2,
        run-keeps F (IsValid F) insert is P q.0 ps ok fit q.1,
        λ k. map_of-run F (IsValid F) insert is P q.0 ps ok fit q.1 k ∙ ap (option_or (last ps k)) (map_of-fresh n p P e k) ∙ option_or-none_right (last ps k),
      )
