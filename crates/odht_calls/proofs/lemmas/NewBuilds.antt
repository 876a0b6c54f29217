-- A new table for as many pairs as are inserted: none is answered with Full, and both inserts leave the same.
use Rattle.std.proofs.Common.{inl, inr, ◌≡◌, ◌<◌, ◌≤◌, ◌+◌, ◌∙◌, ◌↔◌, ℕ, Bool, true, false, cond, sym, ap, subst, refl, List, [], ◌∷◌, Some, None, Result, Ok, Err, OnErr, IsOk, true≢false, take, length, All, arith, length-take}
use Rattle.std.specs.Prelude.{option_map, option_and_then}
use Rattle.std.specs.List.{zip}
use Rattle.std.proofs.Math.Nat.{eq-or-lt_of_le}
use Rattle.std.proofs.lemmas.Bool.{false≢true}
use Rattle.std.proofs.lemmas.List.{length-map, take_all}
use Rattle.std.proofs.lemmas.Option.{none-some}
use Rattle.std.proofs.lemmas.Slice.Zip.{length-zip}
use Rattle.odht_base.specs.Format.{Format}
use Rattle.odht_base.specs.Image.{image, image_len}
use Rattle.odht_base.specs.Insert.{run, place, grown, is_full_for, insert_owned, insert_view}
use Rattle.odht_base.specs.Load.{factor_of, slots_for, max_items, IsPercent}
use Rattle.odht_base.specs.Table.{Pair, Table, slot_count, count, empty, fresh}
use Rattle.odht_base.specs.Valid.{IsImage, IsPairOf, IsValid}
use Rattle.odht_base.proofs.lemmas.Fits.{IsSized-IsPlaced}
use Rattle.odht_base.proofs.lemmas.FreshRuns.{insert_owned-PlacesBelow, run-fits}
use Rattle.odht_base.proofs.lemmas.Image.{length-image}
use Rattle.odht_base.proofs.lemmas.Options.{and_then_some}
use Rattle.odht_base.proofs.lemmas.TableInserts.{insert_owned-IsInsert}
use Rattle.odht_base.proofs.lemmas.FreeSlots.{count-fresh, max_items-fresh, fresh-IsValid}
use Rattle.odht_base.proofs.lemmas.InsertRuns.{run-keeps, map_of-run, factor-run, count-run}
use Rattle.odht_header.specs.Coding.{Coding, encoded}
use Rattle.odht_header.specs.declared.error.Error.{Error}
use Rattle.odht_header.specs.declared.error.Error.TheVariants.{Full}
use Rattle.odht.specs.Lists.{encoded_all, IsAfterInserts, IsFreshAfterInserts, IsRefusedAt}
use Rattle.odht.proofs.lemmas.ListInserts.{fresh_inserted}
use Rattle.odht_calls.specs.Writes.{InsertAllAnswers}
use Rattle.odht_calls.proofs.lemmas.Opened.{IsAccepted-IsImage}

-- the new table of a slot count
pub fresh_empty : (n p s : ℕ) → slots_for n (factor_of p) ≡ Some s → fresh n p ≡ Some (empty s (factor_of p))
fresh_empty n p s e = ap (option_map (λ t. empty t (factor_of p))) e

-- an insert that a view takes is one of the owned table too
owned_too : (F : Format) (P Q : Table) (p : Pair) → insert_view F P p ≡ Some Q → insert_owned F P p ≡ Some Q
unfolding insert_view insert_owned
owned_too F P Q p e = go (is_full_for P p.key) e
  where
    go : (full : Bool) → cond full None (place F P p) ≡ Some Q → cond full (option_and_then (λ R. place F R p) (grown F P)) (place F P p) ≡ Some Q
    go true none = absurd (none-some Q none)
    go false placed = placed

-- and so are inserts in turn
run_owned : (F : Format) (P Q : Table) (ps : List Pair) → run (insert_view F) P ps ≡ Some Q → run (insert_owned F) P ps ≡ Some Q
run_owned F P Q [] e = e
run_owned F P Q (p ∷ ps) e =
    let t = and_then_some (λ R. run (insert_view F) R ps) (insert_view F P p) Q e in
    ap (option_and_then (λ R. run (insert_owned F) R ps)) (owned_too F P t.0 p t.1) ∙ run_owned F t.0 Q ps t.2

module _ {K V : Type 0} (c : Coding K V) (percent : ℕ) (items : List (K × V)) (P : Table) (new : fresh (length items) percent ≡ Some P) where
  long : (xs : List (K × V)) → length (encoded_all c xs) ≡ length xs
  long xs = length-map xs (λ (t : K × V). encoded c t.0 t.1)

  -- all items by the insert of a view are all by that of the owned table
  pub view_inserted : (B : List ℕ) → IsAfterInserts c.format (insert_view c.format) P (encoded_all c items) B → IsFreshAfterInserts c percent items B
  view_inserted B h = fresh_inserted c percent items B P new (record {
    table = h.table;
    runs = run_owned c.format P h.table (encoded_all c items) h.runs;
    image = h.image;
    maps = h.maps;
    stays = h.stays;
  })

  -- none is answered with Full
  pub new_inserted : (r : ℕ) (answer : Result (Unit {0}) Error) (B : List ℕ) → r ≤ length items → IsOk answer ↔ (r ≡ length items)
      → IsAfterInserts c.format (insert_view c.format) P (encoded_all c (take r items)) B → ((Q : Table) → IsImage c.format Q B → OnErr answer (IsRefusedAt c Q items r)) → IsFreshAfterInserts c percent items B
  new_inserted r (Ok t) B bound all h refused =
      view_inserted B (subst (λ (xs : List (K × V)). IsAfterInserts c.format (insert_view c.format) P (encoded_all c xs) B) (take_all r items (let e = all.0 refl in omega (arith, e))) h)
  new_inserted r (Err e) B bound all h refused =
      let full = (refused h.table h.image).full in
      let less : r < length items = (let ne : r ≡ length items → ⊥ = λ same. true≢false (sym (all.1 same)) in omega (arith, bound, ne)) in
      let some : length (encoded_all c (take r items)) ≤ r = omega (arith, long (take r items), length-take r items) in
      let start = count-fresh (length items) percent P new in
      let most = max_items-fresh (length items) percent P new in
      let stays = h.stays (omega (arith, some, less, start, most)) in
      let same : max_items (slot_count h.table) h.table.factor ≡ max_items (slot_count P) P.factor = λ i. max_items (stays.0.0 i) (stays.0.1 i) in
      absurd (omega (arith, full.0, same, stays.1, some, less, start, most))

  -- where all pairs are of the format, there is such a table
  pub new_exists : IsPercent percent → All (IsPairOf c.format) (encoded_all c items) → (B : List ℕ) × (length B ≡ image_len c.format (slot_count P)) × IsFreshAfterInserts c percent items B
  new_exists within fit =
      let F = c.format in
      let valid = fresh-IsValid (length items) percent P new F within.0 within.1 in
      let room : count P + length (encoded_all c items) ≤ max_items (slot_count P) P.factor = omega (arith, count-fresh (length items) percent P new, max_items-fresh (length items) percent P new, long items) in
      let ps = encoded_all c items in
      let insert = insert_owned F in
      let is = insert_owned-IsInsert F in
      let q = run-fits F insert (insert_owned-PlacesBelow F) P ps valid fit room in
      let kept = run-keeps F (IsValid F) insert is P q.0 ps valid fit q.1 in (
        image F q.0,
        length-image F q.0 (IsSized-IsPlaced F q.0 kept.placed) ∙ ap (image_len F) q.2,
        fresh_inserted c percent items (image F q.0) P new (record {
          table = q.0;
          runs = q.1;
          image = record { valid = kept; bytes = refl };
          maps = map_of-run F (IsValid F) insert is P q.0 ps valid fit q.1;
          stays = λ roomy. ((q.2, factor-run F (IsValid F) insert is P q.0 ps valid fit q.1), count-run F (IsValid F) insert is P q.0 ps valid fit q.1);
        }),
      )

-- what a call that inserts all pairs into the new table leaves
pub all_inserted : {K V : Type 0} (c : Coding K V) (keys : List K) (values : List V) (p : ℕ) (P : Table) → length values ≡ length keys → fresh (length (zip keys values)) p ≡ Some P → (B : List ℕ) → IsImage c.format P B
    → (m s : ℕ) (B' : List ℕ) (m' : ℕ) → InsertAllAnswers c B keys values m s B' m' → IsFreshAfterInserts c p (zip keys values) B'
all_inserted c keys values p P equal new B image m s B' m' inserts =
    let long : length (zip keys values) ≡ length keys = omega (arith, length-zip keys values, equal) in
    let opens = IsAccepted-IsImage c.format P B image in
    let bound = inserts.bound equal opens in
    let inserted = inserts.inserted P equal image in
    elim (eq-or-lt_of_le bound) [
      | inl e ↦ new_inserted c p (zip keys values) P new m' (Ok tt) B' (omega (arith, bound, long)) (λ _. omega (arith, e, long), λ _. refl) inserted (λ Q is. tt)
      | inr less ↦ new_inserted c p (zip keys values) P new m' (Err Full) B' (omega (arith, bound, long))
          (λ e. absurd (false≢true e), λ e. absurd (omega (arith, e, less, long))) inserted (λ Q is. inserts.at_maximum Q equal opens is less)
    ]
