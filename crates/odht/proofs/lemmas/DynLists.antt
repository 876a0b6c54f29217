-- Inserts into a dynamic table, one after the other: one more.
use Rattle.std.proofs.Common.{◌≡◌, ◌∙◌, ◌++◌, ◌+◌, ℕ, sym, ap, subst, take, length, List, [], ◌∷◌, Option, Some, Result, Ok, Err, All, slice_get}
use Rattle.std.specs.Result.{result_map_both}
use Rattle.std.proofs.lemmas.List.{take_more, map-append}
use Rattle.std.proofs.lemmas.List.Elements.{All-nil, All-cons, All-append}
use Rattle.std.proofs.lemmas.Option.{get_or_from_slice_get, slice_get_within}
use Rattle.odht_base.specs.Insert.{insert_view}
use Rattle.odht_raw.specs.Words.{Coding, encoded, Error, Pair}
use Rattle.odht_base.proofs.lemmas.FreshRuns.{insert_view-PlacesBelow}
use Rattle.odht_base.proofs.lemmas.TableInserts.{insert_view-IsInsert}
use Rattle.odht_raw.specs.Frame.{IsAccepted, IsFramed}
use Rattle.odht_raw.specs.DynParts.{HasLengthsOf}
use Rattle.odht.specs.Dynamic.{DynStore, dyn_coding, dyn_format, dyn_store}
use Rattle.odht.specs.DynInserts.{IsDynInsert}
use Rattle.odht.specs.declared.dynamic.DynError.TheVariants.{Rejected}
use Rattle.odht.specs.Inserts.{IsInsertInto}
use Rattle.odht.specs.Lists.{encoded_all, IsAfterInserts, IsFramedRun}
use Rattle.odht.specs.Tables.{OfTable}
use Rattle.odht.proofs.lemmas.ListInserts.{inserted_none, inserted_more}

-- ---- what a single insert said
module _ {K V : Type 0} (c : Coding K V) (B B' : List ℕ) (k : K) (v : V) where
  -- where it was accepted
  pub dyn_accepted : (o : Option V) → IsDynInsert c B k v (Ok o) B' → (a : Option V) × OfTable c.format B (λ P. IsInsertInto c P k v (Ok a) B') × IsFramed c B k v (Ok a) B'
  dyn_accepted o h = go h.answer h.is h.insert.on_valid h.insert.on_any.frame
    where
      go : (r : Result (Option V) Error) → Ok o ≡ result_map_both (λ o. o) Rejected r → OfTable c.format B (λ P. IsInsertInto c P k v r B') → IsFramed c B k v r B'
          → (a : Option V) × OfTable c.format B (λ P. IsInsertInto c P k v (Ok a) B') × IsFramed c B k v (Ok a) B'
      go (Ok a) e valid frame = (a, valid, frame)
      go (Err x) e valid frame = absurd (let both : Ok o ≡ Err (Rejected x) = e in cc)

-- the first i + 1 items are the first i, and item i
pub take_next : {X : Type 0} (xs : List X) (i : ℕ) (x : X) → slice_get xs i ≡ Some x → take (i + 1) xs ≡ take i xs ++ x ∷ []
take_next xs i x at = take_more xs i x (slice_get_within xs i x at) ∙ ap (λ y. take i xs ++ y ∷ []) (get_or_from_slice_get xs i x x at)

-- ---- inserts in turn, all of which were accepted
pub record AreInserted {D : Type 0} (h : List ℕ → ℕ) (bytes : D → List ℕ) (holding : D → List ℕ → D) (before after : DynStore D) (items : List (List ℕ × List ℕ)) : Type 0 where
  pub fit : All (HasLengthsOf before.key_len before.value_len) (encoded_all (dyn_coding before h) items)
  pub inserted : OfTable (dyn_format before h) (bytes before.store)
      (λ P. IsAfterInserts (dyn_format before h) (insert_view (dyn_format before h)) P (encoded_all (dyn_coding before h) items) (bytes after.store))
  pub framed : IsFramedRun (dyn_coding before h) (bytes before.store) items (bytes after.store)
  pub same_store : after ≡ dyn_store before.key_len before.value_len (holding before.store (bytes after.store))
  pub accepted : IsAccepted (dyn_format after h) (bytes after.store)

module _ {D : Type 0} (h : List ℕ → ℕ) (bytes : D → List ℕ) (holding : D → List ℕ → D) where
  -- none at first
  pub none_inserted : ((s : D) → holding s (bytes s) ≡ s) → (t : DynStore D) → IsAccepted (dyn_format t h) (bytes t.store) → AreInserted h bytes holding t t []
  none_inserted held_same t accepted = record {
    fit = All-nil (HasLengthsOf t.key_len t.value_len);
    inserted = λ P is. inserted_none (dyn_format t h) (insert_view (dyn_format t h)) P (bytes t.store) is;
    framed = IsFramedRun.start;
    same_store = sym (ap (dyn_store t.key_len t.value_len) (held_same t.store));
    accepted = accepted;
  }

  -- and one more
  pub one_more : ((s : D) (a b : List ℕ) → holding (holding s a) b ≡ holding s b) → (before t t' : DynStore D) (items : List (List ℕ × List ℕ)) (k v : List ℕ) (o : Option (List ℕ))
      → AreInserted h bytes holding before t items → length k ≡ t.key_len → length v ≡ t.value_len
      → IsDynInsert (dyn_coding t h) (bytes t.store) k v (Ok o) (bytes t'.store) → t' ≡ dyn_store t.key_len t.value_len (holding t.store (bytes t'.store)) → IsAccepted (dyn_format t' h) (bytes t'.store)
      → AreInserted h bytes holding before t' (items ++ (k, v) ∷ [])
  one_more held_last before t t' items k v o so_far key value one same accepted =
      let c = dyn_coding before h in
      let F = dyn_format before h in
      let coding : dyn_coding t h ≡ c = ap (λ (s : DynStore D). dyn_coding s h) so_far.same_store in
      let here = dyn_accepted c (bytes t.store) (bytes t'.store) k v o (subst (λ (d : Coding (List ℕ) (List ℕ)). IsDynInsert d (bytes t.store) k v (Ok o) (bytes t'.store)) coding one) in
      let pairs : encoded_all c (items ++ (k, v) ∷ []) ≡ encoded_all c items ++ encoded c k v ∷ [] = map-append (λ (i : List ℕ × List ℕ). encoded c i.0 i.1) items ((k, v) ∷ []) in
      let lengths = HasLengthsOf before.key_len before.value_len in
      record {
        fit = subst (All lengths) (sym pairs)
            (All-append lengths (encoded_all c items) (encoded c k v ∷ []) so_far.fit
            (All-cons lengths (encoded c k v) [] (record { key = key ∙ ap (λ (s : DynStore D). s.key_len) so_far.same_store; value = value ∙ ap (λ (s : DynStore D). s.value_len) so_far.same_store }) (All-nil lengths)));
        inserted = λ P is. (
            let was = so_far.inserted P is in
            let into = (here.1 was.table was.image).inserted in
            subst (λ (ps : List Pair). IsAfterInserts F (insert_view F) P ps (bytes t'.store)) (sym pairs)
            (inserted_more F (insert_view F) (insert_view-IsInsert F) (insert_view-PlacesBelow F) P (encoded_all c items) (encoded c k v) (bytes t.store) (bytes t'.store) was into.table into.inserted into.image));
        framed = IsFramedRun.accepted items k v here.0 (bytes t.store) (bytes t'.store) so_far.framed here.2;
        same_store = same ∙ ap (λ (s : DynStore D). dyn_store s.key_len s.value_len (holding s.store (bytes t'.store))) so_far.same_store
            ∙ ap (dyn_store before.key_len before.value_len) (held_last before.store (bytes t.store) (bytes t'.store));
        accepted = accepted;
      }
