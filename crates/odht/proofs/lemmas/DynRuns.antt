-- Lists of inserts into a dynamic table: the items that were accepted, and the one that failed.
use Rattle.std.proofs.Common.{◌≡◌, ◌∙◌, ◌⊎◌, inl, inr, ℕ, sym, subst, take, List, [], ◌∷◌, Some, None, Err, All, slice_get, arith}
use Rattle.std.specs.List.{slice_range}
use Rattle.std.specs.Option.{option_or}
use Rattle.std.proofs.lemmas.List.Elements.{All-nil, All-cons, All-head, All-tail}
use Rattle.odht_raw.specs.Words.{Format, Full, IsFormat, IsPairOf, Pair}
use Rattle.odht_base.specs.Insert.{insert_view, IsFullFor}
use Rattle.odht_base.proofs.lemmas.FreshRuns.{insert_view-PlacesBelow}
use Rattle.odht_base.proofs.lemmas.Options.{some_same}
use Rattle.odht_base.proofs.lemmas.TableInserts.{insert_view-IsInsert}
use Rattle.odht_raw.specs.DynParts.{HasLengthsOf}
use Rattle.odht_raw.specs.Frame.{IsFramed}
use Rattle.odht_raw.specs.Runs.{HasLengthsAt, IsEncodedRun}
use Rattle.odht_raw.proofs.lemmas.PartRuns.{take-range}
use Rattle.odht.specs.Dynamic.{DynStore, dyn_coding, dyn_format}
use Rattle.odht.specs.DynLists.{length_error, IsDynStop}
use Rattle.odht.specs.declared.dynamic.DynError.{DynError}
use Rattle.odht.specs.declared.dynamic.DynError.TheVariants.{Rejected}
use Rattle.odht.specs.Lists.{encoded_all, IsAfterInserts, IsFramedRun, IsStoppedAt}
use Rattle.odht.specs.Tables.{OfTable}
use Rattle.odht.proofs.lemmas.FittingRuns.{insert_view-PlacesTaken}
use Rattle.odht.proofs.lemmas.DynLengths.{fitting_lengths}
use Rattle.odht.proofs.lemmas.ListInserts.{inserted_none, inserted_placed, encoded_all-range, refused_here}

-- ---- the items that were accepted
-- pairs of a format have its lengths
lengths_of : (F : Format) (ps : List Pair) → All (IsPairOf F) ps → All (HasLengthsOf F.key_len F.value_len) ps
lengths_of F [] h = All-nil (HasLengthsOf F.key_len F.value_len)
lengths_of F (p ∷ ps) h =
    let here = All-head (IsPairOf F) p ps h in
    All-cons (HasLengthsOf F.key_len F.value_len) p ps (record { key = here.key.len; value = here.value.len }) (lengths_of F ps (All-tail (IsPairOf F) p ps h))

module _ {D : Type 0} (t : DynStore D) (h : List ℕ → ℕ) (fits : ℕ → Type 0) (B : List ℕ) (items : List (List ℕ × List ℕ)) (n : ℕ) (C : List ℕ)
    (run : IsEncodedRun fits (dyn_coding t h) B items 0 n C) where
  -- have the lengths of the table
  pub accepted_fit : All (HasLengthsOf t.key_len t.value_len) (encoded_all (dyn_coding t h) (take n items))
  accepted_fit =
      subst (λ (xs : List (List ℕ × List ℕ)). All (HasLengthsOf t.key_len t.value_len) (encoded_all (dyn_coding t h) xs)) (take-range items 0 n (omega arith))
      (lengths_of (dyn_format t h) (encoded_all (dyn_coding t h) (slice_range items 0 n)) run.fit)

  -- are inserted into the table of valid bytes
  pub accepted_inserted : OfTable (dyn_format t h) B (λ P. IsAfterInserts (dyn_format t h) (insert_view (dyn_format t h)) P (encoded_all (dyn_coding t h) (take n items)) C)
  accepted_inserted P is =
      let F = dyn_format t h in
      let K = dyn_coding t h in
      let start = inserted_none F (insert_view F) P B is in
      subst (λ (ps : List Pair). IsAfterInserts F (insert_view F) P ps C) (encoded_all-range K items 0 n (omega arith))
      (inserted_placed F (insert_view F) (insert_view-IsInsert F) (insert_view-PlacesBelow F) P (insert_view-PlacesTaken F) (encoded_all K (take 0 items)) (encoded_all K (slice_range items 0 n)) B C
      start (run.placed start.table start.image))

  -- and change no more on any bytes than their inserts may
  pub accepted_framed : IsFramedRun (dyn_coding t h) B (take n items) C
  accepted_framed = subst (λ (xs : List (List ℕ × List ℕ)). IsFramedRun (dyn_coding t h) B xs C) (take-range items 0 n (omega arith)) run.framed

-- ---- the item that failed
-- ends the list
module _ {D : Type 0} (t : DynStore D) (k v : List ℕ) (h : List ℕ → ℕ) (bytes : D → List ℕ) (items : List (List ℕ × List ℕ)) (i : ℕ) (x : DynError) (at : slice_get items i ≡ Some (k, v)) where
  pub stopped_here : IsFormat (dyn_format t h) → ((HasLengthsAt t.key_len t.value_len items i → ⊥) ⊎ IsStoppedAt (dyn_coding t h) items i (bytes t.store))
      → Some x ≡ option_or (length_error t (k, v)) (Some (Rejected Full)) → IsDynStop h bytes t items i x
  stopped_here format stop error =
      let stopped : length_error t (k, v) ≡ None → IsStoppedAt (dyn_coding t h) items i (bytes t.store) = λ none. elim stop [
        | inl misfit ↦ absurd (misfit (λ item there. (
            let both = fitting_lengths t k v none in
            subst (λ (y : List ℕ × List ℕ). HasLengthsOf t.key_len t.value_len (record { key = y.0; value = y.1 })) (some_same _ _ (sym at ∙ there)) (record { key = both.0; value = both.1 }))))
        | inr stopped ↦ stopped
      ] in
      record {
        item = (k, v);
        at = at;
        error = error;
        framed = λ none.
            subst (λ (y : List ℕ × List ℕ). IsFramed (dyn_coding t h) (bytes t.store) y.0 y.1 (Err Full) (bytes t.store)) (some_same _ _ (sym (stopped none).at ∙ at)) (stopped none).framed;
        full = λ none P is. (
            let refused = refused_here (dyn_coding t h) format P items i (bytes t.store) is (stopped none) in
            subst (λ (y : List ℕ × List ℕ). IsFullFor P y.0) (some_same _ _ (sym refused.at ∙ at)) refused.full);
      }
