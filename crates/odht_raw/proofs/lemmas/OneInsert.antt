-- One insert into the bytes of a table, by the write of the pair where the search for its key ended.
use Rattle.std.proofs.Common.{◌≡◌, ◌<◌, ◌≤◌, ◌+◌, ◌-◌, ◌^◌, ◌∙◌, ◌++◌, ℕ, sym, ap, subst, refl, arith, Bool, true, false, List, [], ◌∷◌, All, Option, Some, None, Result, Ok, Err, append_assoc, cond}
use Rattle.std.specs.Prelude.{option_map, is_none, IsTrue, ⊤}
use Rattle.std.specs.Result.{result_map_both}
use Rattle.odht_raw.specs.Words.{entries_of, Error, Format, Full, header_count, IsPairOf, Pair, Table, with_count}
use Rattle.odht_raw.proofs.lemmas.Below.{All-cons, All-nil}
use Rattle.odht_raw.specs.DynParts.{bytes_coding}
use Rattle.odht_raw.specs.EndWrites.{IsEndWrite}
use Rattle.odht_raw.specs.Formers.{answered, former_of, write_result}
use Rattle.odht_raw.specs.Frame.{InsertFrame, IsFramed, header_maximum}
use Rattle.odht_raw.specs.Parts.{stored_in}
use Rattle.odht_raw.specs.PartsInserts.{AnswersFormer}
use Rattle.odht_raw.specs.Runs.{IsPartsRun, ArePartsOfRun, IsOnePlaced, count_after}
use Rattle.odht_raw.specs.SearchResults.{MatchSearchResult, answer}
use Rattle.odht_raw.specs.Searches.{IsSearchEnd}
use Rattle.odht_raw.specs.Steps.{StepFrame, IsStepFramed, IsStepWhere}
use Rattle.odht_raw.specs.declared.raw_table.search_result.Search.{Search}
use Rattle.odht_raw.proofs.lemmas.JoinedRuns.{step_joined}
use Rattle.odht_raw.proofs.lemmas.ListWrites.{IsCut, cut-entries, cut-image, cut-maximum, joined-cut, list_accepted, list_length, list_placed}
use Rattle.odht_raw.proofs.lemmas.PartRuns.{run_more, placed_more}
use Rattle.odht_raw.proofs.lemmas.Steps.{step_accepted, step_added}

-- an answer with the bytes of the value is itself
undecoded : (a : Result (Option (List ℕ)) Error) → result_map_both (option_map (λ (b : List ℕ). b)) (λ (e : Error). e) a ≡ a
undecoded (Ok None) = refl
undecoded (Ok (Some b)) = refl
undecoded (Err e) = refl

-- how many entries an Ok adds
counted_after : (m : ℕ) (o : Option (List ℕ)) → count_after m (Ok o) ≡ m + cond (is_none o) (0 + 1) 0
counted_after m None = refl
counted_after m (Some b) = omega arith

module _ (F : Format) (B H es ctrl : List ℕ) (cut : IsCut F B H es ctrl) (bytes : All (λ x. x < 256) B) (counted : header_count B < 2 ^ 64) (small : header_maximum B < 2 ^ 64)
    (k v : List ℕ) (fits : IsPairOf F (record { key = k; value = v })) (es' ctrl' H' : List ℕ) where
  abbrev p : Pair
  p = record { key = k; value = v }

  abbrev room : ℕ
  room = header_maximum B - header_count B

  -- there was room for the entries that it adds
  had_room : (o : Option (List ℕ)) → IsStepFramed F (λ b. b) room es ctrl p (Ok o) es' ctrl' → cond (is_none o) (0 + 1) 0 ≤ room
  had_room None framed = let some = step_added F (λ b. b) room p (Ok None) es ctrl es' ctrl' refl framed in omega (arith, some)
  had_room (Some b) framed = omega arith

  -- what is left, with the count after the answer, is what an insert may leave
  one_framed : (r : Result (Option (List ℕ)) Error) → IsStepFramed F (λ b. b) room es ctrl p r es' ctrl' → H' ≡ with_count H (count_after (header_count B) r) → IsFramed (bytes_coding F) B k v r (H' ++ es' ++ ctrl')
  one_framed r framed written =
      let frame = subst (λ a. StepFrame F room es ctrl p a es' ctrl') (sym (framed.1 ∙ undecoded framed.0)) framed.2 in
      let most = cut-maximum F B H es ctrl cut in
      let left : room ≡ header_maximum H - header_count B = omega (arith, most) in
      let now : with_count H (count_after (header_count B) r) ++ (es' ++ ctrl') ≡ H' ++ es' ++ ctrl' = ap (λ t. t ++ (es' ++ ctrl')) (sym written) ∙ sym (append_assoc H' es' ctrl') in (
        r,
        sym (undecoded r),
        subst (InsertFrame F B p r) now
            (subst (λ b. InsertFrame F b p r (with_count H (count_after (header_count B) r) ++ (es' ++ ctrl'))) (joined-cut F B H es ctrl cut bytes)
            (step_joined F H cut.head (omega (arith, most, small)) p (header_count B) es ctrl r es' ctrl' (λ o e. fits) counted cut.long cut.mirrored
            (subst (λ m. StepFrame F m es ctrl p r es' ctrl') left frame))),
      )

  module _ (s : Search) (end : IsSearchEnd F (stored_in es ctrl) ctrl k s) where
    abbrev IsWrite : Result (Option (List ℕ)) Error → Type 0
    IsWrite r = IsStepWhere (λ (P : Table). s ≡ answer F P.cells k) F (λ b. b) room (es, ctrl) p r (es', ctrl')

    abbrev IsWritten : Bool → Type 0
    IsWritten w = MatchSearchResult s (λ _. IsTrue w) (λ _. ⊤) ⊤

    -- a pair that was written
    wrote : (o : Option (List ℕ)) → former_of F es s ≡ o → IsWritten true → IsWrite (Ok o) → H' ≡ with_count H (count_after (header_count B) (Ok o)) → IsEndWrite (bytes_coding F) B k v s true (H' ++ es' ++ ctrl')
    wrote o is found step written =
        let n : ℕ = cond (is_none o) (0 + 1) 0 in
        let same : H' ≡ with_count H (header_count B + n) = written ∙ ap (with_count H) (counted_after (header_count B) o) in
        let fit = had_room o step.any.frame in
        let before : o ≡ former_of F (entries_of F B) s = sym is ∙ ap (λ e. former_of F e s) (sym (cut-entries F B H es ctrl cut)) in
        let run : IsPartsRun (bytes_coding F) es ctrl ((k, v) ∷ []) n es' ctrl' =
        run_more (bytes_coding F) es ctrl [] k v 0 es ctrl es' ctrl' IsPartsRun.start fits (λ b. b) (Ok o) o refl (step_accepted F (λ b. b) room p (Ok o) es ctrl es' ctrl' o refl step.any.frame) in
        record {
          placed = λ P image. (
              let parts = (cut-image F B H es ctrl cut P image).1 in
              let answers : AnswersFormer F (λ (b : List ℕ). b) P p (Ok o) es' ctrl' = step.placed P parts (end.on_placed P parts) in
              let start : ArePartsOfRun F P [] 0 es ctrl = record { table = P; placed = refl; parts = parts; counted = omega arith } in
              subst (λ x. IsOnePlaced (bytes_coding F) P k v x (H' ++ es' ++ ctrl')) before
              (answers.0, list_placed F B H es ctrl cut n H' es' ctrl' same fit P image (p ∷ []) (All-cons (IsPairOf F) p [] fits (All-nil (IsPairOf F))) (placed_more F P [] 0 es ctrl start p es' ctrl' (λ b. b) (Ok o) o refl answers)));
          framed = subst (λ x. IsFramed (bytes_coding F) B k v (Ok x) (H' ++ es' ++ ctrl')) before (one_framed (Ok o) step.any.frame written);
          found = found;
          accepted = list_accepted (bytes_coding F) B H es ctrl cut ((k, v) ∷ []) n H' es' ctrl' same run fit counted small;
          len = list_length (bytes_coding F) B H es ctrl cut ((k, v) ∷ []) n H' es' ctrl' same run fit counted small;
        }

    -- the write, whether it was made or not
    pub end_write : (w : Bool) → IsWritten w → IsWrite (answered F es s (write_result w)) → H' ≡ with_count H (count_after (header_count B) (answered F es s (write_result w))) → IsEndWrite (bytes_coding F) B k v s w (H' ++ es' ++ ctrl')
    end_write true found step written = wrote (former_of F es s) refl found step written
    end_write false found step written =
        let none : header_count B ≡ header_count B + 0 = omega arith in
        let same : H' ≡ with_count H (header_count B + 0) = written ∙ ap (with_count H) none in
        let entries : es' ≡ es = step.any.errors.refused_entries in
        let control : ctrl' ≡ ctrl = step.any.errors.refused_control in
        let run : IsPartsRun (bytes_coding F) es ctrl [] 0 es' ctrl' = rw (entries, control) IsPartsRun.start in
        record {
          placed = λ P image. tt;
          framed = one_framed (Err Full) step.any.frame written;
          found = found;
          accepted = list_accepted (bytes_coding F) B H es ctrl cut [] 0 H' es' ctrl' same run (omega arith) counted small;
          len = list_length (bytes_coding F) B H es ctrl cut [] 0 H' es' ctrl' same run (omega arith) counted small;
        }
