-- Inserts that tell whether they add an entry: one more item, and one that is refused.
use Rattle.std.proofs.Common.{◌≡◌, ◌<◌, ◌+◌, ◌-◌, ◌∙◌, ℕ, Bool, true, cond, sym, ap, subst, refl, List, length, Option, Some, None, Result, Ok, Err, slice_get}
use Rattle.std.specs.Prelude.{is_none}
use Rattle.odht_raw.specs.Words.{Error, Format, IsPairOf, IsPartsOf, Pair, Table}
use Rattle.odht_raw.specs.DynParts.{bytes_coding}
use Rattle.odht_raw.specs.Frame.{IsOnlyFull}
use Rattle.odht_raw.specs.Runs.{IsRunTo, IsRefusedIn}
use Rattle.odht_raw.specs.Steps.{adds, IsCountedStep}
use Rattle.odht_raw.proofs.lemmas.PartRuns.{run_to_more}
use Rattle.odht_raw.proofs.lemmas.Steps.{step_added, step_refusal}

-- an answer that tells whether it adds an entry is an Ok
counted_ok : (a : Result (Option (List ℕ)) Error) (b : Bool) → Some b ≡ adds a → (o : Option (List ℕ)) × (a ≡ Ok o) × (b ≡ is_none o)
counted_ok (Ok o) b e = (o, refl, cc)
counted_ok (Err x) b e = absurd (let both : Some b ≡ None = e in cc)

-- and one that tells nothing is an error
counted_err : (a : Result (Option (List ℕ)) Error) (r : Option Bool) → r ≡ None → r ≡ adds a → (x : Error) × (a ≡ Err x)
counted_err (Ok o) r none e = absurd (let both : Some (is_none o) ≡ None = sym e ∙ none in cc)
counted_err (Err x) r none e = (x, refl)

-- a new entry had room
pub counted_room : (F : Format) (A : Table → Type 0) (m : ℕ) (t : List ℕ × List ℕ) (p : Pair) (r : Option Bool) (t' : List ℕ × List ℕ) → IsCountedStep A F m t p r t' → r ≡ Some true → 0 < m
counted_room F A m t p r t' step is =
    let answer = counted_ok step.answer true (sym is ∙ step.told) in
    step_added F (λ x. x) m p step.answer t.0 t.1 t'.0 t'.1 (answer.1 ∙ ap Ok (none_is answer.0 (sym answer.2))) step.step.any.frame
  where
    none_is : (o : Option (List ℕ)) → is_none o ≡ true → o ≡ None
    none_is None e = refl
    none_is (Some v) e = cc

module _ (F : Format) (A : Table → Type 0) (m : ℕ) (es0 ctrl0 : List ℕ) (items : List (List ℕ × List ℕ)) (from i n : ℕ) (es ctrl : List ℕ)
    (h : IsRunTo (bytes_coding F) m es0 ctrl0 items from i n es ctrl) (k v : List ℕ) (at : slice_get items i ≡ Some (k, v))
    (r : Option Bool) (es' ctrl' : List ℕ) (step : IsCountedStep A F (m - n) (es, ctrl) (record { key = k; value = v }) r (es', ctrl')) where
  -- one more item
  pub counted_more : i < length items → IsPairOf F (record { key = k; value = v }) → (b : Bool) → r ≡ Some b
      → ((P : Table) (parts : IsPartsOf F P es0 ctrl0) → A (h.placed P parts).table)
      → (n' : ℕ) → n' ≡ cond b (n + 1) n → IsRunTo (bytes_coding F) m es0 ctrl0 items from (i + 1) n' es' ctrl'
  counted_more low fits b is ends n' counted =
      let t = counted_ok step.answer b (sym is ∙ step.told) in
      run_to_more (bytes_coding F) m es0 ctrl0 items from i n es ctrl h k v low at fits (λ x. x) step.answer t.0 es' ctrl' t.1 step.step.any.frame
      (λ P parts. step.step.placed (h.placed P parts).table (h.placed P parts).parts (ends P parts)) n' (counted ∙ ap (λ x. cond x (n + 1) n) t.2)

  -- an item that is refused
  pub counted_refused : r ≡ None → IsRunTo (bytes_coding F) m es0 ctrl0 items from i n es' ctrl' × IsRefusedIn (bytes_coding F) (m - n) items i es' ctrl'
  counted_refused none =
      let t = counted_err step.answer r none step.told in
      let kept = subst (λ (a : Result (Option (List ℕ)) Error). IsOnlyFull es ctrl a es' ctrl') t.1 step.step.any.errors in (
        rw (kept.refused_entries, kept.refused_control) h,
        record {
          item = (k, v);
          at = at;
          frame = step_refusal F (λ x. x) (m - n) (record { key = k; value = v }) step.answer es ctrl es' ctrl' t.0 t.1 step.step.any.frame;
        },
      )
