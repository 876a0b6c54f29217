-- The former value that an insert answers, decoded.
use Rattle.std.proofs.Common.{◌≡◌, ◌∙◌, ◌-◌, ◌<◌, ℕ, List, Option, Some, None, Result, Ok, Err, ap, refl, subst, sym, length}
use Rattle.std.specs.Prelude.{option_map, ⊤}
use Rattle.std.specs.Result.{result_map_both}
use Rattle.odht_raw.specs.Words.{Error, Format, Full, Pair, Table}
use Rattle.odht_raw.specs.Formers.{with_former}
use Rattle.odht_raw.specs.Parts.{stored_in}
use Rattle.odht_raw.specs.SearchEnds.{IsEnd}
use Rattle.odht_raw.specs.SearchResults.{MatchSearchResult}
use Rattle.odht_raw.specs.Steps.{IsStepWhere}
use Rattle.odht_raw.specs.declared.raw_table.search_result.Search.{Search}
use Rattle.odht_raw.specs.declared.raw_table.search_result.Search.TheVariants.{Found, Free, Neither}

-- a search that found a key did so in one of the slots
pub end_low : (F : Format) (es ctrl k : List ℕ) (s : ℕ) (r : Search) → s ≡ length ctrl - 16 → IsEnd F (stored_in es ctrl) ctrl k r → MatchSearchResult r (λ i. i < s) (λ _. ⊤) ⊤
end_low F es ctrl k s (Found i) e end = subst (λ n. i < n) (sym e) end.0
end_low F es ctrl k s (Free i) e end = tt
end_low F es ctrl k s Neither e end = tt

-- what leaves bytes as they are changes no value
same_option : (o : Option (List ℕ)) → option_map (λ (b : List ℕ). b) o ≡ o
same_option None = refl
same_option (Some b) = refl

module _ {V : Type 0} (f : List ℕ → V) where
  pub decoded_ok : (o : Option (List ℕ)) (a : Result (Option (List ℕ)) Error) → ◌≡◌ {A = Result (Option (List ℕ)) Error} (Ok o) (result_map_both (option_map (λ b. b)) (λ e. e) a)
      → ◌≡◌ {A = Result (Option V) Error} (Ok (option_map f o)) (result_map_both (option_map f) (λ e. e) a)
  decoded_ok o (Ok x) e = let same : o ≡ option_map (λ b. b) x = cc in ap (λ y. Ok (option_map f y)) (same ∙ same_option x)
  decoded_ok o (Err x) e = absurd cc

  pub decoded_err : (e : Error) (a : Result (Option (List ℕ)) Error) → ◌≡◌ {A = Result (Option (List ℕ)) Error} (Err e) (result_map_both (option_map (λ b. b)) (λ e. e) a)
      → ◌≡◌ {A = Result (Option V) Error} (Err e) (result_map_both (option_map f) (λ e. e) a)
  decoded_err e (Ok x) h = absurd cc
  decoded_err e (Err x) h = let same : e ≡ x = cc in ap Err same

  same_error : (e : Error) → ◌≡◌ {A = Result (Option (List ℕ)) Error} (Err e) (Err Full) → ◌≡◌ {A = Result (Option V) Error} (Err e) (Err Full)
  same_error e h = let same : e ≡ Full = cc in ap Err same

  -- a step that answers the bytes of a value is one that answers the value
  pub decoded_step : (A : Table → Type 0) (F : Format) (m : ℕ) (t : List ℕ × List ℕ) (p : Pair) (o : Option (List ℕ)) (r : Result (Unit {0}) Error) (t' : List ℕ × List ℕ)
      → IsStepWhere A F (λ b. b) m t p (with_former o r) t' → IsStepWhere A F f m t p (with_former (option_map f o) r) t'
  decoded_step A F m t p o (Ok u) t' step = record {
    placed = λ P parts a. (let h = step.placed P parts a in (ap (option_map f) (h.0 ∙ same_option _), h.1));
    any = record {
      frame = (step.any.frame.0, decoded_ok o step.any.frame.0 step.any.frame.1, step.any.frame.2);
      errors = record { only_full = tt; refused_control = tt; refused_entries = tt };
    };
  }
  decoded_step A F m t p o (Err e) t' step = record {
    placed = λ P parts a. tt;
    any = record {
      frame = (step.any.frame.0, decoded_err e step.any.frame.0 step.any.frame.1, step.any.frame.2);
      errors = record {
        only_full = same_error e step.any.errors.only_full;
        refused_control = step.any.errors.refused_control;
        refused_entries = step.any.errors.refused_entries;
      };
    };
  }
