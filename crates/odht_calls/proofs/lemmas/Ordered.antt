-- What the call for an order of inserts answers.
use Rattle.std.proofs.Common.{◌≡◌, ◌∙◌, ◌<◌, ℕ, List, All, get_or, sym, subst, refl, arith, length, Some, None}
use Rattle.std.proofs.lemmas.List.{get_or_default}
use Rattle.odht_base.specs.Format.{Format}
use Rattle.odht_base.specs.Made.{IsMade, IsInsertOrder}
use Rattle.odht_base.specs.Table.{Table, count}
use Rattle.odht_base.specs.Valid.{IsImage, IsValidBytes}
use Rattle.odht_header.specs.Refusals.{check_refusal, check_refusal_by}
use Rattle.odht_header.specs.declared.error.Error.{Error}
use Rattle.odht_header.proofs.lemmas.FirstErrors.{option_or-None}
use Rattle.odht_raw.proofs.lemmas.Openings.{view_refusal-accepted}
use Rattle.odht_raw.proofs.lemmas.WholeChecks.{valid_late}
use Rattle.odht_calls.specs.Orders.{OrderAnswersOf}
use Rattle.odht_calls.specs.Statuses.{status_of, done, bad_lengths, unmade}
use Rattle.odht_calls.proofs.lemmas.Refused.{known, not_none}

-- bytes in which the whole check finds no error are valid
pub checked_valid : (F : Format) (B : List ℕ) → ((i : ℕ) → get_or B i 0 < 256) → check_refusal F B ≡ None → IsValidBytes F B
unfolding check_refusal_by
checked_valid F B small e =
    let both = option_or-None _ _ e in
    let each : All (λ x. x < 256) B = λ k d h. subst (λ x. x < 256) (sym (get_or_default B k d 0 h)) (small k) in
    (valid_late F None B each (view_refusal-accepted F B both.0) both.1).0

module _ (F : Format) (B out : List ℕ) where
  -- for bytes that the whole check rejects
  pub refused_order : (a : Error) (s : ℕ) → check_refusal F B ≡ Some a → s ≡ status_of a → (IsValidBytes F B → ⊥) → OrderAnswersOf F B out s out
  refused_order a s is status invalid = record {
    refused = λ e other. (status ∙ known _ a e is other, refl);
    lengths = λ P image other. absurd (invalid (P, image));
    made = λ P image long. absurd (invalid (P, image));
    unmade = λ P image long. absurd (invalid (P, image));
    order = λ P image is_done. absurd (invalid (P, image));
  }

  -- and of the others
  module _ (none : check_refusal F B ≡ None) where
    -- into an array of another length than the table has items
    pub lengths_order : ((P : Table) → IsImage F P B → length out ≡ count P → ⊥) → OrderAnswersOf F B out bad_lengths out
    lengths_order unlike = record {
      refused = λ e is. not_none _ e is none;
      lengths = λ P image other. (refl, refl);
      made = λ P image long. absurd (unlike P image long);
      unmade = λ P image long. absurd (unlike P image long);
      order = λ P image is_done. absurd (omega (arith, is_done));
    }

    -- where inserts make the table
    pub done_order : (out' : List ℕ) → ((P : Table) → IsImage F P B → length out ≡ count P) → ((P : Table) → IsImage F P B → IsMade F P) → ((P : Table) → IsImage F P B → IsInsertOrder F P out')
        → OrderAnswersOf F B out done out'
    done_order out' long made order = record {
      refused = λ e is. not_none _ e is none;
      lengths = λ P image other. absurd (other (long P image));
      made = λ P image same. (λ is_done. made P image, λ is. refl);
      unmade = λ P image same. (λ is_unmade. absurd (omega (arith, is_unmade)), λ never. absurd (never (made P image)));
      order = λ P image is_done. order P image;
    }

    -- and where none do
    pub unmade_order : (out' : List ℕ) → ((P : Table) → IsImage F P B → length out ≡ count P) → ((P : Table) → IsImage F P B → IsMade F P → ⊥)
        → OrderAnswersOf F B out unmade out'
    unmade_order out' long never = record {
      refused = λ e is. not_none _ e is none;
      lengths = λ P image other. absurd (other (long P image));
      made = λ P image same. (λ is_done. absurd (omega (arith, is_done)), λ is. absurd (never P image is));
      unmade = λ P image same. (λ is_unmade. never P image, λ is_none. refl);
      order = λ P image is_done. absurd (omega (arith, is_done));
    }
