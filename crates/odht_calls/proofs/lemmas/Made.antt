-- What the calls for a new table and for its length answer, at p percent; q is the same percentage once it was tested.
use Rattle.std.proofs.Common.{◌≡◌, ◌<◌, ◌^◌, ◌∙◌, ℕ, List, sym, ap, subst, refl, arith, length, Some, None}
use Rattle.odht_base.specs.Format.{Format}
use Rattle.odht_base.specs.Image.{image_len}
use Rattle.odht_base.specs.Load.{factor_of, slots_for, IsPercent}
use Rattle.odht_base.proofs.lemmas.Options.{some_same}
use Rattle.odht_header.specs.Refusals.{IsTooLarge, new_refusal}
use Rattle.odht_header.specs.declared.error.Error.{Error}
use Rattle.odht_header.specs.declared.error.Error.TheVariants.{Capacity}
use Rattle.odht.specs.Inserts.{IsFresh}
use Rattle.odht_calls.specs.Statuses.{status_of, done, bad_percent}
use Rattle.odht_calls.specs.Writes.{BytesNeededAnswersOf, InitAnswersOf}
use Rattle.odht_calls.proofs.lemmas.Refused.{known, not_none}

-- no length at no percentage
pub bad_needed : (F : Format) (m p old : ℕ) → (IsPercent p → ⊥) → BytesNeededAnswersOf F m p old bad_percent old
bad_needed F m p old none = record {
  percent = λ other. (refl, refl);
  needed = λ slots ok is fits. absurd (none ok);
  capacity = λ ok large. absurd (none ok);
}

module _ (F : Format) (m p q old : ℕ) (same : q ≡ p) (within : IsPercent q) where
  -- the length of that many slots
  pub some_needed : (slots n : ℕ) → slots_for m (factor_of q) ≡ Some slots → n ≡ image_len F slots → n < 2 ^ 64 → BytesNeededAnswersOf F m p old done n
  some_needed slots n is long fits = subst (λ x. BytesNeededAnswersOf F m x old done n) same (record {
    percent = λ other. absurd (other within);
    needed = λ other ok there low. (refl, long ∙ ap (image_len F) (some_same slots other (sym is ∙ there)));
    capacity = λ ok large. absurd (let least = large slots is in omega (arith, least, long, fits));
  })

  -- and where none is large enough
  pub large_needed : IsTooLarge F m (factor_of q) → BytesNeededAnswersOf F m p old (status_of Capacity) old
  large_needed large = subst (λ x. BytesNeededAnswersOf F m x old (status_of Capacity) old) same (record {
    percent = λ other. absurd (other within);
    needed = λ other ok there low. absurd (let least = large other there in omega (arith, least, low));
    capacity = λ ok known. (refl, refl);
  })

module _ (F : Format) (m p q : ℕ) (B B' : List ℕ) (same : q ≡ p) (within : IsPercent q) where
  -- where there is no error
  pub made_init : None ≡ new_refusal F m (factor_of q) (length B) → IsFresh F m q B' → InitAnswersOf F m p B done B'
  made_init none fresh = subst (λ x. InitAnswersOf F m x B done B') same (record {
    percent = λ other. absurd (other within);
    refused = λ e ok is. not_none _ e is (sym none);
    made = λ ok fits. (refl, (fresh.table, fresh.new, fresh.image));
  })

  -- and for an error, which leaves the bytes
  pub refused_init : (a : Error) (s : ℕ) → Some a ≡ new_refusal F m (factor_of q) (length B) → s ≡ status_of a → B' ≡ B → InitAnswersOf F m p B s B'
  refused_init a s is status stays = subst (λ x. InitAnswersOf F m x B s B') same (record {
    percent = λ other. absurd (other within);
    refused = λ e ok other. (status ∙ known _ a e (sym is) other, stays);
    made = λ ok fits. not_none _ a (sym is) fits;
  })
