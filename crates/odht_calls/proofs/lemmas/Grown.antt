-- The errors of a growth, and what the call answers.
use Rattle.std.proofs.Common.{◌≡◌, ◌<◌, ◌≤◌, ◌∙◌, ◌++◌, ℕ, sym, refl, ap, subst, List, [], ◌∷◌, length, arith, Some, None, drop, take_at, drop_at, lt-ltb, le-ltb}
use Rattle.std.specs.Prelude.{is_none}
use Rattle.odht_base.specs.Format.{Format}
use Rattle.odht_base.specs.Decoded.{header_factor}
use Rattle.odht_base.proofs.lemmas.Options.{some_same}
use Rattle.odht_raw.specs.Frame.{IsAccepted}
use Rattle.odht_header.specs.Refusals.{◌gives◌, first_of, factor_refusal, opening_refusal}
use Rattle.odht_header.specs.declared.error.Error.{Error}
use Rattle.odht_header.specs.declared.error.Error.TheVariants.{LoadFactorTooSmall, Capacity}
use Rattle.odht.specs.Growths.{grown_len}
use Rattle.odht_calls.specs.Grows.{growth_refusal, GrowAnswersOf, IsGrownFrom, IsGrownInto}
use Rattle.odht_calls.specs.Statuses.{status_of, done, too_small}
use Rattle.odht_calls.proofs.lemmas.Refused.{known, not_none}

-- ---- the errors
module _ (F : Format) (B : List ℕ) where
  -- the error of opening
  pub refused_first : (e : Error) → opening_refusal F B ≡ Some e → growth_refusal F B ≡ Some e
  unfolding growth_refusal
  refused_first e is = ap (λ o. first_of (o ∷ factor_refusal B ∷ (is_none (grown_len F B) gives Capacity) ∷ [])) is

  module _ (opens : IsAccepted F B) where
    behind_opening : growth_refusal F B ≡ first_of (factor_refusal B ∷ (is_none (grown_len F B) gives Capacity) ∷ [])
    unfolding growth_refusal
    behind_opening = ap (λ o. first_of (o ∷ factor_refusal B ∷ (is_none (grown_len F B) gives Capacity) ∷ [])) opens

    -- a small load factor
    pub refused_factor : header_factor B < 655 → growth_refusal F B ≡ Some (LoadFactorTooSmall (header_factor B))
    refused_factor low =
        behind_opening
        ∙ ap (λ t. first_of ((t gives LoadFactorTooSmall (header_factor B)) ∷ (is_none (grown_len F B) gives Capacity) ∷ [])) (lt-ltb (header_factor B) 655 low)

    module _ (enough : 655 ≤ header_factor B) where
      behind_factor : growth_refusal F B ≡ first_of ((is_none (grown_len F B) gives Capacity) ∷ [])
      behind_factor =
          behind_opening
          ∙ ap (λ t. first_of ((t gives LoadFactorTooSmall (header_factor B)) ∷ (is_none (grown_len F B) gives Capacity) ∷ [])) (le-ltb (header_factor B) 655 enough)

      -- no length
      pub refused_capacity : grown_len F B ≡ None → growth_refusal F B ≡ Some Capacity
      refused_capacity none = behind_factor ∙ ap (λ o. first_of ((is_none o gives Capacity) ∷ [])) none

      -- and nothing where there is one
      pub not_refused : (n : ℕ) → grown_len F B ≡ Some n → growth_refusal F B ≡ None
      not_refused n is = behind_factor ∙ ap (λ o. first_of ((is_none o gives Capacity) ∷ [])) is

-- ---- what is written
-- the grown bytes before those that are unchanged
pub written_front : (F : Format) (B T out : List ℕ) (n : ℕ) → length T ≡ n → IsGrownFrom F B T → IsGrownInto F B n out (T ++ drop n out)
written_front F B T out n long from = record { table = subst (IsGrownFrom F B) (sym (take_at T (drop n out) n long)) from; rest = drop_at T (drop n out) n long }

-- ---- what the call answers
module _ {F : Format} {B out : List ℕ} {len : ℕ} where
  -- where it has an error
  refused_grow : (a : Error) (s : ℕ) → growth_refusal F B ≡ Some a → s ≡ status_of a → GrowAnswersOf F B out len s out len
  refused_grow a s is status = record {
    refused = λ e other. (status ∙ known _ a e is other, refl, refl);
    short = λ n none. not_none _ a is none;
    grown = λ n none. not_none _ a is none;
  }

  module _ (n : ℕ) (none : growth_refusal F B ≡ None) (is : grown_len F B ≡ Some n) where
    -- where the bytes are too few
    short_grow : length out < n → GrowAnswersOf F B out len too_small out n
    short_grow less = record {
      refused = λ e other. not_none _ e other none;
      short = λ m ok other low. (refl, refl, some_same n m (sym is ∙ other));
      grown = λ m ok other fits. absurd (let same = some_same n m (sym is ∙ other) in omega (arith, less, fits, same));
    }

    -- and where they are enough
    done_grow : (out' : List ℕ) → n ≤ length out → IsGrownInto F B n out out' → GrowAnswersOf F B out len done out' n
    done_grow out' fits into = record {
      refused = λ e other. not_none _ e other none;
      short = λ m ok other low. absurd (let same = some_same n m (sym is ∙ other) in omega (arith, low, fits, same));
      grown = λ m ok other enough. (let same = some_same n m (sym is ∙ other) in (refl, subst (λ k. IsGrownInto F B k out out') same into, same));
    }

  -- of bytes whose opening has an error
  pub refused_opening : (e : Error) (s : ℕ) → Some e ≡ opening_refusal F B → s ≡ status_of e → GrowAnswersOf F B out len s out len
  refused_opening e s is status = refused_grow e s (refused_first F B e (sym is)) status

  -- and of others, by the load factor of their header
  module _ (opens : None ≡ opening_refusal F B) (factor : ℕ) (by_header : factor ≡ header_factor B) where
    pub weak_grow : factor < 655 → GrowAnswersOf F B out len 10 out len
    weak_grow low = refused_grow (LoadFactorTooSmall (header_factor B)) 10 (refused_factor F B (sym opens) (omega (arith, by_header, low))) refl

    module _ (enough : 655 ≤ factor) where
      pub large_grow : None ≡ grown_len F B → GrowAnswersOf F B out len 20 out len
      large_grow none = refused_grow Capacity 20 (refused_capacity F B (sym opens) (omega (arith, by_header, enough)) (sym none)) refl

      pub small_grow : (n : ℕ) → Some n ≡ grown_len F B → length out < n → GrowAnswersOf F B out len too_small out n
      small_grow n is = short_grow n (not_refused F B (sym opens) (omega (arith, by_header, enough)) n (sym is)) (sym is)

      pub written_grow : (n : ℕ) (T : List ℕ) → Some n ≡ grown_len F B → n ≤ length out → length T ≡ n → IsGrownFrom F B T → GrowAnswersOf F B out len done (T ++ drop n out) n
      written_grow n T is fits long from = done_grow n (not_refused F B (sym opens) (omega (arith, by_header, enough)) n (sym is)) (sym is) (T ++ drop n out) fits (written_front F B T out n long from)
