-- What the call for the length of a table at the front of longer bytes answers.
use Rattle.std.proofs.Common.{◌≡◌, ◌∙◌, ℕ, List, sym, ap, refl, Some}
use Rattle.odht_base.specs.Format.{Format}
use Rattle.odht_header.specs.Refusals.{prefix_refusal}
use Rattle.odht_header.specs.declared.error.Error.{Error}
use Rattle.odht_raw.specs.Prefixes.{IsFront}
use Rattle.odht_raw.proofs.lemmas.Prefixes.{IsFront-len, IsFront-prefix_refusal}
use Rattle.odht_calls.specs.Prefixes.{TableLenAnswers}
use Rattle.odht_calls.specs.Statuses.{status_of, status_or_ok, done}
use Rattle.odht_calls.proofs.lemmas.Refused.{not_none}

module _ (F : Format) (B : List ℕ) (old : ℕ) where
  -- where there is such a table
  pub answered_table_len : (n : ℕ) → IsFront F B n → TableLenAnswers F B old done n
  answered_table_len n is =
      let none = IsFront-prefix_refusal F B n is in
      record {
        status = sym (ap status_or_ok none);
        refused = λ e other. not_none _ e other none;
        front = λ same. is;
        only = λ m other. (refl, IsFront-len F B n is ∙ sym (IsFront-len F B m other));
      }

  -- and where there is an error
  pub refused_table_len : (a : Error) (s : ℕ) → Some a ≡ prefix_refusal F B → s ≡ status_of a → TableLenAnswers F B old s old
  refused_table_len a s is status = record {
    status = status ∙ ap status_or_ok is;
    refused = λ e other. refl;
    front = λ none. not_none _ a (sym is) none;
    only = λ n front. not_none _ a (sym is) (IsFront-prefix_refusal F B n front);
  }
