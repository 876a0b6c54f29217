-- Valid bytes, opened with the lengths that their header states.
use Rattle.std.proofs.Common.{◌≡◌, ℕ, List, Option, Some, None, sym, ap, subst}
use Rattle.std.specs.Prelude.{option_map, slice_index}
use Rattle.std.specs.Option.{option_or}
use Rattle.odht_raw.specs.Words.{Error, format_of, IsImage, opening_refusal, Table}
use Rattle.odht_header.proofs.lemmas.HeaderFits.{IsOpening-opening_refusal}
use Rattle.odht_raw.specs.Frame.{IsAccepted}
use Rattle.odht_raw.proofs.lemmas.Accepted.{IsAccepted-IsValidBytes}
use Rattle.odht.specs.Dynamic.{dyn_refusal, stated_format, stated_refusal}
use Rattle.odht.specs.declared.dynamic.DynError.TheVariants.{Rejected}

-- an error of header and length comes first
pub refused_first : (min_len : ℕ) (hash : List ℕ → ℕ) (B : List ℕ) (x : Error) → opening_refusal (stated_format hash B) B ≡ Some x → stated_refusal min_len hash B ≡ Some (Rejected x)
refused_first min_len hash B x e = ap (λ o. option_or (option_map Rejected o) (dyn_refusal min_len (stated_format hash B) B)) e

-- nothing is and is not an error
both : (o : Option Error) (x : Error) → o ≡ Some x → o ≡ None → ⊥
both None x e n = cc
both (Some y) x e n = cc

module _ (hash : List ℕ → ℕ) (key_len value_len : ℕ) (P : Table) (B : List ℕ) (is : IsImage (format_of key_len value_len hash) P B) where
  accepted_as : IsAccepted (format_of key_len value_len hash) B
  accepted_as = IsAccepted-IsValidBytes (format_of key_len value_len hash) B (P, is)

  -- the header states the length of their keys
  pub stated_key : slice_index B 5 ≡ key_len
  stated_key = (IsOpening-opening_refusal (format_of key_len value_len hash) B accepted_as).header.key_len_is

  -- and of their values
  pub stated_value : slice_index B 6 ≡ value_len
  stated_value = (IsOpening-opening_refusal (format_of key_len value_len hash) B accepted_as).header.value_len_is

  -- so with these lengths their header and length fit
  pub stated_accepted : IsAccepted (stated_format hash B) B
  stated_accepted =
      subst (λ k. IsAccepted (format_of k (slice_index B 6) hash) B) (sym stated_key)
      (subst (λ v. IsAccepted (format_of key_len v hash) B) (sym stated_value) accepted_as)

  -- and they are of the same table
  pub stated_image : IsImage (stated_format hash B) P B
  stated_image =
      subst (λ k. IsImage (format_of k (slice_index B 6) hash) P B) (sym stated_key)
      (subst (λ v. IsImage (format_of key_len v hash) P B) (sym stated_value) is)

  -- so none of these errors comes
  pub accepted_only : (x : Error) → opening_refusal (stated_format hash B) B ≡ Some x → ⊥
  accepted_only x e = both (opening_refusal (stated_format hash B) B) x e stated_accepted
