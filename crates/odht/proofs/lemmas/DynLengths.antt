-- The error of the lengths of a key and a value (`length_error`): when there is one, and what an insert says by it that
-- returns it.
use Rattle.std.proofs.Common.{◌≡◌, ◌≢◌, ◌==◌, ◌∙◌, refl, sym, subst, not, ap, length, true, false, inl, inr, List, ℕ, Option, Some, None, Result, Ok, Err}
use Rattle.std.specs.Prelude.{IfSome}
use Rattle.std.specs.Bool.{then_some}
use Rattle.std.specs.Option.{option_or}
use Rattle.std.proofs.lemmas.Bool.Decides.{eqb_tells}
use Rattle.odht_raw.specs.Words.{Error}
use Rattle.odht.specs.Dynamic.{DynStore}
use Rattle.odht.specs.DynLists.{length_error}
use Rattle.odht.specs.declared.dynamic.DynError.{DynError}
use Rattle.odht.specs.declared.dynamic.DynError.TheVariants.{WrongKeyLength, WrongValueLength, Rejected}

module _ {D : Type 0} (t : DynStore D) (k v : List ℕ) where
  -- of a key of another length
  key_error : (length k == t.key_len) ≡ false → length_error t (k, v) ≡ Some (WrongKeyLength t.key_len (length k))
  key_error e = ap (λ b. option_or (then_some (not b) (WrongKeyLength t.key_len (length k))) (then_some (not (length v == t.value_len)) (WrongValueLength t.value_len (length v)))) e

  -- else of a value of another length
  value_error : (length k == t.key_len) ≡ true → (length v == t.value_len) ≡ false → length_error t (k, v) ≡ Some (WrongValueLength t.value_len (length v))
  value_error e f = λ i. option_or (then_some (not (e i)) (WrongKeyLength t.key_len (length k))) (then_some (not (f i)) (WrongValueLength t.value_len (length v)))

  -- else none
  no_error : (length k == t.key_len) ≡ true → (length v == t.value_len) ≡ true → length_error t (k, v) ≡ None
  no_error e f = λ i. option_or (then_some (not (e i)) (WrongKeyLength t.key_len (length k))) (then_some (not (f i)) (WrongValueLength t.value_len (length v)))

  pub of_fitting : length k ≡ t.key_len → length v ≡ t.value_len → length_error t (k, v) ≡ None
  of_fitting key value = elim (eqb_tells (length k) t.key_len) [
    | inr other ↦ absurd (other.1 key)
    | inl same ↦ elim (eqb_tells (length v) t.value_len) [
      | inr other ↦ absurd (other.1 value)
      | inl both ↦ no_error same.0 both.0
    ]
  ]

  -- where there is none both lengths are those of the table
  pub fitting_lengths : length_error t (k, v) ≡ None → (length k ≡ t.key_len) × (length v ≡ t.value_len)
  fitting_lengths none = elim (eqb_tells (length k) t.key_len) [
    | inr other ↦ absurd (let both : Some (WrongKeyLength t.key_len (length k)) ≡ None = sym (key_error other.0) ∙ none in cc)
    | inl same ↦ elim (eqb_tells (length v) t.value_len) [
      | inr other ↦ absurd (let both : Some (WrongValueLength t.value_len (length v)) ≡ None = sym (value_error same.0 other.0) ∙ none in cc)
      | inl both ↦ (same.1, both.1)
    ]
  ]

  -- ---- of an insert that returns this error, where there is one
  module _ {T : Type 0} (r : Result T DynError) (lengths : IfSome (length_error t (k, v)) (λ e. r ≡ Err e)) where
    -- a key of another length is the first error
    key_first : length k ≢ t.key_len → r ≡ Err (WrongKeyLength t.key_len (length k))
    key_first apart = elim (eqb_tells (length k) t.key_len) [
      | inl same ↦ absurd (apart same.1)
      | inr other ↦ subst (λ (o : Option DynError). IfSome o (λ e. r ≡ Err e)) (key_error other.0) lengths
    ]

    -- a value of another length the second
    value_second : length k ≡ t.key_len → length v ≢ t.value_len → r ≡ Err (WrongValueLength t.value_len (length v))
    value_second key apart = elim (eqb_tells (length k) t.key_len) [
      | inr other ↦ absurd (other.1 key)
      | inl same ↦ elim (eqb_tells (length v) t.value_len) [
        | inl both ↦ absurd (apart both.1)
        | inr other ↦ subst (λ (o : Option DynError). IfSome o (λ e. r ≡ Err e)) (value_error same.0 other.0) lengths
      ]
    ]

    -- an insert that succeeds is of fitting lengths
    pub accepted_fits : (o : T) → r ≡ Ok o → length_error t (k, v) ≡ None
    accepted_fits o ok = go (length_error t (k, v)) lengths
      where
        go : (e : Option DynError) → IfSome e (λ x. r ≡ Err x) → e ≡ None
        go None said = refl
        go (Some x) said = absurd (let both : ◌≡◌ {A = Result T DynError} (Ok o) (Err x) = sym ok ∙ said in cc)

    -- and so is one that is rejected
    pub rejected_fits : (e : Error) → r ≡ Err (Rejected e) → length_error t (k, v) ≡ None
    rejected_fits e was = elim (eqb_tells (length k) t.key_len) [
      | inr other ↦ absurd (let both : ◌≡◌ {A = Result T DynError} (Err (Rejected e)) (Err (WrongKeyLength t.key_len (length k))) = sym was ∙ key_first other.1 in cc)
      | inl same ↦ elim (eqb_tells (length v) t.value_len) [
        | inr other ↦ absurd (let both : ◌≡◌ {A = Result T DynError} (Err (Rejected e)) (Err (WrongValueLength t.value_len (length v))) = sym was ∙ value_second same.1 other.1 in cc)
        | inl both ↦ no_error same.0 both.0
      ]
    ]
