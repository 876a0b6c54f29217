-- Worked examples: lists of inserts, lookups of no keys, and tables at the front of longer bytes, where lengths are
-- known only at run time.
use Rattle.std.proofs.Common.{◌≡◌, ℕ, List, [], ◌∷◌, refl, Some, None}
use Rattle.odht_raw.specs.Words.{Coding, format_of}
use Rattle.odht.specs.Dynamic.{DynStore, dyn_store}
use Rattle.odht.specs.DynFormers.{lengths_error}
use Rattle.odht.specs.DynLists.{length_error}
use Rattle.odht.specs.DynPrefixes.{dyn_front_refusal}
use Rattle.odht.specs.Gets.{AreGot}
use Rattle.odht.specs.declared.dynamic.DynError.TheVariants.{KeyTooShort, WrongKeyLength, WrongValueLength}

-- ---- items for a table with keys of three bytes and values of one
module _ {D : Type 0} (store : D) where
  abbrev table : DynStore D
  table = dyn_store 3 1 store

  pub fitting : length_error table (1 ∷ 2 ∷ 3 ∷ [], 9 ∷ []) ≡ None
  fitting = refl

  pub short_key : length_error table (1 ∷ 2 ∷ [], 9 ∷ []) ≡ Some (WrongKeyLength 3 2)
  short_key = refl

  pub no_value : length_error table (1 ∷ 2 ∷ 3 ∷ [], []) ≡ Some (WrongValueLength 1 0)
  no_value = refl

  -- the error of the key comes first
  pub neither_fits : length_error table (1 ∷ [], []) ≡ Some (WrongKeyLength 3 1)
  neither_fits = refl

  -- the bytes for the former value have the length of the values
  pub fitting_former : lengths_error table (1 ∷ 2 ∷ 3 ∷ []) (9 ∷ []) (0 ∷ []) ≡ None
  fitting_former = refl

  pub long_former : lengths_error table (1 ∷ 2 ∷ 3 ∷ []) (9 ∷ []) (0 ∷ 0 ∷ []) ≡ Some (WrongValueLength 1 2)
  long_former = refl

  -- the errors of the key and of the value come first
  pub no_key_first : lengths_error table [] (9 ∷ []) (0 ∷ 0 ∷ []) ≡ Some (WrongKeyLength 3 0)
  no_key_first = refl

  pub no_value_first : lengths_error table (1 ∷ 2 ∷ 3 ∷ []) [] (0 ∷ 0 ∷ []) ≡ Some (WrongValueLength 1 0)
  no_value_first = refl

-- ---- keys of three bytes, where the hash function needs four: before all other errors
pub short_keys : (h : List ℕ → ℕ) (B : List ℕ) → dyn_front_refusal 4 (format_of 3 1 h) B ≡ Some (KeyTooShort 3 4)
short_keys h B = refl

-- ---- lookups of a list
module _ {K V : Type 0} (c : Coding K V) (B : List ℕ) where
  -- of no keys nothing is answered
  pub of_no_keys : AreGot c B [] []
  of_no_keys = record { on_valid = λ P is. refl; on_any = λ i k v at found. absurd (let none : None ≡ Some k = at in cc) }
