-- Worked examples: what is rejected, and what an insert returns, where lengths are known only at run time.
use Rattle.std.proofs.Common.{◌≡◌, ℕ, List, refl, Option, Some, Result, Ok, Err}
use Rattle.std.specs.Prelude.{OnErr}
use Rattle.std.specs.Result.{result_map_both}
use Rattle.odht_raw.specs.Words.{Coding, Error, format_of, Full, TooShort}
use Rattle.odht.specs.Dynamic.{dyn_refusal, dyn_new_refusal}
use Rattle.odht.specs.DynInserts.{IsDynInsert}
use Rattle.odht.specs.declared.dynamic.DynError.TheVariants.{KeyTooShort, WrongKeyLength, Rejected}

-- ---- keys of three bytes, where the hash function needs four: before all other errors
pub short_keys : (h : List ℕ → ℕ) (B : List ℕ) → dyn_refusal 4 (format_of 3 1 h) B ≡ Some (KeyTooShort 3 4)
short_keys h B = refl

pub new_short_keys : (h : List ℕ → ℕ) (n f len : ℕ) → dyn_new_refusal 4 (format_of 3 1 h) n f len ≡ Some (KeyTooShort 3 4)
new_short_keys h n f len = refl

-- ---- inserts
module _ {K V : Type 0} (c : Coding K V) (B B' : List ℕ) (k : K) (v : V) where
  -- no other error than Full
  pub other_error_refused : (n : ℕ) → IsDynInsert c B k v (Err (Rejected (TooShort n))) B' → ⊥
  other_error_refused n h = go h.answer h.is h.insert.on_any.only_full
    where
      go : (r : Result (Option V) Error) → Err (Rejected (TooShort n)) ≡ result_map_both (λ o. o) Rejected r → OnErr r (r ≡ Err Full) → ⊥
      go (Ok o) is full = cc
      go (Err e) is full = cc

  -- and none of lengths
  pub length_refused : (m n : ℕ) → IsDynInsert c B k v (Err (WrongKeyLength m n)) B' → ⊥
  length_refused m n h = go h.answer h.is
    where
      go : (r : Result (Option V) Error) → Err (WrongKeyLength m n) ≡ result_map_both (λ o. o) Rejected r → ⊥
      go (Ok o) is = cc
      go (Err e) is = cc
