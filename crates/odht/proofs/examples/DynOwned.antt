-- Worked examples: what the owned table of lengths that are known only at run time returns.
use Rattle.std.proofs.Common.{◌≡◌, ℕ, List, refl, Result, Ok, Err}
use Rattle.std.specs.Result.{result_map_both}
use Rattle.odht_raw.specs.Words.{Error}
use Rattle.odht_header.specs.declared.error.Error.TheVariants.{Memory}
use Rattle.odht.specs.Dynamic.{dyn_store}
use Rattle.odht.specs.DynOwned.{IsDynWith, IsRejecting}
use Rattle.odht.specs.declared.dynamic.DynError.TheVariants.{WrongKeyLength, Rejected}

-- a table of keys of two bytes and values of one has these lengths, whatever is said of its bytes
pub lengths : (B : List ℕ) → IsDynWith 2 1 (λ b. b ≡ B) (dyn_store 2 1 B)
lengths B = record { key_len = refl; value_len = refl; store = refl }

pub other_lengths_refused : (B : List ℕ) → IsDynWith 3 1 (λ b. b ≡ B) (dyn_store 2 1 B) → ⊥
other_lengths_refused B h = let same = h.key_len in cc

-- a result whose error is a Rejected
pub rejected_memory : IsRejecting (λ (r : Result ℕ Error). r ≡ Err Memory) (Err (Rejected Memory))
rejected_memory = record { answer = Err Memory; is = refl; holds = refl }

-- an error of lengths is none
pub length_refused : (S : Result ℕ Error → Type 0) (m n : ℕ) → IsRejecting S (Err (WrongKeyLength m n)) → ⊥
length_refused S m n h = go h.answer h.is
  where
    go : (r : Result ℕ Error) → Err (WrongKeyLength m n) ≡ result_map_both (λ x. x) Rejected r → ⊥
    go (Ok o) is = cc
    go (Err e) is = cc
