-- Bounds of searches: how many groups of control bytes a search in the bytes B may read.
--     IsValidWithin c B n  B are valid, and each home has, among the first n groups of its probe order, a control byte that
--                          counts as free
--     IsBound c B n b      b is whether each home has such a control byte (`bytes`); in a valid table then no search, of a
--                          present or an absent key, reads more than n groups (`bound`)
use Rattle.std.specs.Prelude.{◌≡◌, ◌≤◌, ◌↔◌, ℕ, Bool, IsTrue, List, None}
use Rattle.odht_raw.specs.Words.{Coding, controls_of, first_longer, groups_read, IsValidBytes}
use Rattle.odht.specs.Tables.{OfTable}

abbrev pub IsValidWithin : {K V : Type 0} → Coding K V → List ℕ → ℕ → Type 0
IsValidWithin c B n = IsValidBytes c.format B × (first_longer (controls_of c.format B) n ≡ None)

pub record IsBound {K V : Type 0} (c : Coding K V) (B : List ℕ) (n : ℕ) (b : Bool) : Type 0 where
  pub bytes : IsTrue b ↔ (first_longer (controls_of c.format B) n ≡ None)
  pub bound : IsTrue b → OfTable c.format B (λ P. (k : List ℕ) → groups_read c.format P.cells k ≤ n)
