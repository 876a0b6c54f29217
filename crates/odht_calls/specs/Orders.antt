-- What the call that looks for an order of inserts returns, and what it leaves in the array that its caller passes.
-- The status is s; the array holds `out` before the call, and out' after it.
--     OrderAnswers c B out s out'   an order of inserts that makes the table in the bytes B, which the coding c reads
--     OrderAnswersOf F, ScratchAnswersOf F   the same, by the format F
--     ScratchAnswers c B out scratch s out' scratch'   the same of a call that has an array of scratch beside it, which
--         holds scratch' after it: only where the answer is `done` or `unmade` something is written to it
-- For bytes that the whole check rejects nothing is written, and neither for an array whose length is not the number of
-- items. For the others the answer is `done` exactly where inserts make the table, and `unmade` exactly where none do;
-- out' is the order where it is `done`.
use Rattle.std.specs.Prelude.{◌≡◌, ◌↔◌, ℕ, List, length, Some}
use Rattle.odht_base.specs.Format.{Format}
use Rattle.odht_base.specs.Made.{IsMade, IsInsertOrder}
use Rattle.odht_base.specs.Table.{Table, count}
use Rattle.odht_base.specs.Valid.{IsImage}
use Rattle.odht_header.specs.Coding.{Coding}
use Rattle.odht_header.specs.Refusals.{check_refusal}
use Rattle.odht_header.specs.declared.error.Error.{Error}
use Rattle.odht_calls.specs.Statuses.{status_of, done, bad_lengths, unmade}

pub record OrderAnswersOf (F : Format) (B : List ℕ) (out : List ℕ) (s : ℕ) (out' : List ℕ)
    : Type 0 where
  pub refused : (e : Error) → check_refusal F B ≡ Some e → (s ≡ status_of e) × (out' ≡ out)
  pub lengths : (P : Table) → IsImage F P B → (length out ≡ count P → ⊥) → (s ≡ bad_lengths) × (out' ≡ out)
  pub made : (P : Table) → IsImage F P B → length out ≡ count P → (s ≡ done) ↔ IsMade F P
  pub unmade : (P : Table) → IsImage F P B → length out ≡ count P → (s ≡ unmade) ↔ (IsMade F P → ⊥)
  pub order : (P : Table) → IsImage F P B → s ≡ done → IsInsertOrder F P out'

abbrev pub OrderAnswers : {K V : Type 0} → Coding K V → List ℕ → List ℕ → ℕ → List ℕ → Type 0
OrderAnswers c = OrderAnswersOf c.format

pub record ScratchAnswersOf (F : Format) (B out scratch : List ℕ) (s : ℕ) (out' scratch' : List ℕ)
    : Type 0 where
  pub order : OrderAnswersOf F B out s out'
  pub unwritten : (s ≡ done → ⊥) → (s ≡ unmade → ⊥) → scratch' ≡ scratch

abbrev pub ScratchAnswers : {K V : Type 0} → Coding K V → List ℕ → List ℕ → List ℕ → ℕ → List ℕ → List ℕ → Type 0
ScratchAnswers c = ScratchAnswersOf c.format
