-- An order of inserts of a dynamic table, by that of its parts.
use Rattle.std.proofs.Common.{◌≡◌, ◌↔◌, ℕ, Bool, IsTrue, List}
use Rattle.odht_raw.specs.Words.{count, Format, IsImage, IsInsertOrder, IsMade, IsValidBytes, Table}
use Rattle.odht_raw.specs.Dumps.{parts_of}
use Rattle.odht_raw.specs.Waiting.{AreWholeParts, IsWhole, IsOrderAnswer}
use Rattle.odht.specs.Tables.{OfTable, HasParts}

module _ (F : Format) (B : List ℕ) (n : ℕ) (counted : OfTable F B (λ P. n ≡ count P)) (parts : HasParts F B) where
  whole_of : (P : Table) → IsImage F P B → AreWholeParts F P (parts_of F B) n
  whole_of P image = record { valid = image.valid; parts = parts P image; counted = counted P image }

  pub dyn_whole : IsValidBytes F B → IsWhole F (parts_of F B) n
  dyn_whole valid = (valid.0, whole_of valid.0 valid.1)

  module _ (out : List ℕ) (b : Bool) (answer : IsOrderAnswer F (parts_of F B) n out b) where
    pub dyn_order : OfTable F B (λ P. IsTrue b → IsInsertOrder F P out)
    dyn_order P image = answer.order P (whole_of P image)

    pub dyn_made : OfTable F B (λ P. IsTrue b ↔ IsMade F P)
    dyn_made P image = answer.made P (whole_of P image)
