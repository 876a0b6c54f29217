-- What holds of the table that bytes stand for.
--     OfTable F B S        S holds of the plain table whose image the bytes B are, where they are valid: there is exactly
--                          one then
--     InTable c B S        the same of the format of the coding c, with S about this coding and the plain table
--     HasParts F B         the parts of the bytes B are those of this table
use Rattle.std.specs.Prelude.{ℕ, List}
use Rattle.odht_raw.specs.Words.{Coding, controls_of, entries_of, Format, IsImage, IsPartsOf, Table}

abbrev pub OfTable : Format → List ℕ → (Table → Type 0) → Type 0
OfTable F B S = (P : Table) → IsImage F P B → S P

abbrev pub InTable : {K V : Type 0} → Coding K V → List ℕ → (Coding K V → Table → Type 0) → Type 0
InTable c B S = OfTable c.format B (S c)

abbrev pub HasParts : Format → List ℕ → Type 0
HasParts F B = OfTable F B (λ P. IsPartsOf F P (entries_of F B) (controls_of F B))
