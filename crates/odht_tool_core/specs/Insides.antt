-- The first table inside the bytes B of a file that begins with other bytes.
--     is_foreign B         B has as many bytes as a header has, and the first of them are not the tag
--     IsFirstInside B o    o is the offset of the first table in B, where B is so and has one
--     is_followed B        B begins with a table by its header, and has more bytes
--     inside_text file at  the line that tells of the table at the offset `at`
use Rattle.std.specs.Prelude.{◌≡◌, ◌⊎◌, ℕ, nat_le, List, [], ◌∷◌, ◌++◌, length, Bool, true, false, ◌&&◌, codes, decimal, is_some, is_none, nat_lt, Option, Some, None}
use Rattle.odht_header.specs.Refusals.{tag_refusal}
use Rattle.odht_tool_core.specs.Finds.{AreTables}
use Rattle.odht_tool_core.specs.Fronts.{front_refusal, stated_len}

abbrev pub is_foreign : List ℕ → Bool
is_foreign B = nat_le 32 (length B) && is_some (tag_refusal B)

abbrev pub IsFirstInside : List ℕ → Option ℕ → Type 0
IsFirstInside B None = (is_foreign B ≡ false) ⊎ AreTables B 0 []
IsFirstInside B (Some t) = (is_foreign B ≡ true) × ((more : List ℕ) × AreTables B 0 (t ∷ more))

abbrev pub is_followed : List ℕ → Bool
is_followed B = is_none (front_refusal B) && nat_lt (stated_len B) (length B)

abbrev pub inside_text : List ℕ → ℕ → List ℕ
inside_text file at =
    codes "odht: " ++ (file ++ (codes ": a table is in it at the offset " ++ (decimal at ++ (codes ": try --at " ++ (decimal at ++ codes ", or `odht find`\n")))))
