-- The bytes of a plain table.
--     header_bytes F s c f   the 32 bytes of the header for s slots, c items and the load factor f
--     entry_bytes F c        the bytes of the cell c: key and value, or zeros
--     control_byte F c       its control byte: the key's tag, or 255
--     entries F cs           the bytes of the cells in turn
--     controls F cs          a control byte for each cell, then the mirror: the first sixteen of these again
--     parts F cs             entries, then control bytes
--     image F P              all bytes
--     image_len F s          how many there are at s slots
use Rattle.std.specs.Prelude.{ℕ, ◌+◌, ◌*◌, List, [], ◌∷◌, ◌++◌, map, take, replicate, flat_map, Option, Some, None}
use Rattle.odht_base.specs.Format.{Format, entry_len, tag}
use Rattle.odht_base.specs.Numbers.{le_bytes}
use Rattle.odht_base.specs.Table.{Pair, Table, Cells, slot_count, count}

abbrev pub header_bytes : Format → ℕ → ℕ → ℕ → List ℕ
header_bytes F s c f =
    79 ∷ 68 ∷ 72 ∷ 84 ∷ 1 ∷ F.key_len ∷ F.value_len ∷ 32 ∷ le_bytes 8 c ++ le_bytes 8 s ++ 0 ∷ 0 ∷ 0 ∷ 2 ∷ le_bytes 2 f ++ 0 ∷ 0 ∷ []

abbrev pub entry_bytes : Format → Option Pair → List ℕ
entry_bytes F None = replicate (entry_len F) 0
entry_bytes F (Some p) = p.key ++ p.value

abbrev pub control_byte : Format → Option Pair → ℕ
control_byte F None = 255
control_byte F (Some p) = tag F p.key

unfoldable pub entries : Format → Cells → List ℕ
entries F cs = flat_map (entry_bytes F) cs

unfoldable pub controls : Format → Cells → List ℕ
controls F cs = let each = map (control_byte F) cs in each ++ take 16 each

abbrev pub parts : Format → Cells → List ℕ
parts F cs = entries F cs ++ controls F cs

unfoldable pub image : Format → Table → List ℕ
image F P = header_bytes F (slot_count P) (count P) P.factor ++ parts F P.cells

abbrev pub image_len : Format → ℕ → ℕ
image_len F s = 32 + s * entry_len F + s + 16
