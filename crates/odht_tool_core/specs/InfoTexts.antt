-- Parts of what `info` tells of a table.
--     hash_name h          the name of the hash function h
--     groups_words x o     the number of groups x; where it is above the bound o, that it is
--     stretch_sign l c     the sign of a stretch of l slots of which c are occupied: `.` where none is, `9` where all are,
--                          else the digit of 1 and how many whole eighths of its slots are
--     aligned w x          the digits of x, after as many spaces as make them w characters
--     bar c m              the bar of the count c, where m is the largest: forty `#` times c over m, at least one, but none
--                          where c is 0
--     longer_mark l g      a `+` behind 64 groups, g, where the longest number of groups l is above
--     tally_line cs l i    the line of the count i of the counts cs, that of i + 1 groups
--     tallies_text cs l    those of the first l counts
--     counts_array cs l    the first l counts as an array of JSON
use Rattle.std.specs.Prelude.{ℕ, ◌+◌, ◌-◌, ◌*◌, ◌/◌, min, max, ◌&&◌, ◌==◌, nat_lt, List, [], ◌∷◌, ◌++◌, length, replicate, flat_map, slice_index, codes, decimal, Option, Some, None, if◌then◌else◌}
use Rattle.std.specs.List.{range_with_len}
use Rattle.odht_tool_core.specs.InfoNumbers.{largest}
use Rattle.odht_tool_core.specs.declared.shapes.Hash.{Hash}
use Rattle.odht_tool_core.specs.declared.shapes.Hash.TheVariants.{Fx, Unhash, Xxh64}

abbrev pub hash_name : Hash → List ℕ
hash_name Fx = codes "fx"
hash_name Unhash = codes "unhash"
hash_name Xxh64 = codes "xxh64"

abbrev pub groups_words : ℕ → Option ℕ → List ℕ
groups_words x None = decimal x ++ codes " groups"
groups_words x (Some bound) =
    if nat_lt bound x then codes "more than " ++ (decimal bound ++ codes " groups") else decimal x ++ codes " groups"

-- ---- how full the table is along its slots
abbrev pub stretch_sign : ℕ → ℕ → ℕ
stretch_sign len count = if count == 0 then 46 else 49 + min 8 (count * 8 / len)

-- ---- the histogram
unfoldable pub aligned : ℕ → ℕ → List ℕ
aligned w x = replicate (w - length (decimal x)) 32 ++ decimal x

unfoldable pub bar : ℕ → ℕ → List ℕ
bar c m = if c == 0 then [] else replicate (max (c * 40 / m) 1) 35

abbrev pub longer_mark : ℕ → ℕ → List ℕ
longer_mark l g = if g == 64 && nat_lt 64 l then codes "+" else []

abbrev pub tally_line : List ℕ → ℕ → ℕ → List ℕ
tally_line cs l i =
    aligned 8 (i + 1) ++ (longer_mark l (i + 1) ++ (codes "  " ++ (aligned 12 (slice_index cs i) ++ (codes "  " ++ (bar (slice_index cs i) (largest cs) ++ (10 ∷ []))))))

abbrev pub tallies_text : List ℕ → ℕ → List ℕ
tallies_text cs l = flat_map (tally_line cs l) (range_with_len 0 (min l (length cs)))

-- a count, with a comma before each but the first
abbrev pub count_item : List ℕ → ℕ → List ℕ
count_item cs i = (if i == 0 then [] else 44 ∷ []) ++ decimal (slice_index cs i)

abbrev pub counts_text : List ℕ → ℕ → List ℕ
counts_text cs l = flat_map (count_item cs) (range_with_len 0 (min l (length cs)))

abbrev pub counts_array : List ℕ → ℕ → List ℕ
counts_array cs l = 91 ∷ (counts_text cs l ++ (93 ∷ []))
