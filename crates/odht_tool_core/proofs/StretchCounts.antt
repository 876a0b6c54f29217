-- The stretches of a table's slots.
use Rattle.std.proofs.Common.{◌≡◌, ◌∙◌, ℕ, ◌+◌, [], ◌∷◌, ◌++◌, map, ap}
use Rattle.std.specs.List.{range_with_len}
use Rattle.std.proofs.lemmas.List.{map-append}
use Rattle.odht_tool_core.specs.InfoNumbers.{DynParts, stretch_count}
use Rattle.odht_tool_core.proofs.Counting.{slots_more}

-- the counts with that of one stretch more
pub counts_more : (T : DynParts) (n : ℕ) → map (stretch_count T) (range_with_len 0 (n + 1)) ≡ map (stretch_count T) (range_with_len 0 n) ++ (stretch_count T n ∷ [])
counts_more T n = ap (map (stretch_count T)) (slots_more n) ∙ map-append (stretch_count T) (range_with_len 0 n) (n ∷ [])
