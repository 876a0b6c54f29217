-- Walks over a table that begin at a slot.
--     walk_from P i        the pairs at the slots from i on, in slot order
--     numbered i cs        the pairs of the cells cs, each with its slot, where the first cell is slot i
--     slots_from P i       the pairs at the slots from i on, each with its slot
use Rattle.std.specs.Prelude.{ℕ, ◌+◌, List, [], ◌∷◌, drop, filter_map, Some, None}
use Rattle.odht_base.specs.Table.{Pair, Cells, Table}

abbrev pub walk_from : Table → ℕ → List Pair
walk_from P i = filter_map (λ c. c) (drop i P.cells)

abbrev pub numbered : ℕ → Cells → List (ℕ × Pair)
numbered i [] = []
numbered i (None ∷ cs) = numbered (i + 1) cs
numbered i (Some p ∷ cs) = (i, p) ∷ numbered (i + 1) cs

abbrev pub slots_from : Table → ℕ → List (ℕ × Pair)
slots_from P i = numbered i (drop i P.cells)
