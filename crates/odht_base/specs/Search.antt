-- The search for a key k among cells: it goes through the slots in the probe order of k, and ends at the first that is
-- free or holds k.
--     stops_at cs k i        slot i is free or holds k
--     search_order F cs k    the slots in the order of k
--     search_end F cs k      the slot where the search ends, if there is one
--     is_at i o              the answer o is the slot i
--     reach F cs k           the position in the order where the search ends
--     groups_read F cs k     how many groups of sixteen the search reads
use Rattle.std.specs.Prelude.{ℕ, ◌+◌, ◌/◌, Bool, false, ◌||◌, ◌==◌, List, length, position, find, Option, Some, None}
use Rattle.std.specs.Option.{option_map_or}
use Rattle.odht_base.specs.Format.{Format, home}
use Rattle.odht_base.specs.Probe.{order}
use Rattle.odht_base.specs.Table.{Cells, cell_at, is_free, has_key}

abbrev pub stops_at : Cells → List ℕ → ℕ → Bool
stops_at cs k i = is_free cs i || has_key k (cell_at cs i)

abbrev pub search_order : Format → Cells → List ℕ → List ℕ
search_order F cs k = order (home F k (length cs)) (length cs)

unfoldable pub search_end : Format → Cells → List ℕ → Option ℕ
search_end F cs k = find (stops_at cs k) (search_order F cs k)

abbrev pub is_at : ℕ → Option ℕ → Bool
is_at i None = false
is_at i (Some j) = i == j

unfoldable pub reach : Format → Cells → List ℕ → Option ℕ
reach F cs k = position (stops_at cs k) (search_order F cs k)

abbrev pub groups_read : Format → Cells → List ℕ → ℕ
groups_read F cs k = option_map_or (λ p. p / 16 + 1) (reach F cs k) (length cs / 16)
