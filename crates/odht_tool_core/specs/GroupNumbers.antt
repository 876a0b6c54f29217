-- How many groups a search reads.
--     place_of h s i       the position of the slot i in the probe order of the hash h among s slots
--     groups_to h s i      the number of groups of sixteen positions up to there; where the slot is not in the order, of
--                          all
--     groups_to_free ctrl b    how many groups a search from the home b reads at most, for any key: up to the first with
--                          a byte of the control bytes ctrl that counts as free; where there is none, all
--     most_groups o n      how many of n groups are looked at, by the bound o
--     capped o x           the number x; where it is above the bound o, one more than the bound
use Rattle.std.specs.Prelude.{ℕ, ◌+◌, ◌-◌, ◌/◌, ◌%◌, ◌==◌, min, is_some, length, position, List, Option, Some, None}
use Rattle.std.specs.List.{range_with_len}
use Rattle.std.specs.Option.{option_map_or}
use Rattle.odht_base.specs.Bounds.{group_of}
use Rattle.odht_base.specs.Groups.{first_free}
use Rattle.odht_base.specs.Probe.{order}

abbrev pub place_of : ℕ → ℕ → ℕ → Option ℕ
place_of h s i = position (λ j. j == i) (order (h % s) s)

unfoldable pub groups_to : ℕ → ℕ → ℕ → ℕ
groups_to h s i = option_map_or (λ p. p / 16 + 1) (place_of h s i) (s / 16)

unfoldable pub groups_to_free : List ℕ → ℕ → ℕ
groups_to_free ctrl b =
    let groups = (length ctrl - 16) / 16 in
    option_map_or (λ j. j + 1) (position (λ j. is_some (first_free (group_of ctrl b j))) (range_with_len 0 groups)) groups

abbrev pub most_groups : Option ℕ → ℕ → ℕ
most_groups None n = n
most_groups (Some bound) n = min bound n

abbrev pub capped : Option ℕ → ℕ → ℕ
capped None x = x
capped (Some bound) x = min x (bound + 1)
