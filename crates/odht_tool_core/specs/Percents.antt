-- The load factor, in percent, of a table that is made of the table of the bytes B.
--     kept_percent B       the percentage that the load factor of B is nearest to, and at least 1: the one that B was made
--                          with, if it was made with one
--     new_percent B p      the percentage p, where one is named, else this
use Rattle.std.specs.Prelude.{ℕ, max, List, Option, Some, None}
use Rattle.odht_base.specs.Decoded.{header_factor}
use Rattle.odht_tool_core.specs.InfoNumbers.{nearest_percent}

abbrev pub kept_percent : List ℕ → ℕ
kept_percent B = max 1 (nearest_percent (header_factor B))

abbrev pub new_percent : List ℕ → Option ℕ → ℕ
new_percent B (Some percent) = percent
new_percent B None = kept_percent B
