-- The words that say which line of a key counts.
--     duplicates_named word    what the word asks for, if it is one of them
use Rattle.std.specs.Prelude.{ℕ, List, Option, Some, None, bytes_eq, codes, if◌then◌else◌}
use Rattle.odht_tool_core.specs.declared.arguments.duplicates.Duplicates.{Duplicates}
use Rattle.odht_tool_core.specs.declared.arguments.duplicates.Duplicates.TheVariants.{Last, First, Error}

abbrev pub duplicates_named : List ℕ → Option Duplicates
duplicates_named word =
    if bytes_eq word (codes "last") then Some Last
    else if bytes_eq word (codes "first") then Some First
    else if bytes_eq word (codes "error") then Some Error
    else None
