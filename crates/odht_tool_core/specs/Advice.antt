-- What helps where the searches of a table are long, by its numbers n.
--     reason a             the words for it
--     options a w          the options of `odht rebuild` for it, w with `--whole`
--     needs_whole n        some search is above the bound of 128 groups, with which `odht rebuild` checks without `--whole`
--     rebuilt_name at name what `odht rebuild` takes: the name of the file; FILE for a file of the table alone, where the
--                          table stands at a byte of the file, or the file is standard input
--     help_text a name w   what helps, as `info` tells it of a file of this name
use Rattle.std.specs.Prelude.{ℕ, Bool, true, false, ◌||◌, bytes_eq, is_some, nat_lt, List, ◌++◌, codes, Option, if◌then◌else◌}
use Rattle.odht_tool_core.specs.declared.advice.Advice.{Advice}
use Rattle.odht_tool_core.specs.declared.advice.Advice.TheVariants.{LowerLoad, Mixing}
use Rattle.odht_tool_core.specs.declared.numbers.Numbers.{Numbers}

abbrev pub reason : Advice → List ℕ
reason LowerLoad = codes "a lower load"
reason Mixing = codes "another hash function"

-- ---- how to do it
abbrev pub needs_whole : Numbers → Bool
needs_whole n = nat_lt 128 n.longest_miss

abbrev pub options : Advice → Bool → List ℕ
options LowerLoad false = codes "--percent 50"
options LowerLoad true = codes "--percent 50 --whole"
options Mixing false = codes "--hash xxh64"
options Mixing true = codes "--hash xxh64 --whole"

abbrev pub rebuilt_name : Option ℕ → List ℕ → List ℕ
rebuilt_name at name = if is_some at || bytes_eq name (codes "-") then codes "FILE" else name

abbrev pub help_text : Advice → List ℕ → Bool → List ℕ
help_text a name is_whole = reason a ++ (codes ": odht rebuild " ++ (name ++ (codes " " ++ options a is_whole)))
