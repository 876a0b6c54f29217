-- How a command with numbers begins, in private contracts.
--     IsVerbText word v    the word is `new`, `put` or `get`, and v is the verb of this name
use Rattle.std.specs.Prelude.{◌≡◌, ℕ, List, codes}
use Rattle.odht_table.specs.declared.script.command.Verb.{Verb}
use Rattle.odht_table.specs.declared.script.command.Verb.TheVariants.{Make, Insert, Find}

abbrev pub IsVerbText : List ℕ → Verb → Type 0
IsVerbText word Make = word ≡ codes "new"
IsVerbText word Insert = word ≡ codes "put"
IsVerbText word Find = word ≡ codes "get"
