-- How a script is answered: its lines in their order, each answer after the one before.
--     ends_line b           the byte b is 10, the end of a line
--     script_lines script   the lines: what is before each end, and what follows the last end, unless it is empty
--     IsOtherAnswered F l t     t answers the line l, which is no command: as `check` of its bytes, or with `malformed`
--     IsLineAnswered c l o t o'   t answers the line l, its end included; o is the table before it, None where there is
--                           none, and o' the table after it
--     AreAnswered c ls o t o'   t answers the lines ls one after the other
--     IsAnsweredBy c script t   t answers the script, which begins without a table
use Rattle.std.specs.Prelude.{ℕ, ◌==◌, Bool, if◌then◌else◌, List, [], ◌∷◌, ◌++◌, length, Option, Some, None, codes}
use Rattle.std.specs.List.{slice_split}
use Rattle.odht_base.specs.Format.{Format}
use Rattle.odht_base.specs.Table.{Table as Plain}
use Rattle.odht_header.specs.Coding.{Coding}
use Rattle.odht_table.specs.Answers.{line_of, IsAnswered, IsChecked, IsRenewed}
use Rattle.odht_table.specs.Commands.{IsCheckText, IsCommandText}
use Rattle.odht_table.specs.declared.script.command.Command.{Command}
use Rattle.odht_table.specs.declared.script.command.Command.TheVariants.{New, OnTable}
use Rattle.odht_table.specs.declared.script.command.Request.{Request}

abbrev pub ends_line : ℕ → Bool
ends_line b = b == 10

-- the list without its last part, where that is empty
abbrev pub without_empty_last : List (List ℕ) → List (List ℕ)
without_empty_last [] = []
without_empty_last (part ∷ []) = if length part == 0 then [] else part ∷ []
without_empty_last (part ∷ next ∷ more) = part ∷ without_empty_last (next ∷ more)

abbrev pub script_lines : List ℕ → List (List ℕ)
script_lines script = without_empty_last (slice_split ends_line script)

pub data IsOtherAnswered (F : Format) (line : List ℕ) : List ℕ → Type 0 where
  malformed : ((bytes : List ℕ) → ¬ (IsCheckText line bytes)) → IsOtherAnswered F line (codes "malformed")
  checked : (bytes text : List ℕ) → IsCheckText line bytes → IsChecked F bytes text → IsOtherAnswered F line text

pub data IsLineAnswered (c : Coding ℕ ℕ) (line : List ℕ) : Option Plain → List ℕ → Option Plain → Type 0 where
  other : (old : Option Plain) (text : List ℕ) → ((command : Command) → ¬ (IsCommandText line command))
      → IsOtherAnswered c.format line text → IsLineAnswered c line old (line_of text) old
  renewed : (items percent : ℕ) (old new : Option Plain) (text : List ℕ) → IsCommandText line (New items percent)
      → IsRenewed c.format items percent text old new → IsLineAnswered c line old (line_of text) new
  no_table : (request : Request) → IsCommandText line (OnTable request) → IsLineAnswered c line None (line_of (codes "no table")) None
  answered : (request : Request) (P Q : Plain) (text : List ℕ) → IsCommandText line (OnTable request)
      → IsAnswered c P request text Q → IsLineAnswered c line (Some P) text (Some Q)

pub data AreAnswered (c : Coding ℕ ℕ) : List (List ℕ) → Option Plain → List ℕ → Option Plain → Type 0 where
  no_lines : (table : Option Plain) → AreAnswered c [] table [] table
  one_more : (line : List ℕ) (lines : List (List ℕ)) (old between new : Option Plain) (text texts : List ℕ)
      → IsLineAnswered c line old text between → AreAnswered c lines between texts new
      → AreAnswered c (line ∷ lines) old (text ++ texts) new

abbrev pub IsAnsweredBy : Coding ℕ ℕ → List ℕ → List ℕ → Type 0
IsAnsweredBy c script text = (last : Option Plain) × AreAnswered c (script_lines script) None text last
