-- Which words and which lines of an input are texts of keys. R says which word is a text of which key.
--     IsTextOf f p w x     the word w is a text of x, which is of the type p, in the form f
--     AreLinesOf R bytes ws    ws are the lines of an input with these bytes; a last one that is empty and a text of no key
--                          may be left out
--     found_status all     the status where all keys were found, or not all
use Rattle.std.specs.Prelude.{◌≡◌, ◌⊎◌, Bool, ℕ, List, [], ◌∷◌, ◌++◌, if◌then◌else◌}
use Rattle.std.specs.Str.Lines.{lines}
use Rattle.odht_tool_core.specs.Keys.{IsReadAs, IsTextOfNone}
use Rattle.odht_tool_core.specs.ReadyShapes.{Typed, IsTypedWord, StandsFor}
use Rattle.odht_tool_core.specs.declared.forms.Form.{Form}
use Rattle.odht_tool_core.specs.declared.shapes.Part.{Part}
use Rattle.odht_tool_core.specs.declared.status.Status.{Status}
use Rattle.odht_tool_core.specs.declared.status.Status.TheVariants.{Done, NotDone}

abbrev pub IsTextOf : Form → (p : Part) → List ℕ → Typed p → Type 0
IsTextOf f p = IsReadAs (IsTypedWord f p) (StandsFor f p)

abbrev pub AreLinesOf : {K : Type 0} → (List ℕ → K → Type 0) → List ℕ → List (List ℕ) → Type 0
AreLinesOf R bytes ws = (lines bytes ≡ ws) ⊎ ((lines bytes ≡ ws ++ ([] ∷ [])) × IsTextOfNone R [])

abbrev pub found_status : Bool → Status
found_status all = if all then Done else NotDone
