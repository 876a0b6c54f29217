-- Lines of a key and a value, with a byte d between them, where w is wanted of values.
--     IsDelimiter b        the byte b may be named as one: a printable character of ASCII that is no quote
--     delimiter_named word the byte that the word names: its own, or of `\t` a tab
--     AreParts d w line front back   the front and the back of the line are on either side of its first byte d; or it has
--                          none, and is the front, and nothing is wanted of values
--     IsPairOf d w K V line p   the front is the text of the key of p, by K, and the back that of its value, by V
--     IsNextPair d w K V o o' line p   this is the next line of the bytes o, and p its pair; o' are the bytes after it
--     IsFaultOf d w K V line f  the fault f of the line: there is no byte d in it, and values are something; or its front
--                          is no word of K; or that is one, and its back none of V
--     line_text d n f p q line  what is said of the fault f of line n, which is this, where p is wanted of keys, q of values
--     no_delimiter_text ds n line   what is said of line n, which is this, and has no delimiter; ds is that byte alone
--     earlier_text n key        what is said of line n where its key, of this text, has a value already
--     repeated_text d n line    the same of the key of the line
use Rattle.std.specs.Prelude.{◌≡◌, ◌≢◌, ◌⊎◌, ℕ, ◌==◌, ◌||◌, ◌&&◌, not, nat_lt, Bool, List, [], ◌∷◌, ◌++◌, All, Option, Some, None, bytes_eq, codes, if◌then◌else◌}
use Rattle.odht_tool_core.specs.Cuts.{IsCutAt}
use Rattle.odht_tool_core.specs.InputLines.{IsNextLine}
use Rattle.odht_tool_core.specs.Misreads.{misread_text, part_of, place_text}
use Rattle.odht_tool_core.specs.Shown.{shown_text}
use Rattle.odht_tool_core.specs.declared.failure.LineFault.{LineFault}
use Rattle.odht_tool_core.specs.declared.failure.LineFault.TheVariants.{NoTab, Key, Value}
use Rattle.odht_tool_core.specs.declared.misread.Wanted.{Wanted}
use Rattle.odht_tool_core.specs.declared.misread.Wanted.TheVariants.{Nothing}

abbrev pub is_delimiter : ℕ → Bool
is_delimiter b = nat_lt 31 b && nat_lt b 127 && not (b == 34 || b == 39)

abbrev pub delimiter_named : List ℕ → Option ℕ
delimiter_named [] = None
delimiter_named (b ∷ []) = if is_delimiter b then Some b else None
delimiter_named (b ∷ c ∷ rest) = if bytes_eq (b ∷ c ∷ rest) (codes "\\t") then Some 9 else None

abbrev pub AreParts : ℕ → Wanted → List ℕ → List ℕ → List ℕ → Type 0
AreParts d w line front back = IsCutAt d line front back ⊎ (All (λ x. x ≢ d) line × (w ≡ Nothing) × (front ≡ line) × (back ≡ []))

pub record IsPairOf {X Y : Type 0} (d : ℕ) (w : Wanted) (K : List ℕ → X → Type 0) (V : List ℕ → Y → Type 0) (line : List ℕ) (p : X × Y) : Type 0 where
  pub front : List ℕ
  pub back : List ℕ
  pub parts : AreParts d w line front back
  pub key : K front p.0
  pub value : V back p.1

abbrev pub IsNextPair : {X Y : Type 0} → ℕ → Wanted → (List ℕ → X → Type 0) → (List ℕ → Y → Type 0) → Option (List ℕ) → Option (List ℕ) → List ℕ → X × Y → Type 0
IsNextPair d w K V old new line p = IsNextLine old new line × IsPairOf d w K V line p

abbrev pub IsFaultOf : ℕ → Wanted → (List ℕ → Type 0) → (List ℕ → Type 0) → List ℕ → LineFault → Type 0
IsFaultOf d w K V line NoTab = All (λ x. x ≢ d) line × (w ≢ Nothing)
IsFaultOf d w K V line Key = (front back : List ℕ) × AreParts d w line front back × (K front → ⊥)
IsFaultOf d w K V line Value = (front back : List ℕ) × AreParts d w line front back × K front × (V back → ⊥)

-- ---- in words
abbrev pub no_delimiter_text : List ℕ → ℕ → List ℕ → List ℕ
no_delimiter_text delimiter n line =
    place_text (Some n) ++ (shown_text line ++ codes " has no " ++ shown_text delimiter ++ codes " between key and value")

abbrev pub line_text : ℕ → ℕ → LineFault → Wanted → Wanted → List ℕ → List ℕ
line_text d n NoTab p q line = if d == 9 then misread_text (Some n) NoTab p line else no_delimiter_text (d ∷ []) n line
line_text d n Key p q line = misread_text (Some n) Key p (part_of d Key line)
line_text d n Value p q line = misread_text (Some n) Value q (part_of d Value line)

abbrev pub earlier_text : ℕ → List ℕ → List ℕ
earlier_text n key = place_text (Some n) ++ (codes "the key " ++ shown_text key ++ codes " is in the table already")

abbrev pub repeated_text : ℕ → ℕ → List ℕ → List ℕ
repeated_text d n line = earlier_text n (part_of d Key line)
