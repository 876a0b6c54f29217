-- Words and lines that are read as keys. R says which word is a text of which key.
--     IsReadAs W S w x     w is a word, by W, and stands for x, by S
--     IsTextOfNone R w     the word w is a text of no key
--     IsFirstFault R ws w  the word w is one of ws, and the first that is a text of no key
--     TellsWord p w f      the failure f tells that the word w is no key, where p is wanted, or there was no memory for it
--     TellsFault R p ws f  f tells so of the first of the words ws that is a text of no key, or there was no memory
--     IsLeftOut R o        the bytes o, where they are known, are one line, which is empty, and that is a text of no key
--     IsNoKeyLine R o o' line  this is the next line of the bytes o, and a text of no key; another one comes after it where
--                          it is empty, and else o' are the bytes after it
--     IsKeyRead R o o' k   k is the key of the next line of the bytes o, and o' are those after it
--     IsKeyAdded W S w ks ks' a    a is what became of the text w of a key, by W and S: its key is the last of ks', and those
--                          before it are ks; or there is none, and ks' is ks
--     IsNextKey R o o' line ks ks' n   n is what the next line of the bytes o is, this one, and o' are those after it, except an
--                          empty line that is no key; its key is the last of ks', and those before it are ks. At the end there
--                          is none, nor is there where an empty last line is no key, and ks' is ks
--     IsUnread o f         f is why the next line of the bytes o gave no key: the reader failed, or it was read, and there was
--                          no memory
use Rattle.std.specs.Prelude.{◌≡◌, ◌⊎◌, ⊤, ℕ, List, [], ◌∷◌, ◌++◌, Option, None, IfSome, string_bytes}
use Rattle.std.specs.Io.KnownBytes.{IsAtEnd}
use Rattle.std.specs.List.{AllZip}
use Rattle.std.specs.Str.Lines.{lines}
use Rattle.odht_tool_core.specs.InputLines.{IsBehind, IsNextLine}
use Rattle.odht_tool_core.specs.declared.failure.Failure.{Failure}
use Rattle.odht_tool_core.specs.declared.failure.Failure.TheVariants.{Input, Memory, Misread}
use Rattle.odht_tool_core.specs.declared.failure.LineFault.TheVariants.{Key}
use Rattle.odht_tool_core.specs.declared.misread.Wanted.{Wanted}
use Rattle.odht_tool_core.specs.Misreads.{misread_text}
use Rattle.odht_tool_core.specs.declared.key_lists.KeyAdded.{KeyAdded}
use Rattle.odht_tool_core.specs.declared.key_lists.KeyAdded.TheVariants.{Key as is_added, NoKey as is_none, NoMemory}
use Rattle.odht_tool_core.specs.declared.keys.TakenKey.{TakenKey}
use Rattle.odht_tool_core.specs.declared.keys.TakenKey.TheVariants.{Key as is_key, NoKey, End}

abbrev pub IsReadAs : {X : Type 0} → (List ℕ → Type 0) → (List ℕ → X → Type 0) → List ℕ → X → Type 0
IsReadAs W S word x = W word × S word x

abbrev pub IsTextOfNone : {K : Type 0} → (List ℕ → K → Type 0) → List ℕ → Type 0
IsTextOfNone {K = K} R word = (k : K) → R word k → ⊥

pub record IsFirstFault {K : Type 0} (R : List ℕ → K → Type 0) (ws : List (List ℕ)) (word : List ℕ) : Type 0 where
  pub before : List (List ℕ)
  pub after : List (List ℕ)
  pub place : ws ≡ before ++ (word ∷ after)
  pub keys : List K
  pub earlier : AllZip R before keys
  pub fault : IsTextOfNone R word

abbrev pub TellsWord : Wanted → List ℕ → Failure → Type 0
TellsWord p word (Misread message) = string_bytes message ≡ misread_text None Key p word
TellsWord p word Memory = ⊤
TellsWord p word _ = ⊥

abbrev pub TellsFault : {K : Type 0} → (List ℕ → K → Type 0) → Wanted → List (List ℕ) → Failure → Type 0
TellsFault R p ws (Misread message) = (word : List ℕ) × IsFirstFault R ws word × (string_bytes message ≡ misread_text None Key p word)
TellsFault R p ws Memory = ⊤
TellsFault R p ws _ = ⊥

abbrev pub IsLeftOut : {K : Type 0} → (List ℕ → K → Type 0) → Option (List ℕ) → Type 0
IsLeftOut R old = IfSome old (λ bytes. lines bytes ≡ [] ∷ []) × IsTextOfNone R []

abbrev pub IsNoKeyLine : {K : Type 0} → (List ℕ → K → Type 0) → Option (List ℕ) → Option (List ℕ) → List ℕ → Type 0
IsNoKeyLine R old new line = (then : Option (List ℕ)) × IsNextLine old then line × IsTextOfNone R line × IsBehind then new line

abbrev pub IsKeyRead : {K : Type 0} → (List ℕ → K → Type 0) → Option (List ℕ) → Option (List ℕ) → K → Type 0
IsKeyRead R old new key = (line : List ℕ) × IsNextLine old new line × R line key

abbrev pub IsKeyAdded : {K : Type 0} → (List ℕ → Type 0) → (List ℕ → K → Type 0) → List ℕ → List K → List K → KeyAdded → Type 0
IsKeyAdded {K = K} W S word before after is_added = (key : K) × (after ≡ before ++ (key ∷ [])) × IsReadAs W S word key
IsKeyAdded W S word before after is_none = (after ≡ before) × (W word → ⊥)
IsKeyAdded W S word before after NoMemory = after ≡ before

abbrev pub IsNextKey : {K : Type 0} → (List ℕ → K → Type 0) → Option (List ℕ) → Option (List ℕ) → List ℕ → List K → List K → TakenKey → Type 0
IsNextKey {K = K} R old new line before after is_key = (key : K) × (after ≡ before ++ (key ∷ [])) × IsNextLine old new line × R line key
IsNextKey R old new line before after NoKey = (after ≡ before) × IsNoKeyLine R old new line
IsNextKey R old new line before after End = (after ≡ before) × (IsAtEnd old ⊎ IsLeftOut R old)

abbrev pub IsUnread : Option (List ℕ) → Failure → Type 0
IsUnread old (Input error) = ⊤
IsUnread old Memory = (then : Option (List ℕ)) × (line : List ℕ) × IsNextLine old then line
IsUnread old _ = ⊥
