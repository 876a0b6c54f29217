-- What `delete` makes of the bytes B of a file, and of the words or the lines of an input that name keys. R says which line
-- is a text of which key.
--     AreLinesKeys R o ws ks   ws are the lines of an input with the bytes o, where they are known, but that an empty last one
--                          that is a text of no key may be left out; and they are texts of the keys ks
--     are_lines_keys f o ws s ks   the same of keys of the shape s, in the form f
--     IsFirstNoKey R p bytes t one of the lines of these bytes is the first that is a text of no key, where p is wanted, and no
--                          empty last one; the text t tells it with its number, counted from 1
--     TellsLine R p o f    the failure f tells so of the lines of the bytes o, where they are known; or the reader failed, or
--                          there was no memory
--     is_line_fault f o s g    the same of keys of the shape s, in the form f
--     are_named f o s ws ks N  the words or lines ws are texts of the keys ks of the shape s, in the form f, where N names
--                          words of the command line, or the lines of an input with the bytes o
--     is_named_fault f o s g N the failure g tells of the first of them that is a text of no key; or the reader failed, or
--                          there was no memory
--     IsDeletedBy B h ks o input B' status N   B' are made of the table of the bytes B, in which no rule is broken, without
--                          the keys that N names; h names a hash function, or none, ks is said of keys and values, and o
--                          is the bound of searches
--     IsFailureBy B h ks o input f N   f is the failure of the shape, or else the first rule that B breaks, or else tells of
--                          the first word or line that is no key, or that the reader failed, or that there was no memory
-- The parts of this, of the line of the number n:
--     IsOneLineMore R o o' ws ws' ks ks'   ws' and ks' are one line more, the next one of the bytes o, and its key; o' are the
--                          bytes after it
--     IsLinesEnd R o ws ws' ks ks'     there is no line in the bytes o, or an empty last one that is no key, and no more is in
--                          ws' and ks'
--     TellsNumbered p n line f     the failure f tells that this line is no key, or there was no memory
--     IsNextFailure R p n o f  f tells so of the next line of the bytes o; or the reader failed; or that line was read, and
--                          there was no memory
use Rattle.std.specs.Prelude.{◌≡◌, ◌≢◌, ◌⊎◌, ⊤, ℕ, ◌+◌, List, [], ◌∷◌, ◌++◌, length, map, Option, Some, IfSome, Ok, MatchResult, string_bytes}
use Rattle.std.specs.Io.KnownBytes.{IsAtEnd}
use Rattle.std.specs.List.{AllZip}
use Rattle.std.specs.Str.Lines.{lines}
use Rattle.odht_base.specs.Table.{Table}
use Rattle.odht_base.specs.Valid.{IsImage}
use Rattle.odht_tool_writes.specs.Deletes.{IsLeft, are_keys, is_fault}
use Rattle.odht_tool_tables.specs.KeyTexts.{AreLinesOf}
use Rattle.odht_tool_tables.specs.Wholes.{asked_whole}
use Rattle.odht_tool_core.specs.AnyShapes.{any_format, any_key}
use Rattle.odht_tool_core.specs.InputLines.{AreLeft, IsNextLine}
use Rattle.odht_tool_core.specs.Keys.{IsLeftOut, IsTextOfNone}
use Rattle.odht_tool_core.specs.Forms.{bytes_form}
use Rattle.odht_tool_core.specs.Misreads.{misread_text}
use Rattle.odht_tool_core.specs.DynTexts.{IsDynamicOf, dynamic_wanted}
use Rattle.odht_tool_core.specs.declared.any.AnyShape.{AnyShape}
use Rattle.odht_tool_core.specs.declared.arguments.Keys.{Keys}
use Rattle.odht_tool_core.specs.declared.arguments.Keys.TheVariants.{Words, Lines}
use Rattle.odht_tool_core.specs.declared.failure.Failure.{Failure}
use Rattle.odht_tool_core.specs.declared.failure.Failure.TheVariants.{Input, Memory, Misread}
use Rattle.odht_tool_core.specs.declared.failure.LineFault.TheVariants.{Key}
use Rattle.odht_tool_core.specs.declared.forms.Form.{Form}
use Rattle.odht_tool_core.specs.declared.forms.GivenForms.{GivenForms}
use Rattle.odht_tool_core.specs.declared.forms.Kinds.{Kinds}
use Rattle.odht_tool_core.specs.declared.misread.Wanted.{Wanted}
use Rattle.odht_tool_core.specs.declared.shapes.Hash.{Hash}
use Rattle.odht_tool_core.specs.declared.status.Status.{Status}

-- ---- the keys of the lines
abbrev pub AreLinesKeys : {K : Type 0} → (List ℕ → K → Type 0) → Option (List ℕ) → List (List ℕ) → List K → Type 0
AreLinesKeys R input ws ks = AllZip R ws ks × IfSome input (λ bytes. AreLinesOf R bytes ws)

abbrev pub are_lines_keys : Form → Option (List ℕ) → List (List ℕ) → AnyShape → List (List ℕ) → Type 0
are_lines_keys f input ws s ks = AreLinesKeys (IsDynamicOf (bytes_form f (any_key s))) input ws ks

pub record IsFirstNoKey {K : Type 0} (R : List ℕ → K → Type 0) (p : Wanted) (bytes text : List ℕ) : Type 0 where
  pub before : List (List ℕ)
  pub line : List ℕ
  pub after : List (List ℕ)
  pub place : lines bytes ≡ before ++ (line ∷ after)
  pub keys : List K
  pub earlier : AllZip R before keys
  pub fault : IsTextOfNone R line
  pub more : line ≡ [] → after ≢ []
  pub misread : text ≡ misread_text (Some (length before + 1)) Key p line

abbrev pub TellsLine : {K : Type 0} → (List ℕ → K → Type 0) → Wanted → Option (List ℕ) → Failure → Type 0
TellsLine R p input (Misread message) = IfSome input (λ bytes. IsFirstNoKey R p bytes (string_bytes message))
TellsLine R p input (Input error) = ⊤
TellsLine R p input Memory = ⊤
TellsLine R p input _ = ⊥

abbrev pub is_line_fault : Form → Option (List ℕ) → AnyShape → Failure → Type 0
is_line_fault f input s failure =
    let k = bytes_form f (any_key s) in
    TellsLine (IsDynamicOf k) (dynamic_wanted k) input failure

-- ---- of a file
abbrev pub are_named : Form → Option (List ℕ) → AnyShape → List (List ℕ) → List (List ℕ) → Keys → Type 0
are_named f input s ws ks (Words words) = (ws ≡ map string_bytes words.items) × are_keys f ws s ks
are_named f input s ws ks Lines = are_lines_keys f input ws s ks

abbrev pub is_named_fault : Form → Option (List ℕ) → AnyShape → Failure → Keys → Type 0
is_named_fault f input s failure (Words words) = is_fault f (map string_bytes words.items) s failure
is_named_fault f input s failure Lines = is_line_fault f input s failure

pub record IsDeletedBy (B : List ℕ) (h : Option Hash) (ks : Kinds) (o : Option ℕ) (input : Option (List ℕ)) (B' : List ℕ) (status : Status) (named : Keys) : Type 0 where
  pub shape : AnyShape
  pub forms : GivenForms
  pub whole : asked_whole B h ks o ≡ Ok (shape, forms)
  pub table : Table
  pub image : IsImage (any_format shape) table B
  pub words : List (List ℕ)
  pub keys : List (List ℕ)
  pub texts : are_named forms.key input shape words keys named
  pub left : IsLeft (any_format shape) keys table B' status

abbrev pub IsFailureBy : List ℕ → Option Hash → Kinds → Option ℕ → Option (List ℕ) → Failure → Keys → Type 0
IsFailureBy B h ks o input failure named =
    MatchResult (asked_whole B h ks o)
    (λ x. is_named_fault x.1.key input x.0 failure named)
    (λ f. failure ≡ f)

-- ---- one line
pub record IsOneLineMore {K : Type 0} (R : List ℕ → K → Type 0) (old new : Option (List ℕ)) (ws ws' : List (List ℕ)) (ks ks' : List K) : Type 0 where
  pub line : List ℕ
  pub key : K
  pub next : IsNextLine old new line
  pub text : R line key
  pub lines_are : ws' ≡ ws ++ (line ∷ [])
  pub keys_are : ks' ≡ ks ++ (key ∷ [])

pub record IsLinesEnd {K : Type 0} (R : List ℕ → K → Type 0) (old : Option (List ℕ)) (ws ws' : List (List ℕ)) (ks ks' : List K) : Type 0 where
  pub end : IsAtEnd old ⊎ IsLeftOut R old
  pub lines_are : ws' ≡ ws
  pub keys_are : ks' ≡ ks

abbrev pub TellsNumbered : Wanted → ℕ → List ℕ → Failure → Type 0
TellsNumbered p n line (Misread message) = string_bytes message ≡ misread_text (Some n) Key p line
TellsNumbered p n line Memory = ⊤
TellsNumbered p n line _ = ⊥

pub record IsNextNoKey {K : Type 0} (R : List ℕ → K → Type 0) (p : Wanted) (number : ℕ) (old : Option (List ℕ)) (text : List ℕ) : Type 0 where
  pub then : Option (List ℕ)
  pub line : List ℕ
  pub next : IsNextLine old then line
  pub fault : IsTextOfNone R line
  pub more : line ≡ [] → AreLeft then
  pub misread : text ≡ misread_text (Some number) Key p line

abbrev pub IsNextFailure : {K : Type 0} → (List ℕ → K → Type 0) → Wanted → ℕ → Option (List ℕ) → Failure → Type 0
IsNextFailure R p n old (Misread message) = IsNextNoKey R p n old (string_bytes message)
IsNextFailure R p n old (Input error) = ⊤
IsNextFailure R p n old Memory = (then : Option (List ℕ)) × (line : List ℕ) × IsNextLine old then line
IsNextFailure R p n old _ = ⊥
