-- What `get` does with the bytes B of a file. R says which word is a text of which key.
--     AreAnswers c B ks os os are the values for the keys ks: on valid bytes those that the table's map has, and on any
--                          bytes only values that are stored with the key
--     answered_status os   the status where these are the values
--     IsAnswered c l R B ws old new status the answers to the words ws were written, which took the writer from the bytes
--                          old to new; l is the line of a key and its value
--     IsWordAnswer c R B w a   a is the answer to the word w: the key that w is a text of, and its value; none of both where
--                          w is a text of no key, which is as if the key were absent
--     word_line l m w a    its line: that of the key and its value by l, or else that of the word by m
--     AreWordsAnswered c l m R B ws old new status     the answers to the words ws were written, which took the writer from the
--                          bytes old to new
--     AreWordsGot c l m R B ws old new r   what `get` returns, r, and writes for the words ws
--     words_of_types fs j B ws old new r o the same of bytes of the types o in the forms fs of keys and of values, where j is
--                          what is printed of each key
--     AreFileWordsGot B h ks j ws old new r    the same of the bytes of a file, where the hash function h, or none, is named,
--                          and ks is said of keys and values
use Rattle.std.specs.Prelude.{◌≡◌, ◌<◌, Bool, ℕ, List, [], ◌∷◌, ◌++◌, length, map, is_some, Option, Some, None, Result, Ok, Err, MatchResult}
use Rattle.std.specs.Io.KnownBytes.{Appends, Keeps}
use Rattle.std.specs.List.{list_all, AllZip}
use Rattle.odht.specs.Gets.{IsGet}
use Rattle.odht.specs.Lookups.{HaveStored}
use Rattle.odht_base.specs.Table.{Table}
use Rattle.odht_base.specs.Valid.{IsImage}
use Rattle.odht_header.specs.Coding.{Coding, value_for}
use Rattle.odht_header.specs.Refusals.{view_refusal}
use Rattle.odht_tool_core.specs.JsonAnswers.{answer_in, no_key_line}
use Rattle.odht_tool_core.specs.Keys.{IsTextOfNone}
use Rattle.odht_tool_core.specs.AnyShapes.{read_any, other_coding, types_of}
use Rattle.odht_tool_core.specs.Forms.{bytes_form}
use Rattle.odht_tool_core.specs.DynTexts.{IsDynamicOf, dynamic_text}
use Rattle.odht_tool_core.specs.Texts.{answers_by}
use Rattle.odht_tool_core.specs.declared.any.AnyShape.{AnyShape}
use Rattle.odht_tool_core.specs.declared.any.OtherShape.{OtherShape}
use Rattle.odht_tool_core.specs.declared.failure.Failure.{Failure}
use Rattle.odht_tool_core.specs.declared.failure.Failure.TheVariants.{Refused, Output, Memory}
use Rattle.odht_tool_core.specs.declared.forms.Form.{Form}
use Rattle.odht_tool_core.specs.declared.forms.GivenForms.{GivenForms}
use Rattle.odht_tool_core.specs.declared.forms.Kinds.{Kinds}
use Rattle.odht_tool_core.specs.declared.json.answers.Printed.{Printed}
use Rattle.odht_tool_core.specs.declared.shapes.Hash.{Hash}
use Rattle.odht_tool_core.specs.declared.status.Status.{Status}
use Rattle.odht_tool_tables.specs.KeyTexts.{found_status}

pub record AreAnswers {K V : Type 0} (c : Coding K V) (B : List ℕ) (ks : List K) (os : List (Option V)) : Type 0 where
  pub each : length os ≡ length ks
  pub on_valid : (P : Table) → IsImage c.format P B → os ≡ map (value_for c P) ks
  pub on_any : HaveStored c B ks os

abbrev pub answered_status : {V : Type 0} → List (Option V) → Status
answered_status os = found_status (list_all is_some os)

-- ---- the words of the command line
pub record IsAnswered {K V : Type 0} (c : Coding K V) (l : K × Option V → List ℕ) (R : List ℕ → K → Type 0) (B : List ℕ) (ws : List (List ℕ)) (old new : Option (List ℕ)) (returned : Status) : Type 0 where
  pub keys : List K
  pub texts : AllZip R ws keys
  pub values : List (Option V)
  pub answers : AreAnswers c B keys values
  pub written : Appends old new (answers_by l keys values)
  pub status : returned ≡ answered_status values

abbrev pub IsKeyOf : {K : Type 0} → (List ℕ → K → Type 0) → List ℕ → Option K → Type 0
IsKeyOf R w (Some k) = R w k
IsKeyOf R w None = IsTextOfNone R w

abbrev pub IsValueOf : {K V : Type 0} → Coding K V → List ℕ → Option K → Option V → Type 0
IsValueOf c B (Some k) o = IsGet c B k o
IsValueOf c B None o = o ≡ None

abbrev pub IsWordAnswer : {K V : Type 0} → Coding K V → (List ℕ → K → Type 0) → List ℕ → List ℕ → Option K × Option V → Type 0
IsWordAnswer c R B w a = IsKeyOf R w a.0 × IsValueOf c B a.0 a.1

abbrev pub line_of : {K V : Type 0} → (K × Option V → List ℕ) → List ℕ → Option K → Option V → List ℕ
line_of l none (Some k) o = l (k, o)
line_of l none None o = none

abbrev pub word_line : {K V : Type 0} → (K × Option V → List ℕ) → (List ℕ → List ℕ) → List ℕ → Option K × Option V → List ℕ
word_line l m w a = line_of l (m w) a.0 a.1

abbrev pub word_lines : {K V : Type 0} → (K × Option V → List ℕ) → (List ℕ → List ℕ) → List (List ℕ) → List (Option K × Option V) → List ℕ
word_lines l m [] answers = []
word_lines l m (w ∷ ws) [] = []
word_lines l m (w ∷ ws) (a ∷ answers) = word_line l m w a ++ word_lines l m ws answers

abbrev pub has_value : {K V : Type 0} → Option K × Option V → Bool
has_value a = is_some a.1

abbrev pub words_status : {K V : Type 0} → List (Option K × Option V) → Status
words_status answers = found_status (list_all has_value answers)

pub record AreWordsAnswered {K V : Type 0} (c : Coding K V) (l : K × Option V → List ℕ) (m : List ℕ → List ℕ) (R : List ℕ → K → Type 0) (B : List ℕ) (ws : List (List ℕ)) (old new : Option (List ℕ)) (returned : Status) : Type 0 where
  pub answers : List (Option K × Option V)
  pub each : AllZip (IsWordAnswer c R B) ws answers
  pub written : Appends old new (word_lines l m ws answers)
  pub status : returned ≡ words_status answers

module _ {K V : Type 0} (c : Coding K V) (l : K × Option V → List ℕ) (m : List ℕ → List ℕ) (R : List ℕ → K → Type 0) (B : List ℕ) where
  abbrev pub AreWordsGot : List (List ℕ) → Option (List ℕ) → Option (List ℕ) → Result Status Failure → Type 0
  AreWordsGot ws old new (Ok status) = (view_refusal c.format B ≡ None) × AreWordsAnswered c l m R B ws old new status
  AreWordsGot ws old new (Err (Refused error)) = (view_refusal c.format B ≡ Some error) × Keeps old new
  AreWordsGot ws old new (Err Memory) = (view_refusal c.format B ≡ None) × Keeps old new
  AreWordsGot ws old new (Err (Output error)) = (view_refusal c.format B ≡ None) × (0 < length ws)
  AreWordsGot ws old new (Err _) = ⊥

-- ---- of a file
abbrev pub words_of_types : Form × Form → Printed → List ℕ → List (List ℕ) → Option (List ℕ) → Option (List ℕ) → Result Status Failure → OtherShape → Type 0
words_of_types fs j B ws old new r o =
    let k = bytes_form fs.0 o.key in
    AreWordsGot (other_coding o) (answer_in j (dynamic_text k) (dynamic_text (bytes_form fs.1 o.value))) (no_key_line j) (IsDynamicOf k) B ws old new r

-- with no shape there is its failure
abbrev pub by_shape : {X : Type 0} → List ℕ → Option Hash → Kinds → Option (List ℕ) → Option (List ℕ) → Result X Failure → (AnyShape × GivenForms → Type 0) → Type 0
by_shape B h ks old new r P = MatchResult (read_any B h ks) P (λ failure. (r ≡ Err failure) × Keeps old new)

abbrev pub words_of_forms : Printed → List ℕ → List (List ℕ) → Option (List ℕ) → Option (List ℕ) → Result Status Failure → AnyShape × GivenForms → Type 0
words_of_forms j B ws old new r x = words_of_types (x.1.key, x.1.value) j B ws old new r (types_of x.0)

abbrev pub AreFileWordsGot : List ℕ → Option Hash → Kinds → Printed → List (List ℕ) → Option (List ℕ) → Option (List ℕ) → Result Status Failure → Type 0
AreFileWordsGot B h ks j ws old new r = by_shape B h ks old new r (words_of_forms j B ws old new r)
