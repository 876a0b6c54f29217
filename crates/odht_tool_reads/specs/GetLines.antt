-- What `get -` does with the bytes B of a file and the lines of an input. R says which line is a text of which key.
--     all_lines live       all lines of an input: the next is line 1, and none is before it
--     lines_read n ws      those of the lines ws of an input, of which line n is the first, that are read: all, unless one has
--                          the number 2^64 - 1
--     status_after b s     the status of lines of which those in front were all found, as b says, and the others have the
--                          status s
--     AreFirstAnswered c l R B live ws old new    the answers to some first lines of ws, all of them texts of keys, were
--                          written, which took the writer from the bytes old to new; l is the line of a key and its value.
--                          They are as many as some batches have, but where `live` holds
--     IsLineFault c l R p B n ws t old new    one of the lines ws is the first that is a text of no key, where p is wanted,
--                          and no empty last one; the text t tells it with its number, counted from n, and the answers to
--                          those before it were written
--     AreKeysEnded R ws n  where no more of the lines ws, of which line n is the first, are keys: none is left, or the next one
--                          is a text of no key, or n is the number of the first that is not read
--     AreFirstAsked R x ws     some first lines of ws, the lines x, are texts of keys, and of the last of them, one or more,
--                          the answers were to be written. But where they are answered as they come those before are as many
--                          as some batches have, and these are a batch, or fewer where the lines of keys end
--     AreAllAnswered c l R B x bytes old new status   the answers to the lines x of an input with these bytes were written,
--                          but for an empty last one that is a text of no key
--     AreLinesAnswered c l R p B x input old new r    what is returned, r, and written once the table is opened, where
--                          the input has these bytes, which may be known, of the lines x: x.number is the number of the
--                          first of them, x.is_all_found says whether the keys of those in front were found, and they are
--                          answered as they come where x.is_live holds. Where the writer failed some answers were to be
--                          written; how much of them it then has no call of it tells
--     AreLinesGot c l R p B x input old new r     the same of opening too
--     lines_of_shape fs j x B input old new r s   the same of bytes of the shape s in the forms fs of keys and of values,
--                          where j is what is printed of each key
--     lines_of_other fs j x B input old new r o   the same of bytes of the shape o, which is no ready one
--     lines_of_any fs j x B input old new r s     the same of any shape
--     AreFileLinesGot B h ks j x input old new r  the same of the bytes of a file, where the hash function h, or none, is
--                          named, and ks is said of keys and values
-- Nothing is said of answers where the bytes of the input are not known.
use Rattle.std.specs.Prelude.{◌≡◌, ◌≢◌, ◌⊎◌, ℕ, ◌+◌, ◌-◌, ◌*◌, ◌^◌, ◌<◌, ◌≤◌, Bool, true, false, List, [], ◌∷◌, ◌++◌, length, take, Option, None, Some, IfSome, Result, Ok, Err, string_bytes}
use Rattle.std.specs.Io.KnownBytes.{Keeps}
use Rattle.std.specs.List.{AllZip}
use Rattle.std.specs.Str.Lines.{lines}
use Rattle.odht_header.specs.Coding.{Coding}
use Rattle.odht_header.specs.Refusals.{view_refusal}
use Rattle.odht_tool_reads.specs.Gets.{IsAnswered, by_shape}
use Rattle.odht_tool_tables.specs.KeyTexts.{AreLinesOf, IsTextOf}
use Rattle.odht_tool_core.specs.JsonAnswers.{answer_in}
use Rattle.odht_tool_core.specs.Keys.{IsTextOfNone}
use Rattle.odht_tool_core.specs.AnyShapes.{other_coding}
use Rattle.odht_tool_core.specs.Misreads.{misread_text, typed_wanted}
use Rattle.odht_tool_core.specs.ReadyShapes.{typed_text, shape_coding}
use Rattle.odht_tool_core.specs.generated.ShapeList.{key_part, value_part}
use Rattle.odht_tool_core.specs.Forms.{bytes_form}
use Rattle.odht_tool_core.specs.DynTexts.{IsDynamicOf, dynamic_text, dynamic_wanted}
use Rattle.odht_tool_reads.specs.declared.lookups.TheConstants.{BATCH}
use Rattle.odht_tool_core.specs.declared.any.AnyShape.{AnyShape}
use Rattle.odht_tool_core.specs.declared.any.AnyShape.TheVariants.{Ready, Other}
use Rattle.odht_tool_core.specs.declared.any.OtherShape.{OtherShape}
use Rattle.odht_tool_core.specs.declared.failure.Failure.{Failure}
use Rattle.odht_tool_core.specs.declared.failure.Failure.TheVariants.{Refused, Input, Misread, Output, Memory}
use Rattle.odht_tool_core.specs.declared.failure.LineFault.TheVariants.{Key}
use Rattle.odht_tool_core.specs.declared.forms.Form.{Form}
use Rattle.odht_tool_core.specs.declared.forms.GivenForms.{GivenForms}
use Rattle.odht_tool_core.specs.declared.forms.Kinds.{Kinds}
use Rattle.odht_tool_core.specs.declared.json.answers.Printed.{Printed}
use Rattle.odht_tool_core.specs.declared.misread.Wanted.{Wanted}
use Rattle.odht_tool_core.specs.declared.shapes.Hash.{Hash}
use Rattle.odht_tool_core.specs.declared.generated.shapes.Shape.{Shape}
use Rattle.odht_tool_core.specs.declared.status.Status.{Status}
use Rattle.odht_tool_core.specs.declared.status.Status.TheVariants.{NotDone}
use Rattle.odht_tool_reads.specs.declared.lookups.Coming.{Coming}

abbrev pub all_lines : Bool → Coming
all_lines live = record { is_live = live; number = 1; is_all_found = true }

abbrev pub lines_read : ℕ → List (List ℕ) → List (List ℕ)
lines_read n ws = take (2 ^ 64 - 1 - n) ws

abbrev pub status_after : Bool → Status → Status
status_after true status = status
status_after false status = NotDone

pub record AreAllAnswered {K V : Type 0} (c : Coding K V) (l : K × Option V → List ℕ) (R : List ℕ → K → Type 0) (B : List ℕ) (x : Coming) (bytes : List ℕ) (old new : Option (List ℕ)) (returned : Status) : Type 0 where
  pub words : List (List ℕ)
  pub place : AreLinesOf R bytes words
  pub status : Status
  pub answered : IsAnswered c l R B (lines_read x.number words) old new status
  pub after : returned ≡ status_after x.is_all_found status

pub record AreFirstAnswered {K V : Type 0} (c : Coding K V) (l : K × Option V → List ℕ) (R : List ℕ → K → Type 0) (B : List ℕ) (live : Bool) (ws : List (List ℕ)) (old new : Option (List ℕ)) : Type 0 where
  pub before : List (List ℕ)
  pub after : List (List ℕ)
  pub place : ws ≡ before ++ after
  pub batches : ℕ
  pub counted : live ≡ false → length before ≡ batches * BATCH
  pub status : Status
  pub answered : IsAnswered c l R B before old new status

pub record IsLineFault {K V : Type 0} (c : Coding K V) (l : K × Option V → List ℕ) (R : List ℕ → K → Type 0) (p : Wanted) (B : List ℕ) (number : ℕ) (ws : List (List ℕ)) (text : List ℕ) (old new : Option (List ℕ)) : Type 0 where
  pub before : List (List ℕ)
  pub word : List ℕ
  pub after : List (List ℕ)
  pub place : ws ≡ before ++ (word ∷ after)
  pub fault : IsTextOfNone R word
  pub more : word ≡ [] → after ≢ []
  pub misread : text ≡ misread_text (Some (length before + number)) Key p word
  pub status : Status
  pub answered : IsAnswered c l R B before old new status

abbrev pub AreKeysEnded : {K : Type 0} → (List ℕ → K → Type 0) → List (List ℕ) → ℕ → Type 0
AreKeysEnded R [] n = Unit {0}
AreKeysEnded R (w ∷ ws) n = IsTextOfNone R w ⊎ (n ≡ 2 ^ 64 - 1)

pub record AreFirstAsked {K : Type 0} (R : List ℕ → K → Type 0) (x : Coming) (ws : List (List ℕ)) : Type 0 where
  pub before : List (List ℕ)
  pub asked : List (List ℕ)
  pub after : List (List ℕ)
  pub place : ws ≡ before ++ (asked ++ after)
  pub batches : ℕ
  pub counted : x.is_live ≡ false → length before ≡ batches * BATCH
  pub some : 0 < length asked
  pub most : length asked ≤ BATCH
  pub keys : List K
  pub texts : AllZip R (before ++ asked) keys
  pub ended : x.is_live ≡ false → length asked < BATCH → AreKeysEnded R after (length (before ++ asked) + x.number)

module _ {K V : Type 0} (c : Coding K V) (l : K × Option V → List ℕ) (R : List ℕ → K → Type 0) (p : Wanted) (B : List ℕ) (x : Coming) where
  abbrev pub AreLinesAnswered : Option (List ℕ) → Option (List ℕ) → Option (List ℕ) → Result Status Failure → Type 0
  AreLinesAnswered input old new (Ok status) = IfSome input (λ bytes. AreAllAnswered c l R B x bytes old new status)
  AreLinesAnswered input old new (Err (Misread message)) = IfSome input (λ bytes. IsLineFault c l R p B x.number (lines bytes) (string_bytes message) old new)
  AreLinesAnswered input old new (Err Memory) = IfSome input (λ bytes. AreFirstAnswered c l R B x.is_live (lines bytes) old new)
  AreLinesAnswered input old new (Err (Input error)) = IfSome input (λ bytes. AreFirstAnswered c l R B x.is_live (lines bytes) old new)
  AreLinesAnswered input old new (Err (Output error)) = IfSome input (λ bytes. AreFirstAsked R x (lines bytes))
  AreLinesAnswered input old new (Err _) = ⊥

  abbrev pub AreLinesGot : Option (List ℕ) → Option (List ℕ) → Option (List ℕ) → Result Status Failure → Type 0
  AreLinesGot input old new (Err (Refused error)) = (view_refusal c.format B ≡ Some error) × Keeps old new
  AreLinesGot input old new r = (view_refusal c.format B ≡ None) × AreLinesAnswered input old new r

-- ---- of a file
abbrev pub lines_of_shape : Form × Form → Printed → Coming → List ℕ → Option (List ℕ) → Option (List ℕ) → Option (List ℕ) → Result Status Failure → Shape → Type 0
lines_of_shape fs j x B input old new r s =
    let k = key_part s in
    AreLinesGot (shape_coding s) (answer_in j (typed_text fs.0 k) (typed_text fs.1 (value_part s))) (IsTextOf fs.0 k) (typed_wanted fs.0 k) B x input old new r

abbrev pub lines_of_other : Form × Form → Printed → Coming → List ℕ → Option (List ℕ) → Option (List ℕ) → Option (List ℕ) → Result Status Failure → OtherShape → Type 0
lines_of_other fs j x B input old new r o =
    let k = bytes_form fs.0 o.key in
    AreLinesGot (other_coding o) (answer_in j (dynamic_text k) (dynamic_text (bytes_form fs.1 o.value))) (IsDynamicOf k) (dynamic_wanted k) B x input old new r

abbrev pub lines_of_any : Form × Form → Printed → Coming → List ℕ → Option (List ℕ) → Option (List ℕ) → Option (List ℕ) → Result Status Failure → AnyShape → Type 0
lines_of_any fs j x B input old new r (Ready s) = lines_of_shape fs j x B input old new r s
lines_of_any fs j x B input old new r (Other o) = lines_of_other fs j x B input old new r o

abbrev pub lines_of_forms : Printed → Coming → List ℕ → Option (List ℕ) → Option (List ℕ) → Option (List ℕ) → Result Status Failure → AnyShape × GivenForms → Type 0
lines_of_forms j x B input old new r s = lines_of_any (s.1.key, s.1.value) j x B input old new r s.0

abbrev pub AreFileLinesGot : List ℕ → Option Hash → Kinds → Printed → Coming → Option (List ℕ) → Option (List ℕ) → Option (List ℕ) → Result Status Failure → Type 0
AreFileLinesGot B h ks j x input old new r = by_shape B h ks old new r (lines_of_forms j x B input old new r)
