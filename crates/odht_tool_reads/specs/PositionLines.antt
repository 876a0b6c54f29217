-- What `get` does with the lines of an input where it reads a file by position. Each line is answered before the next one is
-- read.
--     IsReadFailure f      the file was not read
--     IsKeyFailure old new f   f is why a key was not answered: the file was not read, and nothing was written; or the writer
--                          failed
--     IsNoKeyTold R p n o t    the next line of the bytes o, which is line n, is a text of no key, where p is wanted, and no
--                          empty last one; the text t tells that
--     IsUnreadKey R p n o f    f is why the key of line n, the next of the bytes o, was not read: it is no key, which f tells,
--                          or there was no memory; or the reader failed
--     AreSomeAnswered c l R B bytes now old new x  the answers to some first lines of these bytes were written, all of them
--                          texts of keys; x are the lines that the input has left, as those before them were answered
--     IsEnd r              r says that the lines were answered to their end
--     AreLinesRead c l R p B input now old new r   r is what is returned of the bytes B once the table is opened, and what is
--                          written, which took the input from the bytes `input` to `now`: as where all bytes are in memory;
--                          or the lines that r names are left; or the file was not read for some line, and the answers to
--                          those before it were written
--     lines_read_of fs j B input now old new r o   the same of bytes of the types o in the forms fs of keys and of values,
--                          where j is what is printed of each key, and of opening too
--     AreFileLinesRead B h ks j input now old new r    the same of the bytes of a file, where the hash function h, or none, is
--                          named, and ks is said of keys and values
--     AreLinesReadBy B h ks j input now old new r  the same where a hash function that is to be named for them is named, or
--                          where h, or none, is
use Rattle.std.specs.Prelude.{◌≡◌, ◌⊎◌, ◌+◌, ◌++◌, ℕ, List, [], length, Option, None, Some, IfSome, Result, Ok, Err, string_bytes, true, ⊤}
use Rattle.std.specs.Io.KnownBytes.{Keeps}
use Rattle.std.specs.Str.Lines.{lines}
use Rattle.odht_header.specs.Coding.{Coding}
use Rattle.odht_header.specs.Refusals.{view_refusal}
use Rattle.odht_tool_core.specs.AnyShapes.{other_coding, types_of}
use Rattle.odht_tool_core.specs.DynTexts.{IsDynamicOf, dynamic_text, dynamic_wanted}
use Rattle.odht_tool_core.specs.Forms.{bytes_form}
use Rattle.odht_tool_core.specs.InputLines.{AreLeft, IsNextLine}
use Rattle.odht_tool_core.specs.JsonAnswers.{answer_in}
use Rattle.odht_tool_core.specs.Keys.{IsTextOfNone, IsUnread}
use Rattle.odht_tool_core.specs.Misreads.{misread_text}
use Rattle.odht_tool_reads.specs.GetLines.{AreFirstAnswered, AreLinesAnswered, all_lines}
use Rattle.odht_tool_reads.specs.Gets.{IsAnswered, by_shape}
use Rattle.odht_tool_reads.specs.Positions.{IsNamed}
use Rattle.odht_tool_core.specs.declared.any.AnyShape.{AnyShape}
use Rattle.odht_tool_core.specs.declared.any.OtherShape.{OtherShape}
use Rattle.odht_tool_core.specs.declared.failure.Failure.{Failure}
use Rattle.odht_tool_core.specs.declared.failure.Failure.TheVariants.{Input, Memory, Misread, Output, Read}
use Rattle.odht_tool_core.specs.declared.failure.LineFault.TheVariants.{Key}
use Rattle.odht_tool_core.specs.declared.forms.Form.{Form}
use Rattle.odht_tool_core.specs.declared.forms.GivenForms.{GivenForms}
use Rattle.odht_tool_core.specs.declared.forms.Kinds.{Kinds}
use Rattle.odht_tool_core.specs.declared.json.answers.Printed.{Printed}
use Rattle.odht_tool_core.specs.declared.misread.Wanted.{Wanted}
use Rattle.odht_tool_core.specs.declared.shapes.Hash.{Hash}
use Rattle.odht_tool_core.specs.declared.status.Status.{Status}
use Rattle.odht_tool_reads.specs.declared.lookups.Coming.{Coming}
use Rattle.odht_tool_reads.specs.declared.positions.Reached.{Reached}
use Rattle.odht_tool_reads.specs.declared.positions.Reached.TheVariants.{End, Line}
use Rattle.odht_tool_tables.specs.KeyTexts.{found_status}

abbrev pub IsReadFailure : Failure → Type 0
IsReadFailure (Read error) = ⊤
IsReadFailure _ = ⊥

abbrev pub IsKeyFailure : Option (List ℕ) → Option (List ℕ) → Failure → Type 0
IsKeyFailure old new (Read error) = Keeps old new
IsKeyFailure old new (Output error) = ⊤
IsKeyFailure old new _ = ⊥

pub record IsNoKeyTold {K : Type 0} (R : List ℕ → K → Type 0) (p : Wanted) (number : ℕ) (bytes : Option (List ℕ)) (text : List ℕ) : Type 0 where
  pub then : Option (List ℕ)
  pub line : List ℕ
  pub next : IsNextLine bytes then line
  pub fault : IsTextOfNone R line
  pub more : line ≡ [] → AreLeft then
  pub misread : text ≡ misread_text (Some number) Key p line

abbrev pub IsUnreadKey : {K : Type 0} → (List ℕ → K → Type 0) → Wanted → ℕ → Option (List ℕ) → Failure → Type 0
IsUnreadKey R p number bytes (Misread message) = IsNoKeyTold R p number bytes (string_bytes message)
IsUnreadKey R p number bytes (Input error) = ⊤
IsUnreadKey R p number bytes Memory = IsUnread bytes Memory
IsUnreadKey R p number bytes _ = ⊥

pub record AreSomeAnswered {K V : Type 0} (c : Coding K V) (l : K × Option V → List ℕ) (R : List ℕ → K → Type 0) (B bytes : List ℕ) (now old new : Option (List ℕ)) (x : Coming) : Type 0 where
  pub words : List (List ℕ)
  pub rest : List ℕ
  pub left : now ≡ Some rest
  pub place : lines bytes ≡ words ++ lines rest
  pub status : Status
  pub answered : IsAnswered c l R B words old new status
  pub counted : x.number ≡ length words + 1
  pub found : status ≡ found_status x.is_all_found

abbrev pub IsEnd : Reached → Type 0
IsEnd (End status) = ⊤
IsEnd (Line x) = ⊥

module _ {K V : Type 0} (c : Coding K V) (l : K × Option V → List ℕ) (R : List ℕ → K → Type 0) (p : Wanted) (B : List ℕ) where
  abbrev pub AreLinesRead : Option (List ℕ) → Option (List ℕ) → Option (List ℕ) → Option (List ℕ) → Result Reached Failure → Type 0
  AreLinesRead input now old new (Ok (End status)) = AreLinesAnswered c l R p B (all_lines true) input old new (Ok status)
  AreLinesRead input now old new (Ok (Line x)) = IfSome input (λ bytes. AreSomeAnswered c l R B bytes now old new x)
  AreLinesRead input now old new (Err (Read error)) = IfSome input (λ bytes. AreFirstAnswered c l R B true (lines bytes) old new)
  AreLinesRead input now old new (Err failure) = AreLinesAnswered c l R p B (all_lines true) input old new (Err failure)

-- ---- of a file
abbrev pub lines_read_of : Form × Form → Printed → List ℕ → Option (List ℕ) → Option (List ℕ) → Option (List ℕ) → Option (List ℕ) → Result Reached Failure → OtherShape → Type 0
lines_read_of fs j B input now old new r o =
    let k = bytes_form fs.0 o.key in
    (view_refusal (other_coding o).format B ≡ None)
    × AreLinesRead (other_coding o) (answer_in j (dynamic_text k) (dynamic_text (bytes_form fs.1 o.value))) (IsDynamicOf k) (dynamic_wanted k) B input now old new r

abbrev pub lines_read_of_forms : Printed → List ℕ → Option (List ℕ) → Option (List ℕ) → Option (List ℕ) → Option (List ℕ) → Result Reached Failure → AnyShape × GivenForms → Type 0
lines_read_of_forms j B input now old new r x = lines_read_of (x.1.key, x.1.value) j B input now old new r (types_of x.0)

abbrev pub AreFileLinesRead : List ℕ → Option Hash → Kinds → Printed → Option (List ℕ) → Option (List ℕ) → Option (List ℕ) → Option (List ℕ) → Result Reached Failure → Type 0
AreFileLinesRead B h ks j input now old new r = by_shape B h ks old new r (lines_read_of_forms j B input now old new r)

pub record AreLinesReadBy (B : List ℕ) (h : Option Hash) (ks : Kinds) (j : Printed) (input now old new : Option (List ℕ)) (r : Result Reached Failure) : Type 0 where
  pub named : Option Hash
  pub is : (named ≡ h) ⊎ IsNamed B h ks.hash named
  pub answered : AreFileLinesRead B named ks j input now old new r
