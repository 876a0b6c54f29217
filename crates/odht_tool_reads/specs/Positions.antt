-- What `get` does where it reads a file by position.
--     ByPosition old new P r   r says that all bytes have to be read, and nothing was written; or P holds of what r returns
--     IsTableAt gives h k v t T    the table t has keys of k and values of v bytes and the hash h, and is over the bytes T,
--                              which are some of those that the reads of its source give, as `gives` says
--     IsShortSearch c B o      on valid bytes B the search for the key o, if it is one, reads at most 128 groups
--     AreShortWords c R B ws   the words ws have answers, and on valid bytes B the search for each key that one is a text of
--                              reads at most 128 groups
--     short_words_of f B ws o  the same of bytes of the types o in the form f of keys
--     are_words_short T h ks ws    the same of the bytes T of a file, where the hash function h, or none, is named, and ks is
--                              said of keys and values
--     slots_parts k v es cs    the parts that sixteen slots have: their entries es, their control bytes cs, and the sizes
--                              k and v of keys and values
--     IsStartOf B s            s has the first 32 of those bytes of B that it says a table has
--     len_by at n H            how many bytes the table has that is read: n, which is all, or where it begins at an
--                              offset, as many as its header H says
--     table_read B at          these of the bytes B, from that offset on, or from the first
--     IsLeft T h               where header and length fit, some control byte of the table T excludes each hash function
--                              that is not h
--     AreNoneLeft T f          header and length fit, some control byte of T excludes each hash function, and f says that
--     HasNoHash T d f          f is why the table T has no shape, where none is named, and d is the default of such keys
--     IsNamed T h d g          g is the hash function that is to be named for the table T, where h, or none, is named, and d
--                              is the default of such keys, or there is none: h; else none where the header counts no
--                              items and there is no default; else one that is left
--     IsAnsweredBy T h ks j ws old new r   r is what `get` returns of the bytes T, and writes, where j is printed of keys,
--                              where a hash function that is to be named for them is named, or where h, or none, is
--     IsFoundIn B at h ks f    f tells where the table of the bytes B at that offset is, or that it is all of them, and what
--                              is read of it where a hash function that is to be named is named: its types and its forms
--     IsTableIn T s            the bytes T are those of a valid table of the shape s
use Rattle.std.specs.Prelude.{◌≡◌, ◌≢◌, ◌⊎◌, ◌≤◌, ◌+◌, ⊤, ℕ, List, length, slice_index, false, Option, Some, None, unwrap_or, All, MatchResult, Result, Ok, Err}
use Rattle.std.specs.Io.KnownBytes.{Keeps}
use Rattle.std.specs.List.{AllZip}
use Rattle.odht_base.specs.Bytes.{bytes_at}
use Rattle.odht_base.specs.Decoded.{header_count}
use Rattle.odht.specs.Files.{FileStore, IsOver, file_bytes}
use Rattle.odht.specs.Tables.{OfTable}
use Rattle.odht_base.specs.Format.{IsFormat}
use Rattle.odht_base.specs.Search.{groups_read}
use Rattle.odht_base.specs.Valid.{IsValidBytes}
use Rattle.odht_header.specs.Coding.{Coding}
use Rattle.odht_tool_core.specs.AnyShapes.{HasLongKeys, any_format, found_any, other_coding, read_any, types_of}
use Rattle.odht_tool_core.specs.DynTexts.{IsDynamicOf}
use Rattle.odht_tool_core.specs.Forms.{bytes_form}
use Rattle.odht_tool_core.specs.FoundShapes.{said_hash}
use Rattle.odht_tool_core.specs.declared.any.AnyShape.{AnyShape}
use Rattle.odht_tool_core.specs.declared.any.OtherShape.{OtherShape}
use Rattle.odht_tool_core.specs.Fronts.{stated_len}
use Rattle.odht_tool_core.specs.ReadyShapes.{same_hash}
use Rattle.odht_tool_core.specs.InfoNumbers.{DynParts, agrees, info_refusal, file_parts}
use Rattle.odht_tool_reads.specs.Gets.{AreFileWordsGot, IsWordAnswer}
use Rattle.odht_tool_core.specs.declared.forms.Form.{Form}
use Rattle.odht_tool_core.specs.declared.forms.Kinds.{Kinds}
use Rattle.odht_tool_core.specs.declared.json.answers.Printed.{Printed}
use Rattle.odht_tool_core.specs.declared.failure.Failure.{Failure}
use Rattle.odht_tool_core.specs.declared.failure.Failure.TheVariants.{NoHash}
use Rattle.odht_tool_core.specs.declared.shapes.Hash.{Hash}
use Rattle.odht_tool_core.specs.declared.status.Status.{Status}
use Rattle.odht_tool_reads.specs.declared.positions.Start.{Start}
use Rattle.odht_tool_reads.specs.declared.positions.shaped.Found.{Found}

abbrev pub ByPosition : {X : Type 0} → Option (List ℕ) → Option (List ℕ) → (Result X Failure → Type 0) → Result (Option X) Failure → Type 0
ByPosition old new P (Ok None) = Keeps old new
ByPosition old new P (Ok (Some x)) = P (Ok x)
ByPosition old new P (Err failure) = P (Err failure)

pub record IsTableAt {S : Type 0} (gives : S → List ℕ → Type 0) (h : List ℕ → ℕ) (k v : ℕ) (t : FileStore S) (T : List ℕ) : Type 0 where
  pub bytes : List ℕ
  pub given : gives t.source bytes
  pub over : IsOver h t bytes
  pub table : file_bytes t bytes ≡ T
  pub key : t.key_len ≡ k
  pub value : t.value_len ≡ v

abbrev pub IsShortSearch : {K V : Type 0} → Coding K V → List ℕ → Option K → Type 0
IsShortSearch c B None = ⊤
IsShortSearch c B (Some k) = OfTable c.format B (λ P. groups_read c.format P.cells (c.key_bytes k) ≤ 128)

pub record AreShortWords {K V : Type 0} (c : Coding K V) (R : List ℕ → K → Type 0) (B : List ℕ) (ws : List (List ℕ)) : Type 0 where
  pub answers : List (Option K × Option V)
  pub each : AllZip (IsWordAnswer c R B) ws answers
  pub short : All (λ a. IsShortSearch c B a.0) answers

abbrev pub short_words_of : Form → List ℕ → List (List ℕ) → OtherShape → Type 0
short_words_of f B ws o = AreShortWords (other_coding o) (IsDynamicOf (bytes_form f o.key)) B ws

abbrev pub are_words_short : List ℕ → Option Hash → Kinds → List (List ℕ) → Type 0
are_words_short T h ks ws = MatchResult (read_any T h ks) (λ x. short_words_of x.1.key T ws (types_of x.0)) (λ f. ⊤)

abbrev pub slots_parts : ℕ → ℕ → List ℕ → List ℕ → DynParts
slots_parts k v es cs = record { key_len = k; value_len = v; slots = 16; entries = es; control = cs }

pub record IsStartOf (B : List ℕ) (s : Start) : Type 0 where
  pub held : s.at + s.len ≤ length B
  pub header : s.header ≡ bytes_at B s.at 32

abbrev pub len_by : Option ℕ → ℕ → List ℕ → ℕ
len_by None n H = n
len_by (Some at) n H = stated_len H

abbrev pub table_read : List ℕ → Option ℕ → List ℕ
table_read B at = bytes_at B (unwrap_or at 0) (len_by at (length B) (bytes_at B (unwrap_or at 0) 32))

abbrev pub IsLeft : List ℕ → Hash → Type 0
IsLeft T h = info_refusal T ≡ None → (g : Hash) → same_hash g h ≡ false → agrees (file_parts T) g ≡ false

pub record AreNoneLeft (T : List ℕ) (f : Failure) : Type 0 where
  pub opens : info_refusal T ≡ None
  pub unfit : (h : Hash) → agrees (file_parts T) h ≡ false
  pub said : f ≡ NoHash (slice_index T 5) (slice_index T 6)

abbrev pub HasNoHash : List ℕ → Option Hash → Failure → Type 0
HasNoHash T d f = found_any T (said_hash T None d) ≡ Err f

abbrev pub IsNamed : List ℕ → Option Hash → Option Hash → Option Hash → Type 0
IsNamed T (Some h) d g = g ≡ Some h
IsNamed T None d None = (header_count T ≡ 0) × (d ≡ None)
IsNamed T None d (Some g) = (header_count T ≢ 0) × IsLeft T g

pub record IsAnsweredBy (T : List ℕ) (h : Option Hash) (ks : Kinds) (j : Printed) (ws : List (List ℕ)) (old new : Option (List ℕ)) (r : Result Status Failure) : Type 0 where
  pub named : Option Hash
  pub is : (named ≡ h) ⊎ IsNamed T h ks.hash named
  pub answered : AreFileWordsGot T named ks j ws old new r

pub record IsFoundIn (B : List ℕ) (at : Option ℕ) (h : Option Hash) (ks : Kinds) (f : Found) : Type 0 where
  pub held : f.at + f.len ≤ length B
  pub table : bytes_at B f.at f.len ≡ table_read B at
  pub named : Option Hash
  pub is : IsNamed (table_read B at) h ks.hash named
  pub shape : AnyShape
  pub types : f.shape ≡ types_of shape
  pub formed : read_any (table_read B at) named ks ≡ Ok (shape, f.forms)

pub record IsTableIn (T : List ℕ) (s : AnyShape) : Type 0 where
  pub format : IsFormat (any_format s)
  pub long : HasLongKeys s
  pub valid : IsValidBytes (any_format s) T
