-- The parts of `get`, of the bytes B of a file.
--     AreKeysAnswered c l B ks old new all the answers to the keys ks were written, which took the writer from the
--                          bytes old to new, and `all` says whether each has a value; l is the line of a key and its value
--     IsKeysFailure n ks old new f     no memory, and nothing was written; or the writer failed, when the answers to the keys ks
--                          were to be written, which are at least n
--     IsFlushed c l B due before after old new was all   of the keys `before` those that are not left in `after` were
--                          answered: all where they are a batch, and else none, unless `due` holds; `all` says whether each
--                          has a value, and `was` holds
--     IsReadKey R o o' ks ks' more     the key of the next line of the bytes o is the last of ks', those before it are ks, and
--                          o' are the bytes after it, where `more` holds; where it does not, there is no line, or an empty last
--                          one that is a text of no key, and ks' is ks
--     AreFaultAnswered c l R p B ks n o old new t   the next line of the bytes o, which is line n, is a text of no key,
--                          where p is wanted, and no empty last one; the text t tells that, and the answers to the keys ks
--                          were written
--     IsNextNone R o       the next line of the bytes o is a text of no key
--     IsLineFailure c l R p B ks n o old new f   f tells this fault of line n, with these answers; or the reader failed, or
--                          there is a next line, and no memory, and nothing was written; or this line is a text of no key, and
--                          the writer failed, when the answers to the keys ks, which are some, were to be written
use Rattle.std.specs.Prelude.{◌≡◌, ◌⊎◌, ℕ, ◌<◌, ◌≤◌, Bool, true, false, ◌&&◌, List, [], ◌∷◌, ◌++◌, length, is_some, Option, Some, None, string_bytes}
use Rattle.std.specs.Io.KnownBytes.{Appends, IsAtEnd, Keeps}
use Rattle.std.specs.List.{list_all}
use Rattle.odht_header.specs.Coding.{Coding}
use Rattle.odht_tool_reads.specs.Gets.{AreAnswers}
use Rattle.odht_tool_core.specs.InputLines.{AreLeft, IsNextLine}
use Rattle.odht_tool_core.specs.Keys.{IsKeyRead, IsLeftOut, IsTextOfNone, IsUnread}
use Rattle.odht_tool_core.specs.Misreads.{misread_text}
use Rattle.odht_tool_core.specs.Texts.{answers_by}
use Rattle.odht_tool_reads.specs.declared.lookups.TheConstants.{BATCH}
use Rattle.odht_tool_core.specs.declared.failure.Failure.{Failure}
use Rattle.odht_tool_core.specs.declared.failure.Failure.TheVariants.{Input, Misread, Output, Memory}
use Rattle.odht_tool_core.specs.declared.failure.LineFault.TheVariants.{Key}
use Rattle.odht_tool_core.specs.declared.misread.Wanted.{Wanted}

pub record AreKeysAnswered {K V : Type 0} (c : Coding K V) (l : K × Option V → List ℕ) (B : List ℕ) (ks : List K) (old new : Option (List ℕ)) (all : Bool) : Type 0 where
  pub values : List (Option V)
  pub answers : AreAnswers c B ks values
  pub written : Appends old new (answers_by l ks values)
  pub found : all ≡ list_all is_some values

abbrev pub IsKeysFailure : {K : Type 0} → ℕ → List K → Option (List ℕ) → Option (List ℕ) → Failure → Type 0
IsKeysFailure least ks old new Memory = Keeps old new
IsKeysFailure least ks old new (Output error) = least ≤ length ks
IsKeysFailure least ks old new _ = ⊥

pub record IsFlushed {K V : Type 0} (c : Coding K V) (l : K × Option V → List ℕ) (B : List ℕ) (due : Bool) (before after : List K) (old new : Option (List ℕ)) (was all : Bool) : Type 0 where
  pub done : List K
  pub left : before ≡ done ++ after
  pub few : due ≡ false → length before < BATCH → done ≡ []
  pub full : BATCH ≤ length before → after ≡ []
  pub values : List (Option V)
  pub answers : AreAnswers c B done values
  pub written : Appends old new (answers_by l done values)
  pub found : all ≡ (list_all is_some values && was)

abbrev pub IsReadKey : {K : Type 0} → (List ℕ → K → Type 0) → Option (List ℕ) → Option (List ℕ) → List K → List K → Bool → Type 0
IsReadKey {K = K} R old new before after true = (key : K) × (after ≡ before ++ (key ∷ [])) × IsKeyRead R old new key
IsReadKey R old new before after false = (after ≡ before) × (IsAtEnd old ⊎ IsLeftOut R old)

pub record IsNextNone {K : Type 0} (R : List ℕ → K → Type 0) (bytes : Option (List ℕ)) : Type 0 where
  pub then : Option (List ℕ)
  pub line : List ℕ
  pub next : IsNextLine bytes then line
  pub fault : IsTextOfNone R line

module _ {K V : Type 0} (c : Coding K V) (l : K × Option V → List ℕ) (R : List ℕ → K → Type 0) (p : Wanted) (B : List ℕ) where
  -- where the line after those of the keys `ks` is no key
  pub record AreFaultAnswered (ks : List K) (number : ℕ) (bytes old new : Option (List ℕ)) (text : List ℕ) : Type 0 where
    pub then : Option (List ℕ)
    pub line : List ℕ
    pub next : IsNextLine bytes then line
    pub fault : IsTextOfNone R line
    pub more : line ≡ [] → AreLeft then
    pub misread : text ≡ misread_text (Some number) Key p line
    pub every : Bool
    pub answered : AreKeysAnswered c l B ks old new every

  abbrev pub IsLineFailure : List K → ℕ → Option (List ℕ) → Option (List ℕ) → Option (List ℕ) → Failure → Type 0
  IsLineFailure ks number bytes old new (Misread message) = AreFaultAnswered ks number bytes old new (string_bytes message)
  IsLineFailure ks number bytes old new (Input error) = Keeps old new
  IsLineFailure ks number bytes old new Memory = IsUnread bytes Memory × Keeps old new
  IsLineFailure ks number bytes old new failure = IsNextNone R bytes × IsKeysFailure 1 ks old new failure
