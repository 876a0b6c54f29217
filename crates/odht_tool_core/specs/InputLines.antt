-- The lines of an input, whose bytes may be known.
--     without_end line     the line without its end, a line feed with or without a carriage return before it
--     IsNextLine o o' line the bytes o begin with this line, whose end is left out, and o' are those after it;
--                          nothing is said where the bytes o are not known
--     IsTakenThrough o o' read  read are the bytes o through their first line feed, and o' are those after it; nothing is
--                          said where the bytes o are not known
--     IsEnding o line new n f r    r is nothing, where this line is empty and no byte of o is left, which are those after it;
--                          or the fault f of line n, where it is not so, and `new` is the line too; or the reader failed
--     AreLeft o            the bytes o have a line, where they are known
--     IsBehind o o' line   the bytes o, behind this line, have one more where it is empty; else o' are these bytes
use Rattle.std.specs.Prelude.{◌≡◌, ◌≢◌, ℕ, ◌<◌, List, [], ◌∷◌, length, Option, Some, IfSome, Result, Ok, Err, if◌then◌else◌}
use Rattle.std.specs.Io.BufRead.{ends_with_byte, strip_last, take_through, DropsThrough}
use Rattle.std.specs.Io.KnownBytes.{IsAtEnd}
use Rattle.std.specs.Str.Lines.{lines}
use Rattle.odht_tool_core.specs.declared.failure.Failure.{Failure}
use Rattle.odht_tool_core.specs.declared.failure.Failure.TheVariants.{Input, Line}
use Rattle.odht_tool_core.specs.declared.failure.LineFault.{LineFault}

abbrev pub without_end : List ℕ → List ℕ
without_end line = if ends_with_byte 10 line then strip_last 13 (strip_last 10 line) else line

abbrev pub IsNextLine : Option (List ℕ) → Option (List ℕ) → List ℕ → Type 0
IsNextLine old new line = IfSome old (λ bytes. (rest : List ℕ) × (new ≡ Some rest) × (lines bytes ≡ line ∷ lines rest))

abbrev pub IsTakenThrough : Option (List ℕ) → Option (List ℕ) → List ℕ → Type 0
IsTakenThrough old new read = IfSome old (λ bytes. read ≡ take_through 10 bytes) × DropsThrough old new 10 × (0 < length read)

abbrev pub AreLeft : Option (List ℕ) → Type 0
AreLeft old = IfSome old (λ bytes. lines bytes ≢ [])

abbrev pub IsBehind : Option (List ℕ) → Option (List ℕ) → List ℕ → Type 0
IsBehind old new line = (line ≡ [] → AreLeft old) × (line ≢ [] → new ≡ old)

abbrev pub IsEnding : {X : Type 0} → Option (List ℕ) → List ℕ → List ℕ → ℕ → LineFault → Result X Failure → Type 0
IsEnding old line new number fault (Ok x) = (line ≡ []) × IsAtEnd old
IsEnding old line new number fault (Err (Input error)) = line ≡ []
IsEnding old line new number fault (Err failure) =
    (failure ≡ Line number fault) × (new ≡ line) × (line ≡ [] → AreLeft old)
