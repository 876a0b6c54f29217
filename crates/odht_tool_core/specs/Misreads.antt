-- Texts that are no key or no value, as messages tell of them.
--     IsWanted w word      the word is what is wanted, w: nothing, a number, with a sign or without, hexadecimal digits, or a plain text
--     number_wanted u i f  what is wanted of numbers in the form f: i of those with a sign, u of others
--     bytes_wanted n f     what is wanted of n bytes in the form f
--     typed_wanted f p     what is wanted of keys or values of the type p, in the form f
--     wanted_text w        this in words
--     place_text n         the number of a line of standard input, where there is one
--     misread_text n f w t what is said of the text t, in line n of standard input where there is one, by its fault f, where
--                          w is wanted
--     absent_line file t   the line that tells of the text t, of a key that is not in the file
--     repeated_line file t the line that tells of the text t, of a key that is in the file and in one before it
--     part_of d f line     the part of a line in which the fault f is: what comes before its first byte d, what comes after
--                          it, or all
--     wanted_by f w v      what is wanted there, where w is wanted of keys and v of values
use Rattle.std.specs.Prelude.{◌≡◌, ℕ, ◌+◌, ◌*◌, ◌^◌, ◌==◌, List, [], ◌++◌, codes, decimal, take, drop, Option, Some, None}
use Rattle.std.specs.List.{position_or_len}
use Rattle.odht_tool_core.specs.PlainTexts.{IsPlainText}
use Rattle.odht_tool_core.specs.Shown.{shown_text}
use Rattle.odht_tool_core.specs.Signed.{IsSignedWord}
use Rattle.odht_tool_core.specs.Texts.{IsNumberWord, IsHexWord}
use Rattle.odht_tool_core.specs.declared.failure.LineFault.{LineFault}
use Rattle.odht_tool_core.specs.declared.failure.LineFault.TheVariants.{NoTab, Key, Value}
use Rattle.odht_tool_core.specs.declared.forms.Form.{Form}
use Rattle.odht_tool_core.specs.declared.forms.Form.TheVariants.{Own, Signed, BigEndian, Plain, OfNumber, OfBytes, OfText}
use Rattle.odht_tool_core.specs.declared.misread.Wanted.{Wanted}
use Rattle.odht_tool_core.specs.declared.misread.Wanted.TheVariants.{Nothing, U32, U64, I32, I64, Bytes, Text}
use Rattle.odht_tool_core.specs.declared.shapes.Part.{Part}
use Rattle.odht_tool_core.specs.declared.shapes.Part.TheVariants.{Nothing as NoPart, U32 as P32, U64 as P64, Bytes as PBytes}

abbrev pub IsWanted : Wanted → List ℕ → Type 0
IsWanted Nothing word = word ≡ []
IsWanted U32 word = IsNumberWord (2 ^ 32) word
IsWanted U64 word = IsNumberWord (2 ^ 64) word
IsWanted I32 word = IsSignedWord (2 ^ 32) word
IsWanted I64 word = IsSignedWord (2 ^ 64) word
IsWanted (Bytes n) word = IsHexWord n word
IsWanted (Text n) word = IsPlainText n word

abbrev pub number_wanted : Wanted → Wanted → Form → Wanted
number_wanted u i Own = u
number_wanted u i Signed = i
number_wanted u i BigEndian = u
number_wanted u i Plain = u
number_wanted u i (OfNumber v) = u
number_wanted u i (OfBytes l) = u
number_wanted u i (OfText l) = u

abbrev pub bytes_wanted : ℕ → Form → Wanted
bytes_wanted n Own = Bytes n
bytes_wanted n Signed = Bytes n
bytes_wanted n BigEndian = Bytes n
bytes_wanted n Plain = Text n
bytes_wanted n (OfNumber v) = Bytes n
bytes_wanted n (OfBytes l) = Bytes n
bytes_wanted n (OfText l) = Bytes n

abbrev pub typed_wanted : Form → Part → Wanted
typed_wanted f NoPart = Nothing
typed_wanted f P32 = number_wanted U32 I32 f
typed_wanted f P64 = number_wanted U64 I64 f
typed_wanted f (PBytes n) = bytes_wanted n f

abbrev pub wanted_text : Wanted → List ℕ
wanted_text Nothing = codes "empty"
wanted_text U32 = codes "a number below 2^32"
wanted_text U64 = codes "a number below 2^64"
wanted_text I32 = codes "a number from -2^31 to 2^31 - 1"
wanted_text I64 = codes "a number from -2^63 to 2^63 - 1"
wanted_text (Bytes n) = decimal (2 * n) ++ codes " hexadecimal digits"
wanted_text (Text n) = codes "a text of at most " ++ decimal n ++ codes " bytes without NUL, tab and line end"

abbrev pub place_text : Option ℕ → List ℕ
place_text None = []
place_text (Some number) = codes "standard input, line " ++ decimal number ++ codes ": "

abbrev pub fault_text : LineFault → Wanted → List ℕ → List ℕ
fault_text NoTab w text = shown_text text ++ codes " has no tab between key and value"
fault_text Key w text = codes "the key " ++ shown_text text ++ codes " is not " ++ wanted_text w
fault_text Value w text = codes "the value " ++ shown_text text ++ codes " is not " ++ wanted_text w

abbrev pub misread_text : Option ℕ → LineFault → Wanted → List ℕ → List ℕ
misread_text number fault w text = place_text number ++ fault_text fault w text

abbrev pub absent_line : List ℕ → List ℕ → List ℕ
absent_line file text = codes "odht: " ++ (file ++ (codes ": the key " ++ (shown_text text ++ codes " is absent\n")))

abbrev pub repeated_line : List ℕ → List ℕ → List ℕ
repeated_line file text = codes "odht: " ++ (file ++ (codes ": the key " ++ (shown_text text ++ codes " is in a file before it too\n")))

-- ---- of a line
abbrev pub part_of : ℕ → LineFault → List ℕ → List ℕ
part_of d NoTab line = line
part_of d Key line = take (position_or_len (λ x. x == d) line) line
part_of d Value line = drop (position_or_len (λ x. x == d) line + 1) line

abbrev pub wanted_by : LineFault → Wanted → Wanted → Wanted
wanted_by NoTab key value = key
wanted_by Key key value = key
wanted_by Value key value = value
