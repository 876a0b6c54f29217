-- The forms of keys and values: their texts, by form, where those of a number are of a type of the width w.
--     number_part v            the type of the stored bytes of numbers of the type v
--     number_form v            the form of what is of that type
--     number_type_of_32 f      the numbers of 32 bits that are written as the form f has it
--     number_type_of_64 f      the numbers of 64 bits that are written as the form f has it
--     form_of_bytes f k        the form of k stored bytes that are written as the form f has it
--     bytes_form f p           the form of stored bytes that are of the type p, and are written as the form f has it
--     part_in f                the type that the form f of stored bytes says that they are of
--     form_in f                how the form f of stored bytes has what is of that type written
--     count_of w               how many numbers the type has
--     number_text w f n        the text of the number n in the form f
--     IsNumberText w f word    the word is such a text
--     StandsForNumber w f word n   it is that of n
--     bytes_text f bytes       the text of bytes in the form f
--     IsBytesText k f word     the word is such a text of k bytes
--     StandsForBytes f word bytes  it is that of these bytes
-- A number is what its stored bytes say from the lowest one on. A number in the form Plain, bytes in Signed or BigEndian,
-- and either in a form of stored bytes have the texts of Own.
use Rattle.std.specs.Prelude.{◌≡◌, ℕ, ◌^◌, List, decimal}
use Rattle.std.specs.Int.{Width, byte_len, swap_bytes}
use Rattle.std.specs.Str.Parse.{digits_value}
use Rattle.odht_tool_core.specs.PlainTexts.{IsPlainText, PadsText, plain_text}
use Rattle.odht_tool_core.specs.Signed.{IsSignedWord, signed_text, signed_value}
use Rattle.odht_tool_core.specs.Texts.{IsNumberWord, IsHexWord, WritesBytes, hex_text}
use Rattle.odht_tool_core.specs.declared.forms.Form.{Form}
use Rattle.odht_tool_core.specs.declared.forms.Form.TheVariants.{Own, Signed, BigEndian, Plain, OfNumber, OfBytes, OfText}
use Rattle.odht_tool_core.specs.declared.forms.NumberType.{NumberType}
use Rattle.odht_tool_core.specs.declared.forms.NumberType.TheVariants.{U32, I32, U32BigEndian, U64, I64, U64BigEndian}
use Rattle.odht_tool_core.specs.declared.shapes.Part.{Part}
use Rattle.odht_tool_core.specs.declared.shapes.Part.TheVariants.{Nothing, U32 as P32, U64 as P64, Bytes as PBytes}

abbrev pub number_part : NumberType → Part
number_part U32 = P32
number_part I32 = P32
number_part U32BigEndian = P32
number_part U64 = P64
number_part I64 = P64
number_part U64BigEndian = P64

abbrev pub number_form : NumberType → Form
number_form U32 = Own
number_form I32 = Signed
number_form U32BigEndian = BigEndian
number_form U64 = Own
number_form I64 = Signed
number_form U64BigEndian = BigEndian

abbrev pub number_type_of_32 : Form → NumberType
number_type_of_32 Own = U32
number_type_of_32 Signed = I32
number_type_of_32 BigEndian = U32BigEndian
number_type_of_32 Plain = U32
number_type_of_32 (OfNumber v) = U32
number_type_of_32 (OfBytes l) = U32
number_type_of_32 (OfText l) = U32

abbrev pub number_type_of_64 : Form → NumberType
number_type_of_64 Own = U64
number_type_of_64 Signed = I64
number_type_of_64 BigEndian = U64BigEndian
number_type_of_64 Plain = U64
number_type_of_64 (OfNumber v) = U64
number_type_of_64 (OfBytes l) = U64
number_type_of_64 (OfText l) = U64

abbrev pub form_of_bytes : Form → ℕ → Form
form_of_bytes Own k = OfBytes k
form_of_bytes Signed k = OfBytes k
form_of_bytes BigEndian k = OfBytes k
form_of_bytes Plain k = OfText k
form_of_bytes (OfNumber v) k = OfBytes k
form_of_bytes (OfBytes l) k = OfBytes k
form_of_bytes (OfText l) k = OfBytes k

abbrev pub bytes_form : Form → Part → Form
bytes_form f Nothing = Own
bytes_form f P32 = OfNumber (number_type_of_32 f)
bytes_form f P64 = OfNumber (number_type_of_64 f)
bytes_form f (PBytes k) = form_of_bytes f k

abbrev pub part_in : Form → Part
part_in Own = Nothing
part_in Signed = Nothing
part_in BigEndian = Nothing
part_in Plain = Nothing
part_in (OfNumber v) = number_part v
part_in (OfBytes l) = PBytes l
part_in (OfText l) = PBytes l

abbrev pub form_in : Form → Form
form_in Own = Own
form_in Signed = Own
form_in BigEndian = Own
form_in Plain = Own
form_in (OfNumber v) = number_form v
form_in (OfBytes l) = Own
form_in (OfText l) = Plain

abbrev pub count_of : Width → ℕ
count_of w = 256 ^ byte_len w

abbrev pub number_text : Width → Form → ℕ → List ℕ
number_text w Own n = decimal n
number_text w Signed n = signed_text (count_of w) n
number_text w BigEndian n = decimal (swap_bytes w n)
number_text w Plain n = decimal n
number_text w (OfNumber v) n = decimal n
number_text w (OfBytes l) n = decimal n
number_text w (OfText l) n = decimal n

abbrev pub IsNumberText : Width → Form → List ℕ → Type 0
IsNumberText w Own word = IsNumberWord (count_of w) word
IsNumberText w Signed word = IsSignedWord (count_of w) word
IsNumberText w BigEndian word = IsNumberWord (count_of w) word
IsNumberText w Plain word = IsNumberWord (count_of w) word
IsNumberText w (OfNumber v) word = IsNumberWord (count_of w) word
IsNumberText w (OfBytes l) word = IsNumberWord (count_of w) word
IsNumberText w (OfText l) word = IsNumberWord (count_of w) word

abbrev pub StandsForNumber : Width → Form → List ℕ → ℕ → Type 0
StandsForNumber w Own word n = digits_value 10 word ≡ n
StandsForNumber w Signed word n = signed_value (count_of w) word ≡ n
StandsForNumber w BigEndian word n = swap_bytes w (digits_value 10 word) ≡ n
StandsForNumber w Plain word n = digits_value 10 word ≡ n
StandsForNumber w (OfNumber v) word n = digits_value 10 word ≡ n
StandsForNumber w (OfBytes l) word n = digits_value 10 word ≡ n
StandsForNumber w (OfText l) word n = digits_value 10 word ≡ n

abbrev pub bytes_text : Form → List ℕ → List ℕ
bytes_text Own bytes = hex_text bytes
bytes_text Signed bytes = hex_text bytes
bytes_text BigEndian bytes = hex_text bytes
bytes_text Plain bytes = plain_text bytes
bytes_text (OfNumber v) bytes = hex_text bytes
bytes_text (OfBytes l) bytes = hex_text bytes
bytes_text (OfText l) bytes = hex_text bytes

abbrev pub IsBytesText : ℕ → Form → List ℕ → Type 0
IsBytesText k Own word = IsHexWord k word
IsBytesText k Signed word = IsHexWord k word
IsBytesText k BigEndian word = IsHexWord k word
IsBytesText k Plain word = IsPlainText k word
IsBytesText k (OfNumber v) word = IsHexWord k word
IsBytesText k (OfBytes l) word = IsHexWord k word
IsBytesText k (OfText l) word = IsHexWord k word

abbrev pub StandsForBytes : Form → List ℕ → List ℕ → Type 0
StandsForBytes Own word bytes = WritesBytes word bytes
StandsForBytes Signed word bytes = WritesBytes word bytes
StandsForBytes BigEndian word bytes = WritesBytes word bytes
StandsForBytes Plain word bytes = PadsText word bytes
StandsForBytes (OfNumber v) word bytes = WritesBytes word bytes
StandsForBytes (OfBytes l) word bytes = WritesBytes word bytes
StandsForBytes (OfText l) word bytes = WritesBytes word bytes
