-- Which lines of a script are commands. A line is its bytes, without its end.
--     IsNumberText word n      the word is decimal digits, one or more, that write n, which is below 2 ^ 64
--     IsPairText words m n     the words are two numbers' texts, m and n, with one space between them
--     IsWordText word r        the word is `len`, `walk`, `hex` or `dump`, and r is the request of this name
--     IsCommandText line c     the line is the word `new`, `put` or `get`, one space and the numbers of the command c;
--                              or the one word of the command c alone
--     IsHexText digits bytes   the digits, letters in either case, are the two of each byte in turn, as `hex` has them
--     IsCheckText line bytes   the line is the word `check`, one space and such digits of the bytes, of which there may
--                              be none
-- A space is the byte 32. Digits may begin with zeros; a sign is no digit.
use Rattle.std.specs.Prelude.{◌≡◌, ℕ, ◌^◌, ◌<◌, List, ◌∷◌, ◌++◌, codes}
use Rattle.std.specs.Str.Parse.{IsNumeral, digits_value}
use Rattle.std.specs.List.{All}
use Rattle.std.specs.Str.{str_to_ascii_lowercase}
use Rattle.odht_tool_core.specs.Texts.{hex_text}
use Rattle.odht_table.specs.declared.script.command.Command.{Command}
use Rattle.odht_table.specs.declared.script.command.Command.TheVariants.{New, OnTable}
use Rattle.odht_table.specs.declared.script.command.Request.{Request}
use Rattle.odht_table.specs.declared.script.command.Request.TheVariants.{Put, Get, Len, Walk, Hex, Dump}

pub record IsNumberText (word : List ℕ) (n : ℕ) : Type 0 where
  pub numeral : IsNumeral 10 word
  pub value : digits_value 10 word ≡ n
  pub fits : n < 2 ^ 64

pub record IsPairText (words : List ℕ) (m n : ℕ) : Type 0 where
  pub first : List ℕ
  pub second : List ℕ
  pub whole : words ≡ first ++ (32 ∷ second)
  pub first_number : IsNumberText first m
  pub second_number : IsNumberText second n

abbrev pub IsWordText : List ℕ → Request → Type 0
IsWordText word (Put key value) = ⊥
IsWordText word (Get key) = ⊥
IsWordText word Len = word ≡ codes "len"
IsWordText word Walk = word ≡ codes "walk"
IsWordText word Hex = word ≡ codes "hex"
IsWordText word Dump = word ≡ codes "dump"

abbrev pub IsCommandText : List ℕ → Command → Type 0
IsCommandText line (New items percent) = (words : List ℕ) × (line ≡ codes "new " ++ words) × IsPairText words items percent
IsCommandText line (OnTable (Put key value)) = (words : List ℕ) × (line ≡ codes "put " ++ words) × IsPairText words key value × (value < 2 ^ 32)
IsCommandText line (OnTable (Get key)) = (word : List ℕ) × (line ≡ codes "get " ++ word) × IsNumberText word key
IsCommandText line (OnTable Len) = IsWordText line Len
IsCommandText line (OnTable Walk) = IsWordText line Walk
IsCommandText line (OnTable Hex) = IsWordText line Hex
IsCommandText line (OnTable Dump) = IsWordText line Dump

pub record IsHexText (digits bytes : List ℕ) : Type 0 where
  pub text : str_to_ascii_lowercase digits ≡ hex_text bytes
  pub bytes_fit : All (λ b. b < 2 ^ 8) bytes

pub record IsCheckText (line bytes : List ℕ) : Type 0 where
  pub digits : List ℕ
  pub whole : line ≡ codes "check " ++ digits
  pub hex : IsHexText digits bytes
