-- Bytes as they are shown in a message, whatever they are.
--     shown_byte b         a printable character of ASCII is itself, but behind a backslash where it is a quote or a
--                          backslash; a tab is `\t`, and any other byte `\x` and its two digits in base 16
--     shown_text bs        those of the first 60 bytes between quotes; where there are more, then how many there are
use Rattle.std.specs.Prelude.{ℕ, List, [], ◌∷◌, ◌++◌, codes, decimal, flat_map, length, take, nat_lt, ◌==◌, ◌&&◌, ◌||◌, if◌then◌else◌}
use Rattle.odht_tool_core.specs.Texts.{hex_digits}

abbrev pub shown_byte : ℕ → List ℕ
shown_byte b =
    if b == 9 then codes "\\t"
    else if b == 34 || b == 92 then 92 ∷ b ∷ []
    else if nat_lt 31 b && nat_lt b 127 then b ∷ []
    else codes "\\x" ++ hex_digits b

abbrev pub more_text : ℕ → List ℕ
more_text n = if nat_lt 60 n then codes "... (" ++ decimal n ++ codes " bytes)" else []

abbrev pub shown_text : List ℕ → List ℕ
shown_text bs = codes "\"" ++ flat_map shown_byte (take 60 bs) ++ codes "\"" ++ more_text (length bs)
