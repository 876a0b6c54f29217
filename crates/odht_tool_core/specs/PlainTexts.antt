-- Plain texts, which are stored with zeros behind them.
--     is_plain c           the byte c may be in one: it is no NUL, no tab, and of no line end
--     IsPlainText n word   the word is at most n bytes, each of which may
--     PadsText word bytes  the bytes are those of the word, and zeros alone behind them
--     plain_text bytes     the bytes without the zeros at their end
-- A tab is the byte 9, the bytes of a line end are 10 and 13.
use Rattle.std.specs.Prelude.{◌≡◌, ◌≤◌, ◌==◌, ◌-◌, ◌++◌, ◌&&◌, Bool, not, ℕ, List, length, take, replicate}
use Rattle.std.specs.List.{AllPass, suffix_len}

abbrev pub is_plain : ℕ → Bool
is_plain c = not (c == 0) && (not (c == 9) && (not (c == 10) && not (c == 13)))

abbrev pub IsPlainText : ℕ → List ℕ → Type 0
IsPlainText n word = (length word ≤ n) × AllPass is_plain word

abbrev pub PadsText : List ℕ → List ℕ → Type 0
PadsText word bytes = bytes ≡ word ++ replicate (length bytes - length word) 0

abbrev pub is_zero : ℕ → Bool
is_zero c = c == 0

abbrev pub plain_text : List ℕ → List ℕ
plain_text bytes = take (length bytes - suffix_len is_zero bytes) bytes
