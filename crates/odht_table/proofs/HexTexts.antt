-- What follows from a text of hexadecimal digits: its length, that each is a digit, and that it has one decoding alone.
use Rattle.std.proofs.Common.{◌≡◌, ◌∙◌, ℕ, ◌+◌, ◌-◌, ◌*◌, ◌/◌, ◌%◌, ◌<◌, ◌^◌, inl, inr, true, false, List, [], ◌∷◌, ◌++◌, length, take, drop, get_or, sym, ap, subst, refl, arith}
use Rattle.std.specs.Prelude.{codes}
use Rattle.std.specs.Char.{is_ascii_hexdigit, to_ascii_lowercase}
use Rattle.std.specs.Fmt.{digit_glyph}
use Rattle.std.specs.List.{All, AllPass}
use Rattle.std.specs.Str.{str_to_ascii_lowercase}
use Rattle.std.proofs.lemmas.Bool.{cases_lt}
use Rattle.std.proofs.lemmas.List.Elements.{All-append, All-cons, All-head, All-nil, All-tail}
use Rattle.std.proofs.lemmas.List.{length-map}
use Rattle.odht_tool_core.specs.Texts.{hex_text}
use Rattle.odht_tool_core.proofs.Words.{one_more as two_more}
use Rattle.odht_table.specs.Commands.{IsHexText, IsCheckText}

-- c is a hexadecimal digit, of either case
abbrev IsDigit : ℕ → Type 0
IsDigit c = is_ascii_hexdigit c ≡ true

-- b is a byte
abbrev IsByte : ℕ → Type 0
IsByte b = b < 2 ^ 8

-- a digit that becomes that of a value below sixteen is one
digit_passes : (c v : ℕ) → v < 16 → to_ascii_lowercase c ≡ digit_glyph false v → is_ascii_hexdigit c ≡ true
digit_passes c v l e = grind (arith)

-- the digit of a value below sixteen is that of no other
glyph_same : (v w : ℕ) → v < 16 → w < 16 → digit_glyph false v ≡ digit_glyph false w → v ≡ w
glyph_same v w l m e = grind (arith)

-- what two equal lists begin with, and what follows it
head_same : (a b : ℕ) (xs ys : List ℕ) → a ∷ xs ≡ b ∷ ys → a ≡ b
head_same a b xs ys e = cc

tail_same : (a b : ℕ) (xs ys : List ℕ) → a ∷ xs ≡ b ∷ ys → xs ≡ ys
tail_same a b xs ys e = cc

-- each byte has two digits
pub length-hex_text : (bytes : List ℕ) → length (hex_text bytes) ≡ 2 * length bytes
length-hex_text [] = refl
length-hex_text (b ∷ bytes) = let e = length-hex_text bytes in omega (arith, e)

-- each digit of a text is a hexadecimal one
pub digits_pass : (digits bytes : List ℕ) → str_to_ascii_lowercase digits ≡ hex_text bytes → All IsByte bytes → AllPass is_ascii_hexdigit digits
digits_pass [] bytes e h = All-nil IsDigit
digits_pass (c ∷ digits) [] e h = absurd (omega (arith, ap length e))
digits_pass (c ∷ []) (b ∷ bytes) e h = absurd (omega (arith, ap length e))
digits_pass (c ∷ d ∷ digits) (b ∷ bytes) e h =
    let small : b < 2 ^ 8 = All-head IsByte b bytes h in
    let rest = tail_same _ _ _ _ e in
    All-cons IsDigit c (d ∷ digits) (digit_passes c (b / 16) (omega (arith, small)) (head_same _ _ _ _ e))
    (All-cons IsDigit d digits (digit_passes d (b % 16) (omega arith) (head_same _ _ _ _ rest))
    (digits_pass digits bytes (tail_same _ _ _ _ rest) (All-tail IsByte b bytes h)))

-- a text has an even number of digits
pub digits_even : (digits bytes : List ℕ) → IsHexText digits bytes → length digits % 2 ≡ 0
digits_even digits bytes h = omega (arith, length-map digits to_ascii_lowercase, ap length h.text, length-hex_text bytes)

-- a text decodes to one list of bytes
pub bytes_same : (xs ys : List ℕ) → All IsByte xs → All IsByte ys → hex_text xs ≡ hex_text ys → xs ≡ ys
bytes_same [] [] h k e = refl
bytes_same [] (y ∷ ys) h k e = absurd (omega (arith, ap length e))
bytes_same (x ∷ xs) [] h k e = absurd (omega (arith, ap length e))
bytes_same (x ∷ xs) (y ∷ ys) h k e =
    let low : x < 2 ^ 8 = All-head IsByte x xs h in
    let small : y < 2 ^ 8 = All-head IsByte y ys k in
    let rest = tail_same _ _ _ _ e in
    let highs = glyph_same (x / 16) (y / 16) (omega (arith, low)) (omega (arith, small)) (head_same _ _ _ _ e) in
    let lows = glyph_same (x % 16) (y % 16) (omega arith) (omega arith) (head_same _ _ _ _ rest) in
    let same : x ≡ y = omega (arith, highs, lows) in
    let others = bytes_same xs ys (All-tail IsByte x xs h) (All-tail IsByte y ys k) (tail_same _ _ _ _ rest) in
    cc

-- no digits are the digits of no bytes
pub no_bytes : IsHexText [] []
no_bytes = record { text = refl; bytes_fit = All-nil IsByte }

-- two more digits are those of one more byte
pub one_more : (digits bytes : List ℕ) (at high low : ℕ) → IsHexText (take (2 * at) digits) bytes → 2 * at + 1 < length digits
    → high < 16 → low < 16
    → to_ascii_lowercase (get_or digits (2 * at) 0) ≡ digit_glyph false high
    → to_ascii_lowercase (get_or digits (2 * at + 1) 0) ≡ digit_glyph false low
    → IsHexText (take (2 * (at + 1)) digits) (bytes ++ ((16 * high + low) ∷ []))
one_more digits bytes at high low h l small_high small_low is_high is_low =
    let value = 16 * high + low in
    let fits : value < 2 ^ 8 = omega (arith, small_high, small_low) in
    record {
      text = two_more digits bytes at high low h.text l small_high small_low is_high is_low;
      bytes_fit = All-append IsByte bytes (value ∷ []) h.bytes_fit (All-cons IsByte value [] fits (All-nil IsByte));
    }

-- each digit is that of a value below sixteen
digit_has_value : (c : ℕ) → is_ascii_hexdigit c ≡ true → (v : ℕ) × (v < 16) × (to_ascii_lowercase c ≡ digit_glyph false v)
digit_has_value c h =
    elim (cases_lt c 58) [
      | inl low ↦ (c - 48, grind (arith), grind (arith))
      | inr high ↦ (to_ascii_lowercase c - 87, grind (arith), grind (arith))
    ]

-- an even number of digits writes some bytes
pub digits_have_bytes : (digits : List ℕ) → length digits % 2 ≡ 0 → AllPass is_ascii_hexdigit digits → (bytes : List ℕ) × IsHexText digits bytes
digits_have_bytes [] even h = ([], no_bytes)
digits_have_bytes (c ∷ []) even h = absurd (omega (arith, even))
digits_have_bytes (c ∷ d ∷ digits) even h =
    let others = All-tail IsDigit c (d ∷ digits) h in
    let high = digit_has_value c (All-head IsDigit c (d ∷ digits) h) in
    let low = digit_has_value d (All-head IsDigit d digits others) in
    let rest = digits_have_bytes digits (omega (arith, even)) (All-tail IsDigit d digits others) in
    let value = 16 * high.0 + low.0 in
    let fits : value < 2 ^ 8 = omega (arith, high.1, low.1) in
    let highs : value / 16 ≡ high.0 = omega (arith, low.1) in
    let lows : value % 16 ≡ low.0 = omega (arith, low.1) in
    let text : str_to_ascii_lowercase (c ∷ d ∷ digits) ≡ hex_text (value ∷ rest.0) = two_more c d digits value rest.0 (high.2 ∙ ap (digit_glyph false) (sym highs)) (low.2 ∙ ap (digit_glyph false) (sym lows)) rest.1.text in
    (value ∷ rest.0, record { text = text; bytes_fit = All-cons IsByte value rest.0 fits rest.1.bytes_fit })
  where
    two_more : (c d : ℕ) (digits : List ℕ) (b : ℕ) (bytes : List ℕ) → to_ascii_lowercase c ≡ digit_glyph false (b / 16) → to_ascii_lowercase d ≡ digit_glyph false (b % 16)
        → str_to_ascii_lowercase digits ≡ hex_text bytes → str_to_ascii_lowercase (c ∷ d ∷ digits) ≡ hex_text (b ∷ bytes)
    two_more c d digits b bytes p q e = ap (λ x. x ∷ str_to_ascii_lowercase (d ∷ digits)) p ∙ ap (λ x. digit_glyph false (b / 16) ∷ x ∷ str_to_ascii_lowercase digits) q ∙ ap (λ xs. digit_glyph false (b / 16) ∷ digit_glyph false (b % 16) ∷ xs) e

-- digits are those of one list of bytes alone
pub hex_same : (digits xs ys : List ℕ) → IsHexText digits xs → IsHexText digits ys → xs ≡ ys
hex_same digits xs ys h k = bytes_same xs ys h.bytes_fit k.bytes_fit (sym h.text ∙ k.text)

-- what follows the word of a line that checks bytes are their digits
pub check_digits : (line digits bytes : List ℕ) → line ≡ codes "check " ++ digits → IsCheckText line bytes → IsHexText digits bytes
check_digits line digits bytes e h = subst (λ ds. IsHexText ds bytes) (ap (drop 6) (sym h.whole ∙ e)) h.hex

-- the word and an even number of digits are such a line
pub digits_check : (line digits : List ℕ) → line ≡ codes "check " ++ digits → length digits % 2 ≡ 0 → AllPass is_ascii_hexdigit digits → (bytes : List ℕ) × IsCheckText line bytes
digits_check line digits e even h =
    let written = digits_have_bytes digits even h in
    (written.0, record { digits = digits; whole = e; hex = written.1 })
